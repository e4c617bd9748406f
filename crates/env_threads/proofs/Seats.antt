-- The workers of a script, from their split to the close.
-- Cited by `perform`, `run`, `join_all`, `start_all`.
use Rattle.std.proofs.Common.{◌≡◌, ℕ, zero, suc, ◌+◌, ◌-◌, ◌<◌, ◌≤◌, Bool, true, false, cond, eqb, append-nil, List, [], ◌∷◌, ◌++◌}
use Rattle.std.proofs.Common.{length, map, refl, sym, ap, subst, ◌∙◌, length-append, get_or, Option, Some, None, arith, inl, inr}
use Rattle.std.specs.Prelude.{is_none, slice_get}
use Rattle.std.proofs.lemmas.List.{map-append}
use Rattle.std.proofs.lemmas.Option.{none-some, same_Some, slice_get_within, slice_get-get_or}
use Rattle.list_laws.proofs.Places.{slice_get-more, slice_get_push}
use Rattle.list_laws.proofs.Elements.{slice_get-end}
use Rattle.std.specs.List.{AllByRecursion}
use Rattle.std.proofs.lemmas.Bool.{and_parts}
use Rattle.std.proofs.lemmas.List.Elements.{filter_map-append}
use Rattle.task_base.specs.Plan.{Plan}
use Rattle.task_base.specs.declared.entry.Entry.{Entry}
use Rattle.task_base.specs.declared.entry.Kind.{Kind}
use Rattle.task_base.specs.declared.entry.Kind.TheVariants as kinds
use Rattle.task_model.specs.Orders.{moment_of}
use Rattle.task_model.specs.Seats.{is_free}
use Rattle.pool_laws.proofs.Seats.Running.{free_is_quiet}
use Rattle.hist_model.specs.Allowed.{by_script, may_come}
use Rattle.hist_model.specs.Legal.{IsLegal}
use Rattle.hist_model.specs.Moments.{ticks_of}
use Rattle.hist_model.specs.Open.{IsClosed}
use Rattle.hist_model.specs.Script.{Current, current, is_finished, IsWhole}
use Rattle.hist_model.proofs.Laws.Open.{closed_finished}
use Rattle.hist_model.specs.Views.{own_entries}
use Rattle.hist_model.proofs.Laws.Legal.{entry_induction}
use Rattle.hist_model.proofs.Laws.Own.{holding_own, own_entries_push, running_own}
use Rattle.turn_table.specs.Seats.{TurnKey, SeatView, Rising, Tells}
use Rattle.env_crew.specs.Driving.{AllFree, HasMomentsOf, SameDesks}
use Rattle.env_crew.specs.Serving.{IsFree}
use Rattle.env_shared.specs.Sits.{Seated, SitterView, desk_of}
use Rattle.env_shared.specs.Splits.{IsWorker, AreWorkers}
use Rattle.env_shared.proofs.Sits.{same_environment}
use Rattle.env_threads.specs.Crew.{refused, ArePromised, IsSpare, AreSpare, AreBack}

-- Numbers of refused starts.

pub refused_some : {H : Type 0} (n : ℕ) (starts : List (Option H)) (h : H) → refused n (starts ++ Some h ∷ []) ≡ refused n starts
refused_some n [] h = refl
refused_some n (None ∷ starts) h = ap (λ l. n ∷ l) (refused_some (n - 1) starts h)
refused_some n (Some k ∷ starts) h = refused_some (n - 1) starts h

pub refused_none : {H : Type 0} (n : ℕ) (starts : List (Option H)) → refused n (starts ++ None ∷ []) ≡ refused n starts ++ (n - length starts) ∷ []
refused_none n [] = ap (λ k. k ∷ []) (omega arith)
refused_none n (None ∷ starts) = ap (λ l. n ∷ l) (refused_none (n - 1) starts ∙ ap (λ k. refused (n - 1) starts ++ k ∷ []) (omega arith))
refused_none n (Some k ∷ starts) = refused_none (n - 1) starts ∙ ap (λ k. refused (n - 1) starts ++ k ∷ []) (omega arith)

-- Seats in rising order.

pub workers_pop : (key : TurnKey) (n : ℕ) (seats : List SeatView) (s : SeatView) → AreWorkers key n (seats ++ s ∷ [])
    → AreWorkers key n seats × IsWorker key (n + length seats) s
workers_pop key n [] s all = (tt, subst (λ k. IsWorker key k s) (omega arith) all.0)
workers_pop key n (x ∷ seats) s all =
    let rest = workers_pop key (n + 1) seats s all.1 in ((all.0, rest.0), subst (λ k. IsWorker key k s) (omega arith) rest.1)

pub workers_rise : (key : TurnKey) (n : ℕ) (seats : List SeatView) → AreWorkers key n seats → Rising key n seats
workers_rise key n [] all = tt
workers_rise key n (s ∷ seats) all = (all.0.of_is, all.0.number_is, workers_rise key (n + 1) seats all.1)

-- the last of the seats that are left, where the others were started
pub last_left : {H : Type 0} (key : TurnKey) (n : ℕ) (seats front : List SeatView) (s : SeatView) (starts : List (Option H)) → seats ≡ front ++ s ∷ []
    → AreWorkers key 1 seats → length seats + length starts ≡ n
    → AreWorkers key 1 front × IsWorker key (n - length starts) s × (length seats ≡ length front + 1)
last_left key n seats front s starts parts all sum =
    let more : length seats ≡ length front + 1 = ap length parts ∙ length-append front (s ∷ []) in
    let both = workers_pop key 1 front s (subst (AreWorkers key 1) parts all) in
    (both.0, subst (λ k. IsWorker key k s) (omega (arith, more, sum)) both.1, more)

-- a worker by its own number
pub its_own : (key : TurnKey) (n : ℕ) (s : SeatView) → IsWorker key n s → IsWorker key s.number s
its_own key n s w = subst (λ k. IsWorker key k s) (sym w.number_is) w

-- A worker's desk.

-- the desk of a worker may serve as a spare one
pub sits_spare : (key : TurnKey) (n : ℕ) (d : SitterView) → IsWorker key n d.seat → Seated d.seat → 0 < n → n ≤ key.basis.workers → IsSpare key d
sits_spare key n d w seated some known = record {
  table_is = ap (λ k. k.table) w.of_is;
  script_is = ap (λ k. k.basis) w.of_is;
  free = record {
    worker = rw w.number_is some;
    known = rw (w.number_is, w.of_is) known;
    free = rw (seated.own, w.number_is) w.free;
  };
}

-- and the seat that leaves a free desk is the worker's
pub leaves_free : (key : TurnKey) (n : ℕ) (s : SeatView) → s.of.table ≡ key.table → s.of.basis ≡ key.basis → key.stands ≡ true → s.number ≡ n
    → IsFree (desk_of (record { seat = s; rests = false })) → Seated s → IsWorker key n s
leaves_free key n s table script stands number free seated = record {
  of_is = same_environment key s table script stands seated;
  number_is = number;
  free = rw (← number, ← seated.own) free.free;
}

-- Starts.

pub promised_some : {H : Type 0} (given : H → SeatView) (key : TurnKey) (n : ℕ) (starts : List (Option H)) (h : H) → ArePromised given key n starts
    → (given h).of ≡ key → (given h).number ≡ n - length starts → ArePromised given key n (starts ++ Some h ∷ [])
promised_some given key n starts h was of_is number_is i k k_is = elim (slice_get_push starts (Some h) i (Some k) k_is) [
  | inl p ↦ was i k p.1
  | inr p ↦ let same : h ≡ k = same_Some h k p.1 in rw (← same, p.0) (of_is, number_is)
]

pub promised_none : {H : Type 0} (given : H → SeatView) (key : TurnKey) (n : ℕ) (starts : List (Option H)) → ArePromised given key n starts
    → ArePromised given key n (starts ++ None ∷ [])
promised_none given key n starts was i k k_is = elim (slice_get_push starts None i (Some k) k_is) [
  | inl p ↦ was i k p.1
  | inr p ↦ absurd (none-some k p.1)
]

pub promised_front : {H : Type 0} (given : H → SeatView) (key : TurnKey) (n : ℕ) (starts : List (Option H)) (o : Option H)
    → ArePromised given key n (starts ++ o ∷ []) → ArePromised given key n starts
promised_front given key n starts o was i k k_is = was i k (slice_get-more starts (o ∷ []) i (Some k) k_is)

-- Spare desks.

pub spare_push : (key : TurnKey) (numbers : List ℕ) (desks : List SitterView) (d : SitterView) → AreSpare key numbers desks → IsSpare key d
    → AreSpare key (numbers ++ d.seat.number ∷ []) (desks ++ d ∷ [])
spare_push key numbers desks d was one = record {
  numbers_are = map-append (λ x. x.seat.number) desks (d ∷ []) ∙ ap (λ l. l ++ d.seat.number ∷ []) was.numbers_are;
  each = λ i x x_is. elim (slice_get_push desks d i x x_is) [
    | inl p ↦ was.each i x p.1
    | inr p ↦ subst (IsSpare key) p.1 one
  ];
}

-- two lists with one item at the end
same_last : (xs ys : List ℕ) (x y : ℕ) → xs ++ x ∷ [] ≡ ys ++ y ∷ [] → (xs ≡ ys) × (x ≡ y)
same_last [] [] x y h = (refl, cc)
same_last [] (b ∷ []) x y h = absurd cc
same_last [] (b ∷ c ∷ ys) x y h = absurd cc
same_last (a ∷ []) [] x y h = absurd cc
same_last (a ∷ c ∷ xs) [] x y h = absurd cc
same_last (a ∷ xs) (b ∷ ys) x y h =
    let head : a ≡ b = cc in let tail : xs ++ x ∷ [] ≡ ys ++ y ∷ [] = cc in
    let both = same_last xs ys x y tail in (rw (head, both.0) refl, both.1)

-- the last of the desks has the last of the numbers
pub spare_pop : (key : TurnKey) (numbers : List ℕ) (n : ℕ) (desks : List SitterView) (d : SitterView) → AreSpare key (numbers ++ n ∷ []) (desks ++ d ∷ [])
    → AreSpare key numbers desks × (d.seat.number ≡ n) × IsSpare key d
spare_pop key numbers n desks d was =
    let both = same_last (map (λ x. x.seat.number) desks) numbers d.seat.number n (sym (map-append (λ x. x.seat.number) desks (d ∷ [])) ∙ was.numbers_are) in (
      record { numbers_are = both.0; each = λ i x x_is. was.each i x (slice_get-more desks (d ∷ []) i x x_is) },
      both.1,
      was.each (length desks) d (slice_get-end desks d),
    )

-- where a number is left, so is a desk
pub spare_there : (key : TurnKey) (numbers : List ℕ) (n : ℕ) (desks : List SitterView) → desks ≡ [] → AreSpare key (numbers ++ n ∷ []) desks → ⊥
spare_there key numbers n desks none was = omega (
  arith,
  length-append numbers (n ∷ []),
  ap length was.numbers_are,
  ap (λ l. length (map (λ d. d.seat.number) l)) none,
)

-- the same desks, later on
pub spare_later : (key : TurnKey) (numbers : List ℕ) (xs ys : List SitterView) → AreSpare key numbers xs → AllFree desk_of ys → SameDesks desk_of xs ys
    → AreSpare key numbers ys
spare_later key numbers xs ys was free same = record {
  numbers_are = same_numbers xs ys same ∙ was.numbers_are;
  each = λ i d d_is.
      let b = get_or xs i d in
      let there : slice_get xs i ≡ Some b = slice_get-get_or xs i d (omega (arith, slice_get_within ys i d d_is, same.as_many)) in
      let later = same.each i b d there d_is in let before = was.each i b there in record {
        table_is = ap (λ o. o.table) later.origin_is ∙ before.table_is;
        script_is = later.script_is ∙ before.script_is;
        free = free i d d_is;
      };
}
  where
    same_numbers : (xs ys : List SitterView) → SameDesks desk_of xs ys → map (λ d. d.seat.number) ys ≡ map (λ d. d.seat.number) xs
    same_numbers [] [] p = refl
    same_numbers [] (y ∷ ys) p = absurd (omega (arith, p.as_many))
    same_numbers (x ∷ xs) [] p = absurd (omega (arith, p.as_many))
    same_numbers (x ∷ xs) (y ∷ ys) p =
        let rest = same_numbers xs ys (record { as_many = omega (arith, p.as_many); each = λ i a b a_is b_is. p.each (suc i) a b a_is b_is }) in
        rw ((p.each 0 x y refl refl).seat_is, rest) refl

-- The close.

-- a script that is finished wants nothing more of the driver
finished_none : (script : Plan) (past : List Entry) → IsClosed script → is_finished script past ≡ true → current script (own_entries 0 past) ≡ None
finished_none script past closed done = by_current (current script (own_entries 0 past)) (sym (closed_finished script past closed) ∙ done)
  where
    by_current : (o : Option Current) → is_none o ≡ true → o ≡ None
    by_current None h = refl
    by_current (Some c) h = absurd cc

-- so it is with the driver's seat that leaves its desk
pub driver_finished : (key : TurnKey) (d : SitterView) (s : SeatView) → IsClosed key.basis → s ≡ d.seat → s.of.basis ≡ key.basis → s.number ≡ 0
    → Seated s → is_finished d.seat.of.basis d.seat.seen ≡ true → current key.basis s.mine ≡ None
driver_finished key d s closed out script number seated done =
    ap (λ p. current p s.mine) (sym script)
    ∙ ap (λ own. current s.of.basis own) (sym seated.own ∙ ap (λ n. own_entries n s.seen) number)
    ∙ finished_none s.of.basis s.seen (ap (λ p. p.is_open) script ∙ closed) (subst (λ x. is_finished x.of.basis x.seen ≡ true) (sym out) done)

-- and it is free
pub driver_free : (d : SitterView) (s : SeatView) → s ≡ d.seat → Seated s → is_free (own_entries d.seat.number d.seat.seen) 0 ≡ true → is_free s.mine 0 ≡ true
driver_free d s out seated free = ap (λ own. is_free own 0) (sym seated.own) ∙ subst (λ x. is_free (own_entries x.number x.seen) 0 ≡ true) (sym out) free

-- a seat is free by its own entries
free_own : (past : List Entry) (seat : ℕ) → is_free (own_entries seat past) seat ≡ is_free past seat
free_own past seat = rw (running_own past seat, holding_own past seat) refl

-- so each worker is free behind the run
workers_free : (key : TurnKey) (n : ℕ) (rest : List SeatView) (log : List Entry) → AreWorkers key n rest → AllByRecursion (Tells log) rest → (k : ℕ)
    → k < length rest
    → is_free log (n + k) ≡ true
workers_free key n [] log all told k low = absurd (omega (arith, low))
workers_free key n (s ∷ rest) log all told zero low =
    let own : own_entries n log ≡ s.mine = ap (λ m. own_entries m log) (sym all.0.number_is) ∙ told.0.own in
    subst (λ m. is_free log m ≡ true) (omega arith) (sym (free_own log n) ∙ ap (λ l. is_free l n) own ∙ all.0.free)
workers_free key n (s ∷ rest) log all told (suc k) low =
    subst (λ m. is_free log m ≡ true) (omega arith) (workers_free key (n + 1) rest log all.1 told.1 k (omega (arith, low)))

-- and so the history is whole
pub whole_at_end : (script : Plan) (log : List Entry) (key : TurnKey) (workers : ℕ) (first : SeatView) (rest : List SeatView) → IsClosed script
    → AreBack key workers first rest → key.basis ≡ script → workers ≡ script.workers → Tells log first → AllByRecursion (Tells log) rest → IsWhole script log
whole_at_end script log key workers first rest closed back basis count told others =
    rw (closed_finished script log closed, done, free_is_quiet script log each) refl
  where
    own : own_entries 0 log ≡ first.mine
    own = ap (λ m. own_entries m log) (sym back.number_is) ∙ told.own

    done : is_none (current script (own_entries 0 log)) ≡ true
    done = rw (own, ← basis, back.finished) refl

    each : (seat : ℕ) → seat < script.workers + 1 → is_free log seat ≡ true
    each zero low = sym (free_own log 0) ∙ ap (λ l. is_free l 0) own ∙ back.free
    each (suc k) low = subst (λ m. is_free log m ≡ true) (omega arith) (workers_free key 1 rest log back.rising others k (omega (arith, low, back.all, count)))

-- Ticks.

-- one more entry: a tick is the driver's
tick_step : (script : Plan) (past : List Entry) (seat : ℕ) (kind : Kind) → may_come script past seat kind ≡ true → ticks_of (own_entries 0 past) ≡ ticks_of past
    → ticks_of (cond (eqb seat 0) (own_entries 0 past ++ record { seat = seat; kind = kind } ∷ []) (own_entries 0 past))
    ≡ ticks_of past ++ ticks_of (record { seat = seat; kind = kind } ∷ [])
unfolding may_come by_script
tick_step script past seat (kinds.Tick now) may same =
    let first = and_parts _ _ may in
    let second = and_parts (by_script script past seat (kinds.Tick now)) _ first.0 in
    let driver = and_parts (eqb seat 0) _ second.0 in
    rw driver.0 (filter_map-append (λ (e : Entry). moment_of e.kind) (own_entries 0 past) (record { seat = seat; kind = kinds.Tick now } ∷ []) ∙ rw same refl)
tick_step script past seat kind may same = by_seat (eqb seat 0)
  where
    by_seat : (b : Bool) → ticks_of (cond b (own_entries 0 past ++ record { seat = seat; kind = kind } ∷ []) (own_entries 0 past))
        ≡ ticks_of past ++ ticks_of (record { seat = seat; kind = kind } ∷ [])
    by_seat true = filter_map-append (λ (e : Entry). moment_of e.kind) (own_entries 0 past) (record { seat = seat; kind = kind } ∷ []) ∙ rw same refl
    by_seat false = same ∙ sym (append-nil (ticks_of past))

-- the ticks of a legal history are the driver's
own_ticks : (script : Plan) (past : List Entry) → IsLegal script past → ticks_of (own_entries 0 past) ≡ ticks_of past
own_ticks script = entry_induction script (λ past. ticks_of (own_entries 0 past) ≡ ticks_of past) refl (λ past e known may same.
    ap ticks_of (own_entries_push past e 0) ∙ tick_step script past e.seat e.kind may same
    ∙ sym (filter_map-append (λ (x : Entry). moment_of x.kind) past (e ∷ [])))

-- so the driver's entries tell the moments of the history
pub moments_whole : (told : ℕ → Option ℕ) (script : Plan) (log : List Entry) (first : SeatView) → IsLegal script log → first.number ≡ 0 → Tells log first
    → HasMomentsOf told first.mine → HasMomentsOf told log
moments_whole told script log first legal number own moments readings begins count = same ∙ moments readings begins (count ∙ ap length same)
  where
    same : ticks_of log ≡ ticks_of first.mine
    same = sym (own_ticks script log legal) ∙ ap (λ n. ticks_of (own_entries n log)) (sym number) ∙ ap ticks_of own.own
