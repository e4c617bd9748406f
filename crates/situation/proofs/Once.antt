-- No whole log is listed twice.
-- Cited by `logs.rt`.
use Rattle.std.proofs.Common.{◌≡◌, ℕ, zero, suc, ◌+◌, ◌≤◌, Bool, true, false, cond, List, [], ◌∷◌, ◌++◌, length, map, refl, ap}
use Rattle.std.proofs.Common.{Option, Some, None, arith}
use Rattle.std.specs.Prelude.{Contains, flat_map, option_and_then}
use Rattle.std.specs.List.{AllByRecursion, range_with_len}
use Rattle.task_base.specs.Plan.{Plan}
use Rattle.task_base.specs.declared.entry.Entry.{Entry}
use Rattle.task_base.specs.declared.entry.Kind.{Kind}
use Rattle.task_base.specs.declared.entry.Kind.TheVariants as kinds
use Rattle.list_laws.proofs.Elements.{AllByRecursion-always, AllByRecursion-append, AllByRecursion-both, AllByRecursion-each_list, AllByRecursion-map}
use Rattle.list_laws.proofs.Elements.{AllByRecursion-mapped}
use Rattle.list_laws.proofs.Made.{contains_range}
use Rattle.script_model.specs.Bound.{events_bound_of}
use Rattle.script_model.specs.Laws.Sound.{IsSound}
use Rattle.task_model.specs.Seats.{all_seats}
use Rattle.hist_model.specs.Allowed.{is_allowed}
use Rattle.hist_model.specs.Script.{is_whole}
use Rattle.hist_model.specs.Laws.Ways.{way_on}
use Rattle.hist_model.proofs.Laws.Entries.Bound.{entries_within}
use Rattle.hist_model.proofs.Laws.Legal.{nothing_is_legal}
use Rattle.situation.specs.Counts.{goings, IsFuture, IsWholeLog, NoDoubles, ReadsBy, at_moment, beginning_with, futures, if_allowed, next_of, whole_logs}
use Rattle.situation.specs.Situation.{Situation, situation_of}
use Rattle.situation.proofs.Listed.{futures_are_listed, in_flat_map, listed_are_futures}

-- ---- lists without doubles

no_doubles-append : {A : Type 0} (xs ys : List A) → NoDoubles xs → NoDoubles ys → AllByRecursion (λ x. AllByRecursion (λ y. x ≡ y → ⊥) ys) xs
    → NoDoubles (xs ++ ys)
no_doubles-append [] ys one two apart = two
no_doubles-append (x ∷ xs) ys one two apart =
    (AllByRecursion-append (λ y. x ≡ y → ⊥) xs ys one.0 apart.0, no_doubles-append xs ys one.1 two apart.1)

no_doubles-map : {A B : Type 0} (f : A → B) (xs : List A) → ((x y : A) → f x ≡ f y → x ≡ y) → NoDoubles xs → NoDoubles (map f xs)
no_doubles-map f [] apart none = tt
no_doubles-map f (x ∷ xs) apart none = (
  AllByRecursion-mapped (λ z. f x ≡ z → ⊥) f xs
      (AllByRecursion-map (λ y. x ≡ y → ⊥) (λ y. f x ≡ f y → ⊥) xs (λ y differ same. differ (apart x y same)) none.0),
  no_doubles-map f xs apart none.1,
)

-- lists one after the other, each of elements that are told by its number
module _ {A : Type 0} (f : ℕ → List A) (number : A → ℕ) (each : (n : ℕ) → NoDoubles (f n))
    (told : (n : ℕ) → AllByRecursion (λ x. number x ≡ n) (f n)) where
  from_there : (start len : ℕ) → AllByRecursion (λ x. start ≤ number x) (flat_map f (range_with_len start len))
  from_there start zero = tt
  from_there start (suc len) = AllByRecursion-append (λ x. start ≤ number x) (f start) (flat_map f (range_with_len (start + 1) len))
      (AllByRecursion-map (λ x. number x ≡ start) (λ x. start ≤ number x) (f start) (λ x is. omega (arith, is)) (told start))
      (AllByRecursion-map (λ x. start + 1 ≤ number x) (λ x. start ≤ number x) (flat_map f (range_with_len (start + 1) len))
      (λ x more. omega (arith, more)) (from_there (start + 1) len))

  no_doubles-numbered : (start len : ℕ) → NoDoubles (flat_map f (range_with_len start len))
  no_doubles-numbered start zero = tt
  no_doubles-numbered start (suc len) = no_doubles-append (f start) (flat_map f (range_with_len (start + 1) len)) (each start)
      (no_doubles-numbered (start + 1) len)
      (AllByRecursion-map (λ x. number x ≡ start) (λ x. AllByRecursion (λ y. x ≡ y → ⊥) (flat_map f (range_with_len (start + 1) len))) (f start)
      (λ x is. AllByRecursion-map (λ y. start + 1 ≤ number y) (λ y. x ≡ y → ⊥) (flat_map f (range_with_len (start + 1) len))
      (λ y more same. absurd (omega (arith, is, more, ap number same))) (from_there (start + 1) len)) (told start))

-- ---- what goes on from a past

-- the seat of the first entry
first_seat : List Entry → ℕ
first_seat [] = 0
first_seat (e ∷ rest) = e.seat

module _ (script : Plan) (tick : Situation → ℕ) where
  -- what a seat may make is an entry of that seat
  begins_by_seat : (past : List Entry) (rests : Entry → List (List Entry)) (seat : ℕ)
      → AllByRecursion (λ log. first_seat log ≡ seat) (beginning_with (next_of script tick past seat) rests)
  unfolding first_seat
  begins_by_seat past rests seat = by_way (way_on script past seat)
    where
      by_allowed : (e : Entry) → e.seat ≡ seat → (b : Bool) → AllByRecursion (λ log. first_seat log ≡ seat) (beginning_with (cond b (Some e) None) rests)
      by_allowed e is true = AllByRecursion-mapped (λ log. first_seat log ≡ seat) (λ rest. e ∷ rest) (rests e)
          (AllByRecursion-always (λ rest. e.seat ≡ seat) (rests e) (λ rest. is))
      by_allowed e is false = tt

      by_way : (o : Option Kind) → AllByRecursion (λ log. first_seat log ≡ seat)
          (beginning_with (option_and_then (λ way. if_allowed script past
          (record { seat = seat; kind = at_moment (tick (situation_of script past)) way })) o) rests)
      by_way None = tt
      by_way (Some way) = by_allowed (record { seat = seat; kind = at_moment (tick (situation_of script past)) way }) refl
          (is_allowed script past (record { seat = seat; kind = at_moment (tick (situation_of script past)) way }))

  no_doubles-beginning : (o : Option Entry) (rests : Entry → List (List Entry)) → ((e : Entry) → NoDoubles (rests e)) → NoDoubles (beginning_with o rests)
  no_doubles-beginning None rests each = tt
  no_doubles-beginning (Some e) rests each = no_doubles-map (λ rest. e ∷ rest) (rests e) (λ x y same. cc) (each e)

  pub each_going_once : (test : List Entry → Bool) (n : ℕ) (past : List Entry) → NoDoubles (goings test script tick n past)
  each_going_once test zero past = by_test (test past)
    where
      by_test : (b : Bool) → NoDoubles {A = List Entry} (cond b ([] ∷ []) [])
      by_test true = (tt, tt)
      by_test false = tt
  each_going_once test (suc n) past =
      no_doubles-numbered (λ seat. beginning_with (next_of script tick past seat) (λ e. goings test script tick n (past ++ e ∷ []))) first_seat
      (λ seat. no_doubles-beginning (next_of script tick past seat) (λ e. goings test script tick n (past ++ e ∷ []))
      (λ e. each_going_once test n (past ++ e ∷ [])))
      (begins_by_seat past (λ e. goings test script tick n (past ++ e ∷ []))) 0 (script.workers + 1)

  pub each_future_once : (n : ℕ) (past : List Entry) → NoDoubles (futures script tick n past)
  each_future_once n past = each_going_once (is_whole script) n past

  -- ---- ticks read what they are told to

  twice : (moment : ℕ) (kind : Kind) → at_moment moment (at_moment moment kind) ≡ at_moment moment kind
  twice moment (kinds.Tick now) = refl
  twice moment kind = refl

  pub listed_read_by : (test : List Entry → Bool) (n : ℕ) (past : List Entry) → AllByRecursion (ReadsBy script tick past) (goings test script tick n past)
  listed_read_by test zero past = by_test (test past)
    where
      by_test : (b : Bool) → AllByRecursion (ReadsBy script tick past) (cond b ([] ∷ []) [])
      by_test true = (tt, tt)
      by_test false = tt
  listed_read_by test (suc n) past =
      AllByRecursion-each_list (ReadsBy script tick past)
      (λ seat. beginning_with (next_of script tick past seat) (λ e. goings test script tick n (past ++ e ∷ [])))
      (all_seats script) (λ seat. by_way (λ e. listed_read_by test n (past ++ e ∷ [])) seat (way_on script past seat))
    where
      by_allowed : ((e : Entry) → AllByRecursion (ReadsBy script tick (past ++ e ∷ [])) (goings test script tick n (past ++ e ∷ [])))
          → (seat : ℕ) (way : Kind) (b : Bool)
          → AllByRecursion (ReadsBy script tick past)
          (beginning_with (cond b (Some (record { seat = seat; kind = at_moment (tick (situation_of script past)) way })) None)
          (λ e. goings test script tick n (past ++ e ∷ [])))
      by_allowed later seat way false = tt
      by_allowed later seat way true =
          let e : Entry = record { seat = seat; kind = at_moment (tick (situation_of script past)) way } in
          AllByRecursion-mapped (ReadsBy script tick past) (λ rest. e ∷ rest) (goings test script tick n (past ++ e ∷ []))
          (AllByRecursion-map (ReadsBy script tick (past ++ e ∷ [])) (λ rest. ReadsBy script tick past (e ∷ rest)) (goings test script tick n (past ++ e ∷ []))
          (λ rest reads. (twice (tick (situation_of script past)) way, reads)) (later e))

      by_way : ((e : Entry) → AllByRecursion (ReadsBy script tick (past ++ e ∷ [])) (goings test script tick n (past ++ e ∷ []))) → (seat : ℕ) (o : Option Kind)
          → AllByRecursion (ReadsBy script tick past)
          (beginning_with (option_and_then (λ way. if_allowed script past (record { seat = seat; kind = at_moment (tick (situation_of script past)) way })) o)
          (λ e. goings test script tick n (past ++ e ∷ [])))
      by_way later seat None = tt
      by_way later seat (Some way) = by_allowed later seat way
          (is_allowed script past (record { seat = seat; kind = at_moment (tick (situation_of script past)) way }))

  -- ---- all whole logs

  pub each_log_once : NoDoubles (whole_logs script tick)
  unfolding whole_logs
  each_log_once = no_doubles-numbered (λ n. futures script tick n []) length (λ n. each_future_once n [])
      (λ n. AllByRecursion-map (IsFuture script n []) (λ log. length log ≡ n) (futures script tick n []) (λ log f. f.as_long)
      (listed_are_futures script tick n [] (nothing_is_legal script))) 0 (suc (events_bound_of script))

  pub logs_are_whole : AllByRecursion (IsWholeLog script tick) (whole_logs script tick)
  unfolding whole_logs
  logs_are_whole = AllByRecursion-each_list (IsWholeLog script tick) (λ n. futures script tick n []) (range_with_len 0 (suc (events_bound_of script)))
      (λ n. AllByRecursion-map (λ log. IsFuture script n [] log × ReadsBy script tick [] log) (IsWholeLog script tick) (futures script tick n [])
      (λ log f. record { legal = f.0.legal; whole = f.0.whole; moments = f.1 })
      (AllByRecursion-both (IsFuture script n []) (ReadsBy script tick []) (futures script tick n [])
      (listed_are_futures script tick n [] (nothing_is_legal script)) (listed_read_by (is_whole script) n [])))

  pub whole_logs_are_listed : (log : List Entry) → IsSound script → IsWholeLog script tick log → Contains (whole_logs script tick) log
  unfolding whole_logs
  whole_logs_are_listed log sound is =
      in_flat_map (λ n. futures script tick n []) (range_with_len 0 (suc (events_bound_of script))) (length log) log
      (contains_range (suc (events_bound_of script)) (length log) (omega (arith, entries_within script log sound is.legal)))
      (futures_are_listed script tick log [] sound.closed (nothing_is_legal script) is.moments
      (record { legal = is.legal; whole = is.whole; as_long = refl }))
