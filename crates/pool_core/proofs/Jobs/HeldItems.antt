-- The items of a job that are held, by their numbers: as many as seats are inside, and what an entry changes of them.
-- Cited by `Pool::job_step`, `Calls/EmptyPool`, `Jobs/AtJob`, `Jobs/JobTables`, `Jobs/JobViews`.
use Rattle.list_laws.proofs.Counts.{count-cons, count_change, filter_length_congr}
use Rattle.list_laws.proofs.Elements.{AllByRecursion-always}
use Rattle.list_laws.proofs.Filters.{filter-map, filter_map_congr, filter_map_never, filter_never, map-congr_in}
use Rattle.list_laws.proofs.Pigeons.{list_all-not}
use Rattle.list_laws.proofs.Ranges.{AllByRecursion-range, range_any_at, range_with}
use Rattle.list_laws.proofs.Tests.{list_all_always, list_any_never, list_any_none}
use Rattle.list_laws.proofs.Values.{eqb-same, some-injective}
use Rattle.list_laws.specs.Lists.{count}
use Rattle.job_source.specs.declared.source.TheConstants.{MOST_INSIDE}
use Rattle.pool_core.specs.Holdings.{AreInside, held_in, item_if, item_under}
use Rattle.pool_laws.proofs.Seats.Running.{holding_here, holding_other, holding_same}
use Rattle.pool_laws.specs.Seats.{holds_job, moves_holding}
use Rattle.std.proofs.Common.{Bool, List, None, Option, Some, [], ap, arith, cond, eqb, false, inl, inr, length}
use Rattle.std.proofs.Common.{refl, subst, suc, sym, true, zero, ℕ, ◌++◌, ◌+◌, ◌<◌, ◌∙◌, ◌∷◌, ◌≡◌, ◌≤◌}
use Rattle.std.proofs.Math.Bool.{and-false}
use Rattle.std.proofs.Math.Nat.{add-zero}
use Rattle.std.proofs.lemmas.Bool.{and_parts, cases_lt, eqb-false, eqb-true, false_from_ne_true, false≢true, ne_eqb, not-true, true≢false}
use Rattle.std.proofs.lemmas.List.FromFn.{get_or-map-range_with_len, length-map-range_with_len}
use Rattle.std.proofs.lemmas.List.{get_or_past, length-map}
use Rattle.std.proofs.lemmas.Option.{none-some, unwrap_or-slice_get}
use Rattle.std.specs.List.{cons_option, filter_map, list_any, range_with_len}
use Rattle.std.specs.Option.{option_map}
use Rattle.std.specs.Prelude.{filter, is_some, map, not, replicate, slice_get, slice_set, unwrap_or, ◌&&◌, ◌==◌, ◌||◌}
use Rattle.task_base.specs.Plan.{Plan}
use Rattle.task_base.specs.declared.entry.Entry.{Entry}
use Rattle.task_base.specs.declared.entry.Kind.TheVariants as kinds
use Rattle.task_base.specs.Entries.{next}
use Rattle.task_model.specs.Jobs.{holds_id, is_free_id}
use Rattle.task_model.specs.Seats.{Holding, all_seats, holding, holding_after, inside}

-- the first item of the job that one of these seats holds under the number
abbrev first_under : List Entry → ℕ → List ℕ → ℕ → Option ℕ
first_under past j seats id = slice_get (filter_map (λ seat. item_if j id (holding past seat)) seats) 0

item_if_is : (j id : ℕ) (o : Option Holding) → is_some (item_if j id o) ≡ holds_id j id o
item_if_is j id None = refl
item_if_is j id (Some h) = by_job (h.job == j && h.id == id)
  where
    by_job : (b : Bool) → is_some (option_map (λ (k : Holding). k.item) (cond b (Some h) None)) ≡ b
    by_job true = refl
    by_job false = refl

first_of_front : {A : Type 0} (o : Option A) (xs : List A) → is_some (slice_get (cons_option o xs) 0) ≡ (is_some o || is_some (slice_get xs 0))
first_of_front None xs = refl
first_of_front (Some x) xs = refl

-- an item is held under the number exactly where one of the seats has it
under_by_any : (past : List Entry) (j id : ℕ) (seats : List ℕ)
    → is_some (first_under past j seats id) ≡ list_any (λ seat. holds_id j id (holding past seat)) seats
under_by_any past j id [] = refl
under_by_any past j id (seat ∷ rest) =
    first_of_front (item_if j id (holding past seat)) (filter_map (λ x. item_if j id (holding past x)) rest)
    ∙ rw (item_if_is j id (holding past seat), under_by_any past j id rest) refl

-- so a number is free exactly where nothing is held under it
pub free_by_under : (script : Plan) (past : List Entry) (j id : ℕ) → not (is_some (item_under script past j id)) ≡ is_free_id script past j id
free_by_under script past j id = ap not (under_by_any past j id (all_seats script))
    ∙ sym (list_all-not (λ seat. holds_id j id (holding past seat)) (all_seats script))

pub none_by : {A : Type 0} (o : Option A) → is_some o ≡ false → o ≡ None
none_by None is = refl
none_by (Some x) is = absurd (true≢false is)

pub under_none : (script : Plan) (past : List Entry) (j id : ℕ) → is_free_id script past j id ≡ true → item_under script past j id ≡ None
under_none script past j id free = none_by (item_under script past j id) (not-true _ (free_by_under script past j id ∙ free))

-- How many are held.

-- a seat with a number inside the job holds this
holds_parts : (j id : ℕ) (o : Option Holding) → holds_id j id o ≡ true → (h : Holding) × (o ≡ Some h) × (h.job ≡ j) × (h.id ≡ id)
holds_parts j id None is = absurd (false≢true is)
holds_parts j id (Some h) is = let parts = and_parts (h.job == j) (h.id == id) is in (h, refl, eqb-true h.job j parts.0, eqb-true h.id id parts.1)

-- no seat behind one that holds an item has its number
apart_behind : (script : Plan) (past : List Entry) (h : Holding) (seat len id : ℕ) → AreInside script past → holding past seat ≡ Some h → h.id ≡ id
    → list_any (λ x. holds_id h.job id (holding past x)) (range_with_len (seat + 1) len) ≡ false
apart_behind script past h seat len id known is same = list_any_none _ _ (AllByRecursion-range _ (seat + 1) len (λ x from to. false_from_ne_true _ (λ also.
    let parts = holds_parts h.job id (holding past x) also in
    let one : seat ≡ x = known.own_number seat x h parts.0 is parts.1 (sym parts.2) (same ∙ sym parts.3) in
    omega (arith, one, from))))

-- one more seat before others
counted_more : (script : Plan) (past : List Entry) (j n start len : ℕ) → AreInside script past
    → ((seat : ℕ) (h : Holding) → holding past seat ≡ Some h → h.id < n)
    → count (λ id. is_some (first_under past j (range_with_len (start + 1) len) id)) (range_with_len 0 n)
    ≡ count (λ seat. holds_job past seat j) (range_with_len (start + 1) len)
    → count (λ id. is_some (first_under past j (start ∷ range_with_len (start + 1) len) id)) (range_with_len 0 n)
    ≡ count (λ seat. holds_job past seat j) (range_with_len (start + 1) len) + cond (holds_job past start j) 1 0
counted_more script past j n start len known fits more = by_holding (holding past start) refl
  where
    rest : List ℕ
    rest = range_with_len (start + 1) len

    behind : ℕ → Bool
    behind id = is_some (first_under past j rest id)

    all : ℕ → Bool
    all id = is_some (first_under past j (start ∷ rest) id)

    at : (id : ℕ) → all id ≡ (holds_id j id (holding past start) || behind id)
    at id = first_of_front (item_if j id (holding past start)) (filter_map (λ x. item_if j id (holding past x)) rest)
        ∙ ap (λ b. b || behind id) (item_if_is j id (holding past start))

    skipped : holds_job past start j ≡ false → ((id : ℕ) → holds_id j id (holding past start) ≡ false)
        → count all (range_with_len 0 n) ≡ count (λ seat. holds_job past seat j) rest + cond (holds_job past start j) 1 0
    skipped none free = filter_length_congr all behind (range_with_len 0 n) (λ id. at id ∙ ap (λ b. b || behind id) (free id)) ∙ more
        ∙ rw none (sym (add-zero (count (λ seat. holds_job past seat j) rest)))

    of_job : (h : Holding) → holding past start ≡ Some h → (b : Bool) → (h.job == j) ≡ b
        → count all (range_with_len 0 n) ≡ count (λ seat. holds_job past seat j) rest + cond (holds_job past start j) 1 0
    of_job h is false other = skipped (rw is other) (λ id. rw (is, other) refl)
    of_job h is true same =
        let within : h.id < n = fits start h is in
        let its : h.job ≡ j = eqb-true h.job j same in
        let change : count behind (range_with_len 0 n) + cond true 1 0 ≡ count all (range_with_len 0 n) + cond false 1 0 =
        count_change (λ id. h.id == id) behind all false true (range_with_len 0 n) (range_with h.id 0 n (omega arith) (omega (arith, within)))
        (λ id here. under_by_any past j id rest
        ∙ subst (λ m. list_any (λ x. holds_id m id (holding past x)) rest ≡ false) its
        (apart_behind script past h start len id known is (eqb-true h.id id here)))
        (λ id here. let has : holds_id j id (holding past start) ≡ true = rw (is, same, here) refl in at id ∙ ap (λ b. b || behind id) has)
        (λ id elsewhere. let lacks : holds_id j id (holding past start) ≡ false = rw (is, same, elsewhere) refl in
        sym (at id ∙ ap (λ b. b || behind id) lacks)) in
        rw (is, same) (omega (arith, change, more))

    by_holding : (o : Option Holding) → holding past start ≡ o
        → count all (range_with_len 0 n) ≡ count (λ seat. holds_job past seat j) rest + cond (holds_job past start j) 1 0
    by_holding None is = skipped (rw is refl) (λ id. rw is refl)
    by_holding (Some h) is = of_job h is (h.job == j) refl

counted_from : (script : Plan) (past : List Entry) (j n start len : ℕ) → AreInside script past
    → ((seat : ℕ) (h : Holding) → holding past seat ≡ Some h → h.id < n)
    → count (λ id. is_some (first_under past j (range_with_len start len) id)) (range_with_len 0 n)
    ≡ count (λ seat. holds_job past seat j) (range_with_len start len)
counted_from script past j n start zero known fits = ap length (filter_never _ (range_with_len 0 n) (λ id. refl))
counted_from script past j n start (suc len) known fits =
    counted_more script past j n start len known fits (counted_from script past j n (start + 1) len known fits)
    ∙ sym (count-cons (λ seat. holds_job past seat j) start (range_with_len (start + 1) len))

-- as many items are held under some first numbers as seats are inside, where each seat has one of these
count_under : (script : Plan) (past : List Entry) (j n : ℕ) → AreInside script past → ((seat : ℕ) (h : Holding) → holding past seat ≡ Some h → h.id < n)
    → count is_some (map (item_under script past j) (range_with_len 0 n)) ≡ count (λ seat. holds_job past seat j) (all_seats script)
count_under script past j n known fits =
    ap length (filter-map is_some (item_under script past j) (range_with_len 0 n))
    ∙ length-map (filter (λ id. is_some (item_under script past j id)) (range_with_len 0 n)) (item_under script past j)
    ∙ counted_from script past j n 0 (script.workers + 1) known fits

-- as many items are held as seats are inside
pub held_is_inside : (script : Plan) (past : List Entry) (j : ℕ) → AreInside script past → count is_some (held_in script past j) ≡ length (inside script past j)
unfolding held_in inside
held_is_inside script past j known = count_under script past j MOST_INSIDE known (λ seat h is. (known.holds seat h is).fits)

-- The item under one number.

pub under_same : (script : Plan) (past later : List Entry) (j id : ℕ)
    → ((seat : ℕ) → item_if j id (holding later seat) ≡ item_if j id (holding past seat)) → item_under script later j id ≡ item_under script past j id
under_same script past later j id same = ap (λ xs. slice_get xs 0) (filter_map_congr _ _ (all_seats script) same)

-- an item is held under the number by a seat
held_by_seat : (past : List Entry) (j id item : ℕ) (seats : List ℕ) → first_under past j seats id ≡ Some item
    → (seat : ℕ) × (h : Holding) × (holding past seat ≡ Some h) × (h.job ≡ j) × (h.id ≡ id) × (h.item ≡ item)
held_by_seat past j id item [] is = absurd (none-some item is)
held_by_seat past j id item (seat ∷ rest) is = by_item_if (item_if j id (holding past seat)) refl is (held_by_seat past j id item rest)
  where
    parts : (o : Option Holding) → item_if j id o ≡ Some item → (h : Holding) × (o ≡ Some h) × (h.job ≡ j) × (h.id ≡ id) × (h.item ≡ item)
    parts None none = absurd (none-some item none)
    parts (Some h) some = at (h.job == j && h.id == id) refl some
      where
        at : (b : Bool) → (h.job == j && h.id == id) ≡ b → option_map (λ (k : Holding). k.item) (cond b (Some h) None) ≡ Some item
            → (k : Holding) × (Some h ≡ Some k) × (k.job ≡ j) × (k.id ≡ id) × (k.item ≡ item)
        at false other none = absurd (none-some item none)
        at true same some =
            let both = and_parts (h.job == j) (h.id == id) same in
            (h, refl, eqb-true h.job j both.0, eqb-true h.id id both.1, some-injective some)

    by_item_if : (o : Option ℕ) → item_if j id (holding past seat) ≡ o
        → slice_get (cons_option o (filter_map (λ x. item_if j id (holding past x)) rest)) 0 ≡ Some item
        → (first_under past j rest id ≡ Some item → (x : ℕ) × (h : Holding) × (holding past x ≡ Some h) × (h.job ≡ j) × (h.id ≡ id) × (h.item ≡ item))
        → (x : ℕ) × (h : Holding) × (holding past x ≡ Some h) × (h.job ≡ j) × (h.id ≡ id) × (h.item ≡ item)
    by_item_if None none some behind = behind some
    by_item_if (Some first) is some behind = let found = parts (holding past seat) (is ∙ some) in (seat, found.0, found.1, found.2, found.3, found.4)

-- and it is the item of the seat that has the number
pub under_here : (script : Plan) (past : List Entry) (seat : ℕ) (h : Holding) → AreInside script past → holding past seat ≡ Some h
    → item_under script past h.job h.id ≡ Some h.item
under_here script past seat h inside is = by_item_under (item_under script past h.job h.id) refl
  where
    there : is_some (item_under script past h.job h.id) ≡ true
    there = under_by_any past h.job h.id (all_seats script) ∙ range_any_at (λ x. holds_id h.job h.id (holding past x)) 0 (script.workers + 1) seat
        (rw (is, eqb-same h.job, eqb-same h.id) refl) (omega arith) (omega (arith, (inside.holds seat h is).known))

    by_item_under : (o : Option ℕ) → item_under script past h.job h.id ≡ o → item_under script past h.job h.id ≡ Some h.item
    by_item_under None none = absurd (false≢true (sym (ap is_some none) ∙ there))
    by_item_under (Some item) some =
        let found = held_by_seat past h.job h.id item (all_seats script) some in
        let one : found.0 ≡ seat = inside.own_number found.0 seat found.1 h found.2 is found.3 found.4 in
        let same : found.1 ≡ h = some-injective (sym found.2 ∙ ap (holding past) one ∙ is) in
        some ∙ ap Some (sym found.5 ∙ ap (λ k. k.item) same)

-- One number's place among the items that are held.

-- a row of numbers, each with what is made of it, where another thing is made of one of them
map_set : {A : Type 0} (f g : ℕ → A) (start n k : ℕ) (v : A) → k < n → g (start + k) ≡ v → ((x : ℕ) → start ≤ x → (x ≡ start + k → ⊥) → g x ≡ f x)
    → map g (range_with_len start n) ≡ slice_set (map f (range_with_len start n)) k v
map_set f g start zero k v less here others = absurd (omega (arith, less))
map_set f g start (suc n) zero v less here others =
    let at : start ≡ start + 0 = omega arith in
    rw (ap g at ∙ here) (ap (λ ys. v ∷ ys) (map-congr_in g f (range_with_len (start + 1) n) (AllByRecursion-range (λ x. g x ≡ f x) (start + 1) n
    (λ x from to. others x (omega (arith, from)) (λ same. omega (arith, same, from))))))
map_set f g start (suc n) (suc k) v less here others =
    let at : start + 1 + k ≡ start + suc k = omega arith in
    rw (others start (omega arith) (λ same. omega (arith, same)))
    (ap (λ ys. f start ∷ ys) (map_set f g (start + 1) n k v (omega (arith, less)) (ap g at ∙ here)
    (λ x from another. others x (omega (arith, from)) (λ same. another (omega (arith, same))))))

-- the items that are held where one number has another item, or none
pub held_set : (script : Plan) (past later : List Entry) (j id : ℕ) (item : Option ℕ) → id < MOST_INSIDE → item_under script later j id ≡ item
    → ((x : ℕ) → (id == x) ≡ false → item_under script later j x ≡ item_under script past j x)
    → held_in script later j ≡ slice_set (held_in script past j) id item
unfolding held_in
held_set script past later j id item fits here others =
    let at : 0 + id ≡ id = omega arith in
    map_set (item_under script past j) (item_under script later j) 0 MOST_INSIDE id item (omega (arith, fits))
    (ap (item_under script later j) at ∙ here)
    (λ x from another. others x (ne_eqb id x (λ same. another (omega (arith, same)))))

pub held_same : (script : Plan) (past later : List Entry) (j : ℕ) → ((x : ℕ) → item_under script later j x ≡ item_under script past j x)
    → held_in script later j ≡ held_in script past j
unfolding held_in
held_same script past later j same = map-congr_in (item_under script later j) (item_under script past j) (range_with_len 0 MOST_INSIDE)
    (AllByRecursion-always (λ x. item_under script later j x ≡ item_under script past j x) (range_with_len 0 MOST_INSIDE) same)

-- the item that is held under a number stands at its place
under_at : (script : Plan) (past : List Entry) (j id n : ℕ) → (n ≤ id → item_under script past j id ≡ None)
    → unwrap_or (slice_get (map (item_under script past j) (range_with_len 0 n)) id) None ≡ item_under script past j id
under_at script past j id n behind = unwrap_or-slice_get (map (item_under script past j) (range_with_len 0 n)) id None ∙ elim (cases_lt id n) [
  | inl less ↦ get_or-map-range_with_len (item_under script past j) 0 n id id None less (omega arith)
  | inr more ↦ get_or_past (map (item_under script past j) (range_with_len 0 n)) id None
      (omega (arith, more, length-map-range_with_len (item_under script past j) 0 n)) ∙ sym (behind more)
]

pub held_at : (script : Plan) (past : List Entry) (j id : ℕ) → AreInside script past
    → unwrap_or (slice_get (held_in script past j) id) None ≡ item_under script past j id
unfolding held_in
held_at script past j id known = under_at script past j id MOST_INSIDE (λ behind. none_by (item_under script past j id)
    (under_by_any past j id (all_seats script) ∙ list_any_never (λ seat. holds_id j id (holding past seat)) (all_seats script)
    (λ seat. false_from_ne_true (holds_id j id (holding past seat)) (λ has. at behind seat has))))
  where
    at : MOST_INSIDE ≤ id → (seat : ℕ) → holds_id j id (holding past seat) ≡ true → ⊥
    at behind seat has =
        let parts = holds_parts j id (holding past seat) has in
        let fits : parts.0.id < MOST_INSIDE = (known.holds seat parts.0 parts.1).fits in
        omega (arith, behind, parts.3, fits)

-- none is held at the start
all_none : {A : Type 0} (f : ℕ → Option A) (start n : ℕ) → ((x : ℕ) → f x ≡ None) → map f (range_with_len start n) ≡ replicate n None
all_none f start zero none = refl
all_none f start (suc n) none = rw (none start, all_none f (start + 1) n none) refl

pub held_at_start : (script : Plan) (j : ℕ) → held_in script [] j ≡ replicate MOST_INSIDE None
unfolding held_in holding
held_at_start script j = all_none (item_under script [] j) 0 MOST_INSIDE
    (λ id. ap (λ xs. slice_get xs 0) (filter_map_never _ (all_seats script) (λ seat. refl)))

-- What an entry does to them.

-- an entry at which no seat enters, leaves or goes on
pub held_kept : (script : Plan) (past : List Entry) (e : Entry) (j : ℕ) → moves_holding e.kind ≡ false
    → held_in script (past ++ e ∷ []) j ≡ held_in script past j
held_kept script past e j still = held_same script past (past ++ e ∷ []) j
    (λ id. under_same script past (past ++ e ∷ []) j id (λ seat. ap (item_if j id) (holding_same past e seat still)))

-- what another number, or a number of another job, names at the entry's seat
beside : (j id : ℕ) (o : Option Holding) → holds_id j id o ≡ false → item_if j id o ≡ None
beside j id o none = none_by (item_if j id o) (item_if_is j id o ∙ none)

-- where the entry's seat held nothing under a number, and holds nothing under it, nothing changes under it
pub under_beside : (script : Plan) (past : List Entry) (e : Entry) (j id : ℕ) → holds_id j id (holding past e.seat) ≡ false
    → holds_id j id (holding_after (holding past e.seat) e.kind) ≡ false → item_under script (past ++ e ∷ []) j id ≡ item_under script past j id
under_beside script past e j id before after = under_same script past (past ++ e ∷ []) j id (λ seat. by_seat seat (eqb e.seat seat) refl)
  where
    by_seat : (seat : ℕ) (b : Bool) → eqb e.seat seat ≡ b → item_if j id (holding (past ++ e ∷ []) seat) ≡ item_if j id (holding past seat)
    by_seat seat true here = ap (item_if j id) (holding_here past e seat here) ∙ beside j id _ after ∙ sym (beside j id _ before)
        ∙ ap (λ x. item_if j id (holding past x)) (eqb-true e.seat seat here)
    by_seat seat false other = ap (item_if j id) (holding_other past e seat other)

-- a seat enters: the number that was free has the item
pub held_at_take : (script : Plan) (past : List Entry) (seat job id item : ℕ) → id < MOST_INSIDE → holding past seat ≡ None
    → AreInside script (next past seat (kinds.JobTake job id item))
    → held_in script (next past seat (kinds.JobTake job id item)) job ≡ slice_set (held_in script past job) id (Some item)
held_at_take script past seat job id item fits nothing inside =
    let e : Entry = record { seat = seat; kind = kinds.JobTake job id item } in
    held_set script past (past ++ e ∷ []) job id (Some item) fits
    (under_here script (past ++ e ∷ []) seat (record { job = job; id = id; item = item }) inside (holding_here past e seat (eqb-same seat)))
    (λ x other. under_beside script past e job x (rw nothing refl) (rw (other, and-false (job == job)) refl))

-- a seat goes on, or leaves: its number has the next item, or none
pub held_at_step : (script : Plan) (past : List Entry) (seat value : ℕ) (h : Holding) (goes_on : Option ℕ) → AreInside script past → holding past seat ≡ Some h
    → AreInside script (next past seat (kinds.JobStep h.job h.id h.item value goes_on))
    → held_in script (next past seat (kinds.JobStep h.job h.id h.item value goes_on)) h.job ≡ slice_set (held_in script past h.job) h.id goes_on
held_at_step script past seat value h goes_on before is after = held_set script past (past ++ e ∷ []) h.job h.id goes_on (before.holds seat h is).fits
    (by_goes_on goes_on refl) (λ x other. under_beside script past e h.job x (rw (is, other, and-false (h.job == h.job)) refl)
    (others x other goes_on))
  where
    e : Entry
    e = record { seat = seat; kind = kinds.JobStep h.job h.id h.item value goes_on }

    others : (x : ℕ) → (h.id == x) ≡ false → (o : Option ℕ)
        → holds_id h.job x (holding_after (holding past seat) (kinds.JobStep h.job h.id h.item value o)) ≡ false
    others x other None = refl
    others x other (Some item) = rw (other, and-false (h.job == h.job)) refl

    free : goes_on ≡ None → is_free_id script (past ++ e ∷ []) h.job h.id ≡ true
    free none = list_all_always (λ x. not (holds_id h.job h.id (holding (past ++ e ∷ []) x))) (all_seats script)
        (λ x. ap not (false_from_ne_true (holds_id h.job h.id (holding (past ++ e ∷ []) x)) (λ has. at x has (eqb seat x) refl)))
      where
        at : (x : ℕ) → holds_id h.job h.id (holding (past ++ e ∷ []) x) ≡ true → (b : Bool) → eqb seat x ≡ b → ⊥
        at x has true here = false≢true (sym (ap (holds_id h.job h.id) (holding_here past e x here ∙ ap (λ o. holding_after (holding past seat)
            (kinds.JobStep h.job h.id h.item value o)) none)) ∙ has)
        at x has false other =
            let parts = holds_parts h.job h.id (holding past x) (sym (ap (holds_id h.job h.id) (holding_other past e x other)) ∙ has) in
            eqb-false seat x other (before.own_number seat x h parts.0 is parts.1 (sym parts.2) (sym parts.3))

    by_goes_on : (o : Option ℕ) → goes_on ≡ o → item_under script (past ++ e ∷ []) h.job h.id ≡ o
    by_goes_on None none = under_none script (past ++ e ∷ []) h.job h.id (free none)
    by_goes_on (Some item) some = under_here script (past ++ e ∷ []) seat (record { job = h.job; id = h.id; item = item }) after
        (holding_here past e seat (eqb-same seat) ∙ ap (λ o. holding_after (holding past seat) (kinds.JobStep h.job h.id h.item value o)) some)

-- the items of another job stay
pub held_at_other_take : (script : Plan) (past : List Entry) (seat j job id item : ℕ) → (job == j) ≡ false → holding past seat ≡ None
    → held_in script (next past seat (kinds.JobTake job id item)) j ≡ held_in script past j
held_at_other_take script past seat j job id item other nothing =
    let e : Entry = record { seat = seat; kind = kinds.JobTake job id item } in
    held_same script past (past ++ e ∷ []) j (λ x. under_beside script past e j x (rw nothing refl) (rw other refl))

pub held_at_other_step : (script : Plan) (past : List Entry) (seat j value : ℕ) (h : Holding) (goes_on : Option ℕ) → (h.job == j) ≡ false
    → holding past seat ≡ Some h
    → held_in script (next past seat (kinds.JobStep h.job h.id h.item value goes_on)) j ≡ held_in script past j
held_at_other_step script past seat j value h goes_on other is =
    let e : Entry = record { seat = seat; kind = kinds.JobStep h.job h.id h.item value goes_on } in
    held_same script past (past ++ e ∷ []) j (λ x. under_beside script past e j x (rw (is, other) refl) (at_each x goes_on))
  where
    at_each : (x : ℕ) (o : Option ℕ) → holds_id j x (holding_after (holding past seat) (kinds.JobStep h.job h.id h.item value o)) ≡ false
    at_each x None = refl
    at_each x (Some item) = rw other refl
