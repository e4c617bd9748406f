-- The best sequence, found by the line: who stands first of each sequence there is the same work as the sequence is.
-- Cited by `Situation::best_sequence`, `Situation::better_at`, `Situation::is_outranked_by_sequence`, `sources.rt`.
use Rattle.std.proofs.Common.{◌≡◌, ℕ, ◌<◌, Bool, true, false, cond, List, [], ◌∷◌, ◌++◌, length}
use Rattle.std.proofs.Common.{refl, sym, ap, subst, ◌∙◌, inl, inr, ◌+◌, Option, Some, None}
use Rattle.std.specs.Prelude.{◌⊎◌, ◌&&◌, ◌||◌, ◌==◌, if◌then◌else◌, nat_lt, not, Contains, filter, find, option_and_then, slice_get}
use Rattle.std.specs.List.{filter_map, list_any, range_with_len}
use Rattle.std.specs.Option.{option_map, option_map_or}
use Rattle.std.proofs.lemmas.Bool.{and_parts, eq-eqb, eqb-true, lt-ltb, ltb-true, not-true, true≢false}
use Rattle.std.proofs.lemmas.List.Elements.{All-contains}
use Rattle.std.proofs.lemmas.Option.{none-some, slice_get_within}
use Rattle.list_laws.proofs.Elements.{AllByRecursion-contains_itself, AllByRecursion-map, AllByRecursion-through}
use Rattle.list_laws.proofs.Filters.{filter_always}
use Rattle.list_laws.proofs.Finds.{find_passes}
use Rattle.list_laws.proofs.Least.{least_is_least, no_least}
use Rattle.list_laws.proofs.Made.{contains_filter, contains_filter_map, contains_range, filter_contains, filter_map_contains, none_contained, range_contains}
use Rattle.list_laws.proofs.Options.{AllByRecursion-not_any}
use Rattle.list_laws.proofs.Ranks.{tied}
use Rattle.list_laws.proofs.Tests.{list_any_none}
use Rattle.list_laws.proofs.Values.{some-injective}
use Rattle.list_laws.specs.Lists.{IsLeast, Ranks, holds_of, keep, least, least_from}
use Rattle.pool_laws.proofs.Choice.Least.{ranks_goes_before}
use Rattle.task_base.specs.Groups.{importance}
use Rattle.task_base.specs.Keys.{key_below}
use Rattle.task_base.specs.Plan.{Plan}
use Rattle.task_base.specs.Runners.{seat_of, sequence_count, sequence_of}
use Rattle.task_base.specs.declared.source.TaskSource.TheVariants.{Sequence}
use Rattle.task_model.specs.Keys.{key_at}
use Rattle.task_model.specs.Sources.{Candidate, goes_before}
use Rattle.situation.specs.Line.{Waiter, Task, OfJob, waits_at}
use Rattle.situation.specs.Situation.{Situation}
use Rattle.log_count.specs.Parts.{priority_in}
use Rattle.log_count.specs.Sources.{place_of, runs_sequence_in, sequence_by, sequence_waits_in}
use Rattle.situation_steps.proofs.Best.{any_found, best_more}
use Rattle.situation_steps.proofs.Places.{find_is_at}
use Rattle.situation_steps.proofs.SameLists.{and_false}
use Rattle.situation_steps.specs.Sources.{better_of, is_first, is_sooner, stands_as, waits_from}

-- ---- lists of the same members

-- two lists of the same members, of which no two tie, have the same least
pub least_same : {A : Type 0} (below : A → A → Bool) → Ranks below → (xs ys : List A) → ((x : A) → Contains xs x → Contains ys x)
    → ((x : A) → Contains ys x → Contains xs x) → ((x y : A) → Contains xs x → Contains xs y → below x y ≡ false → below y x ≡ false → x ≡ y)
    → least below xs ≡ least below ys
least_same {A = A} below ranks xs ys to from ties = at (least below xs) (least below ys) refl refl
  where
    at : (o p : Option A) → least below xs ≡ o → least below ys ≡ p → o ≡ p
    at None None is are = refl
    at None (Some y) is are = absurd (none_contained y (subst (λ (zs : List A). Contains zs y) (no_least below xs is)
        (from y (least_is_least below ranks ys y are).member)))
    at (Some x) None is are = absurd (none_contained x (subst (λ (zs : List A). Contains zs x) (no_least below ys are)
        (to x (least_is_least below ranks xs x is).member)))
    at (Some x) (Some y) is are =
        let first : IsLeast below xs x = least_is_least below ranks xs x is in
        let second : IsLeast below ys y = least_is_least below ranks ys y are in
        ap Some (ties x y first.member (from y second.member)
        (All-contains (λ z. below z y ≡ false) ys x second.none_below (to x first.member))
        (All-contains (λ z. below z x ≡ false) xs y first.none_below (from y second.member)))

-- the least of more depends on the least so far
least_from_front : {A : Type 0} (below : A → A → Bool) (x : A) (xs ys : List A)
    → least_from below x (xs ++ ys) ≡ least_from below (least_from below x xs) ys
least_from_front below x [] ys = refl
least_from_front below x (z ∷ zs) ys = least_from_front below (cond (below z x) z x) zs ys

pub least_front : {A : Type 0} (below : A → A → Bool) (xs us ys : List A) → least below xs ≡ least below us
    → least below (xs ++ ys) ≡ least below (us ++ ys)
least_front below [] [] ys same = refl
least_front below [] (u ∷ us) ys same = absurd (none-some _ same)
least_front below (x ∷ xs) [] ys same = absurd (none-some _ (sym same))
least_front {A = A} below (x ∷ xs) (u ∷ us) ys same = ap Some (least_from_front below x xs ys
    ∙ ap (λ (z : A). least_from below z ys) (some-injective same) ∙ sym (least_from_front below u us ys))

-- ---- the line

-- a task that stands at a place of the line, as work of a sequence
abbrev by_place : Plan → Situation → ℕ → ℕ → ℕ → Candidate
by_place script s q home place =
    record { source = Sequence q; priority = priority_in script s home; inside = 0; key = key_at place; seat = seat_of script home }

stands_is : (script : Plan) (s : Situation) (task home delay place q : ℕ) → sequence_of script home task ≡ q → q < sequence_count script
    → stands_as script s place (Task task home delay) ≡ Some (by_place script s q home place)
stands_is script s task home delay place q of_it few =
    ap (λ (n : ℕ). if nat_lt n (sequence_count script) then Some (by_place script s n home place) else None) of_it
    ∙ ap (λ (b : Bool). if b then Some (by_place script s q home place) else None) (lt-ltb q (sequence_count script) few)

-- the sequence of who stands first of it, as work, is who stands there
sequence_is : (script : Plan) (s : Situation) (q place task home delay : ℕ) → place_of (waits_at script (Sequence q)) s.line ≡ place
    → slice_get s.line place ≡ Some (Task task home delay) → runs_sequence_in script s q ≡ false
    → sequence_waits_in script s q ≡ Some (by_place script s q home place)
sequence_is script s q place task home delay first stands runs =
    let found : find (waits_at script (Sequence q)) s.line ≡ Some (Task task home delay) =
    find_is_at (waits_at script (Sequence q)) s.line ∙ ap (λ (n : ℕ). slice_get s.line n) first ∙ stands in
    ap (λ (b : Bool). if b then None else option_map (sequence_by script s q) (find (waits_at script (Sequence q)) s.line)) runs
    ∙ ap (λ (o : Option Waiter). option_map (sequence_by script s q) o) found
    ∙ ap (λ (n : ℕ). Some (by_place script s q home n)) first

-- the sequence waits as this work, which stands at this place
record WaitsAs (script : Plan) (s : Situation) (place : ℕ) (c : Candidate) : Type 0 where
  q : ℕ
  few : q < sequence_count script
  waits : sequence_waits_in script s q ≡ Some c
  there : c.key.place ≡ place

first_waits : (script : Plan) (s : Situation) (place task home delay q : ℕ) (c : Candidate) → slice_get s.line place ≡ Some (Task task home delay)
    → q < sequence_count script → keep (is_first script s) (Some (by_place script s q home place)) ≡ Some c → WaitsAs script s place c
first_waits script s place task home delay q c is less some = at (is_first script s (by_place script s q home place)) refl some
  where
    at : (b : Bool) → is_first script s (by_place script s q home place) ≡ b → (if b then Some (by_place script s q home place) else None) ≡ Some c
        → WaitsAs script s place c
    at false was some = absurd (none-some c some)
    at true was some =
        let (there, free) = and_parts (place_of (waits_at script (Sequence q)) s.line == place) (not (runs_sequence_in script s q)) was in
        let same : by_place script s q home place ≡ c = some-injective some in
        record {
          q = q;
          few = less;
          waits = sequence_is script s q place task home delay (eqb-true _ _ there) is (not-true (runs_sequence_in script s q) free) ∙ some;
          there = ap (λ (d : Candidate). d.key.place) (sym same);
        }

task_waits : (script : Plan) (s : Situation) (place task home delay q : ℕ) (c : Candidate) → slice_get s.line place ≡ Some (Task task home delay)
    → keep (is_first script s) (if nat_lt q (sequence_count script) then Some (by_place script s q home place) else None) ≡ Some c
    → WaitsAs script s place c
task_waits script s place task home delay q c is some = at (nat_lt q (sequence_count script)) refl some
  where
    at : (b : Bool) → nat_lt q (sequence_count script) ≡ b
        → keep (is_first script s) (if b then Some (by_place script s q home place) else None) ≡ Some c → WaitsAs script s place c
    at false was some = absurd (none-some c some)
    at true was some = first_waits script s place task home delay q c is (ltb-true q (sequence_count script) was) some

-- who stands first of a sequence that does not run is that sequence, as it waits
line_waits : (script : Plan) (s : Situation) (place : ℕ) (c : Candidate) → waits_from script s place ≡ Some c → WaitsAs script s place c
line_waits script s place c waits = at (slice_get s.line place) refl waits
  where
    at : (o : Option Waiter) → slice_get s.line place ≡ o → keep (is_first script s) (option_and_then (stands_as script s place) o) ≡ Some c
        → WaitsAs script s place c
    at None is some = absurd (none-some c some)
    at (Some (OfJob job)) is some = absurd (none-some c some)
    at (Some (Task task home delay)) is some = task_waits script s place task home delay (sequence_of script home task) c is some

-- who stands first of a sequence in the line, as work
stands_first : (script : Plan) (s : Situation) (q place : ℕ) (c : Candidate) (w : Waiter) → q < sequence_count script
    → place_of (waits_at script (Sequence q)) s.line ≡ place → slice_get s.line place ≡ Some w → waits_at script (Sequence q) w ≡ true
    → runs_sequence_in script s q ≡ false → Some (sequence_by script s q w) ≡ Some c → waits_from script s place ≡ Some c
stands_first script s q place c (OfJob job) few at is passes free some = absurd (true≢false (sym passes))
stands_first script s q place c (Task task home delay) few at is passes free some =
    ap (λ (o : Option Waiter). keep (is_first script s) (option_and_then (stands_as script s place) o)) is
    ∙ ap (keep (is_first script s)) (stands_is script s task home delay place q (eqb-true _ _ passes) few)
    ∙ ap (λ (b : Bool). if (place_of (waits_at script (Sequence q)) s.line == place) && not b then Some (by_place script s q home place) else None) free
    ∙ ap (λ (b : Bool). if b && true then Some (by_place script s q home place) else None) (eq-eqb _ place at)
    ∙ ap (λ (n : ℕ). Some (by_place script s q home n)) (sym at)
    ∙ some

-- a sequence that waits is who stands first of it
sequence_stands : (script : Plan) (s : Situation) (q : ℕ) (c : Candidate) → q < sequence_count script → sequence_waits_in script s q ≡ Some c
    → (place : ℕ) × (place < length s.line) × (waits_from script s place ≡ Some c)
sequence_stands script s q c few waits = runs (runs_sequence_in script s q) refl waits
  where
    found : (o : Option Waiter) → find (waits_at script (Sequence q)) s.line ≡ o → runs_sequence_in script s q ≡ false
        → option_map (sequence_by script s q) o ≡ Some c → (place : ℕ) × (place < length s.line) × (waits_from script s place ≡ Some c)
    found None is free some = absurd (none-some c some)
    found (Some w) is free some =
        let place = place_of (waits_at script (Sequence q)) s.line in
        let stands : slice_get s.line place ≡ Some w = sym (find_is_at (waits_at script (Sequence q)) s.line) ∙ is in (
          place,
          slice_get_within s.line place w stands,
          stands_first script s q place c w few refl stands (find_passes (waits_at script (Sequence q)) s.line w is) free some,
        )

    runs : (b : Bool) → runs_sequence_in script s q ≡ b
        → (if b then None else option_map (sequence_by script s q) (find (waits_at script (Sequence q)) s.line)) ≡ Some c
        → (place : ℕ) × (place < length s.line) × (waits_from script s place ≡ Some c)
    runs true is some = absurd (none-some c some)
    runs false is some = found (find (waits_at script (Sequence q)) s.line) refl is some

-- ---- what may be taken

-- the places of the line, as work that a test passes
abbrev pub by_line : Plan → Situation → (Candidate → Bool) → (Candidate → Bool) → List Candidate
by_line script s p q = filter p (filter q (filter_map (waits_from script s) (range_with_len 0 (length s.line))))

-- the sequences, as work that a test passes
abbrev pub by_number : Plan → Situation → (Candidate → Bool) → (Candidate → Bool) → List Candidate
by_number script s p q = filter p (filter q (filter_map (sequence_waits_in script s) (range_with_len 0 (sequence_count script))))

-- what is found by the line waits
from_line : (script : Plan) (s : Situation) (p q : Candidate → Bool) (c : Candidate) → Contains (by_line script s p q) c
    → (place : ℕ) × (place < length s.line) × (waits_from script s place ≡ Some c) × (p c ≡ true) × (q c ≡ true)
from_line script s p q c among =
    let (kept, passes) = filter_contains p (filter q (filter_map (waits_from script s) (range_with_len 0 (length s.line)))) c among in
    let (found, allowed) = filter_contains q (filter_map (waits_from script s) (range_with_len 0 (length s.line))) c kept in
    let (place, there, is) = filter_map_contains (waits_from script s) (range_with_len 0 (length s.line)) c found in
    (place, range_contains (length s.line) place there, is, passes, allowed)

line_to_number : (script : Plan) (s : Situation) (p q : Candidate → Bool) (c : Candidate) → Contains (by_line script s p q) c
    → Contains (by_number script s p q) c
line_to_number script s p q c among =
    let (place, within, is, passes, allowed) = from_line script s p q c among in
    let as_one = line_waits script s place c is in
    contains_filter p _ c (contains_filter q _ c
    (contains_filter_map (sequence_waits_in script s) (range_with_len 0 (sequence_count script)) as_one.q c
    (contains_range (sequence_count script) as_one.q as_one.few) as_one.waits) allowed) passes

number_to_line : (script : Plan) (s : Situation) (p q : Candidate → Bool) (c : Candidate) → Contains (by_number script s p q) c
    → Contains (by_line script s p q) c
number_to_line script s p q c among =
    let (kept, passes) = filter_contains p (filter q (filter_map (sequence_waits_in script s) (range_with_len 0 (sequence_count script)))) c among in
    let (found, allowed) = filter_contains q (filter_map (sequence_waits_in script s) (range_with_len 0 (sequence_count script))) c kept in
    let (n, there, is) = filter_map_contains (sequence_waits_in script s) (range_with_len 0 (sequence_count script)) c found in
    let (place, within, waits) = sequence_stands script s n c (range_contains (sequence_count script) n there) is in
    contains_filter p _ c (contains_filter q _ c
    (contains_filter_map (waits_from script s) (range_with_len 0 (length s.line)) place c (contains_range (length s.line) place within) waits)
    allowed) passes

-- of two that neither goes before the other, the keys have one place
tied_places : (c d : Candidate) → goes_before c d ≡ false → goes_before d c ≡ false → c.key.place ≡ d.key.place
tied_places c d one other =
    let (important, sooner, later) = tied (λ (x : Candidate). importance x.priority) (λ a b. is_sooner b a) c d other one in
    let (inside, below, above) = tied (λ (x : Candidate). x.inside) (λ a b. key_below a.key b.key) c d later sooner in
    let (places, rest, more) = tied (λ (x : Candidate). x.key.place) (λ a b. nat_lt a.key.ripe b.key.ripe
    || (a.key.ripe == b.key.ripe && nat_lt a.key.post b.key.post)) c d below above in
    places

no_tie : (script : Plan) (s : Situation) (p q : Candidate → Bool) (c d : Candidate) → Contains (by_line script s p q) c → Contains (by_line script s p q) d
    → goes_before c d ≡ false → goes_before d c ≡ false → c ≡ d
no_tie script s p q c d one other before after =
    let (m, m_within, m_is, m_passes, m_allowed) = from_line script s p q c one in
    let (n, n_within, n_is, n_passes, n_allowed) = from_line script s p q d other in
    let same : m ≡ n = sym (line_waits script s m c m_is).there ∙ tied_places c d before after ∙ (line_waits script s n d n_is).there in
    some-injective (sym m_is ∙ ap (λ (k : ℕ). waits_from script s k) same ∙ n_is)

-- the best by the line is the best by number
pub best_by_line : (script : Plan) (s : Situation) (p q : Candidate → Bool)
    → least goes_before (by_line script s p q) ≡ least goes_before (by_number script s p q)
best_by_line script s p q = least_same goes_before ranks_goes_before (by_line script s p q) (by_number script s p q)
    (line_to_number script s p q) (number_to_line script s p q) (no_tie script s p q)

-- ---- one place more

-- what a test keeps of one value is that, or nothing
keep_is : {A : Type 0} (test : A → Bool) (o : Option A) (c : A) → (o ≡ None) ⊎ (o ≡ Some c) → (keep test o ≡ None) ⊎ (keep test o ≡ Some c)
keep_is test o c (inl none) = inl (ap (keep test) none)
keep_is {A = A} test o c (inr some) = at (test c) refl
  where
    at : (b : Bool) → test c ≡ b → (keep test o ≡ None) ⊎ (keep test o ≡ Some c)
    at true is = inr (ap (keep test) some ∙ ap (λ (b : Bool). cond b (Some c) None) is)
    at false is = inl (ap (keep test) some ∙ ap (λ (b : Bool). cond b (Some c) None) is)

-- three tests that do not all pass keep nothing
kept_none : {A : Type 0} (t l m : A → Bool) (c : A) → (t c && l c && m c) ≡ false → keep t (keep l (keep m (Some c))) ≡ None
kept_none {A = A} t l m c fails = at (m c) refl (l c) refl (t c) refl
  where
    at : (x : Bool) → m c ≡ x → (y : Bool) → l c ≡ y → (z : Bool) → t c ≡ z → keep t (keep l (keep m (Some c))) ≡ None
    at false is y of z with_it = rw is refl
    at true is false of z with_it = rw (is, of) refl
    at true is true of false with_it = rw (is, of, with_it) refl
    at true is true of true with_it = absurd (true≢false (sym (rw (with_it, of, is) refl) ∙ fails))

-- what goes before the best so far and passes is the better one
pub better_takes : {A : Type 0} (before : A → A → Bool) (t l m : A → Bool) (c : A) (best : Option A) → option_map_or (λ b. before c b) best true ≡ true
    → (t c && l c && m c) ≡ true → Some c ≡ better_of before best (keep t (keep l (keep m (Some c))))
better_takes {A = A} before t l m c best beats passes =
    let (both, first) = and_parts (t c && l c) (m c) passes in
    let (takes, lets) = and_parts (t c) (l c) both in
    rw (first, lets, takes) (at best beats)
  where
    at : (o : Option A) → option_map_or (λ b. before c b) o true ≡ true → Some c ≡ better_of before o (Some c)
    at None h = refl
    at (Some b) h = ap (λ (x : Bool). Some (cond x c b)) (sym h)

-- what does not go before the best so far leaves it
pub better_stays : {A : Type 0} (before : A → A → Bool) (t l m : A → Bool) (c : A) (best : Option A) → option_map_or (λ b. before c b) best true ≡ false
    → best ≡ better_of before best (keep t (keep l (keep m (Some c))))
better_stays before t l m c None other = absurd (true≢false other)
better_stays {A = A} before t l m c (Some b) other =
    found (keep t (keep l (keep m (Some c)))) (keep_is t (keep l (keep m (Some c))) c (keep_is l (keep m (Some c)) c (keep_is m (Some c) c (inr refl))))
  where
    found : (o : Option A) → (o ≡ None) ⊎ (o ≡ Some c) → Some b ≡ better_of before (Some b) o
    found o (inl none) = rw none refl
    found o (inr some) = rw (some, other) refl

-- what does not pass leaves the best so far
pub better_without : {A : Type 0} (before : A → A → Bool) (t l m : A → Bool) (c : A) (best : Option A) → (t c && l c && m c) ≡ false
    → best ≡ better_of before best (keep t (keep l (keep m (Some c))))
better_without {A = A} before t l m c best fails = rw (kept_none t l m c fails) (at best)
  where
    at : (o : Option A) → o ≡ better_of before o None
    at None = refl
    at (Some b) = refl

-- the least so far, one place more
pub place_more : {A : Type 0} (below : A → A → Bool) (p q : A → Bool) (f : ℕ → Option A) (n : ℕ) (now : Option A)
    → now ≡ least below (filter p (filter q (filter_map f (range_with_len 0 n))))
    → better_of below now (keep p (keep q (f n))) ≡ least below (filter p (filter q (filter_map f (range_with_len 0 (n + 1)))))
place_more below p q f n now is = best_more below p q [] f n now is

-- ---- some of what waits

any_none_within : {A : Type 0} (test : A → Bool) (xs ys : List A) → ((x : A) → Contains xs x → Contains ys x) → list_any test ys ≡ false
    → list_any test xs ≡ false
any_none_within test xs ys within none = list_any_none test xs (AllByRecursion-through (λ x. test x ≡ false) xs ys
    (AllByRecursion-map (Contains xs) (Contains ys) xs within (AllByRecursion-contains_itself xs)) (AllByRecursion-not_any test ys none))

-- of two lists of the same members some of the one passes where some of the other does
any_same : {A : Type 0} (test : A → Bool) (xs ys : List A) → ((x : A) → Contains xs x → Contains ys x) → ((x : A) → Contains ys x → Contains xs x)
    → list_any test xs ≡ list_any test ys
any_same test xs ys to from = at (list_any test xs) (list_any test ys) refl refl
  where
    at : (a b : Bool) → list_any test xs ≡ a → list_any test ys ≡ b → a ≡ b
    at true true is are = refl
    at false false is are = refl
    at true false is are = absurd (true≢false (sym is ∙ any_none_within test xs ys to are))
    at false true is are = absurd (true≢false (sym are ∙ any_none_within test ys xs from is))

-- some of what waits passes two tests, by the line and by number
pub any_by_line : (script : Plan) (s : Situation) (test q : Candidate → Bool)
    → list_any (λ n. holds_of test (keep q (waits_from script s n))) (range_with_len 0 (length s.line))
    ≡ list_any (λ n. holds_of test (keep q (sequence_waits_in script s n))) (range_with_len 0 (sequence_count script))
any_by_line script s test q =
    let always : Candidate → Bool = λ c. true in
    sym (any_found test q (waits_from script s) (range_with_len 0 (length s.line)))
    ∙ ap (list_any test) (sym (filter_always always (filter q (filter_map (waits_from script s) (range_with_len 0 (length s.line)))) (λ c. refl)))
    ∙ any_same test (by_line script s always q) (by_number script s always q) (line_to_number script s always q) (number_to_line script s always q)
    ∙ ap (list_any test) (filter_always always (filter q (filter_map (sequence_waits_in script s) (range_with_len 0 (sequence_count script)))) (λ c. refl))
    ∙ any_found test q (sequence_waits_in script s) (range_with_len 0 (sequence_count script))

-- three tests of one value
pub kept_holds : {A : Type 0} (t l m : A → Bool) (c : A) → holds_of t (keep l (keep m (Some c))) ≡ (t c && l c && m c)
kept_holds {A = A} t l m c = at (m c) refl (l c) refl
  where
    at : (x : Bool) → m c ≡ x → (y : Bool) → l c ≡ y → holds_of t (keep l (keep m (Some c))) ≡ (t c && l c && m c)
    at false is y of = rw is (sym (and_false (t c && l c)))
    at true is false of = rw (is, of) (sym (ap (λ b. b && true) (and_false (t c))))
    at true is true of = rw (is, of) (one (t c))
      where
        one : (b : Bool) → b ≡ (b && true && true)
        one true = refl
        one false = refl
