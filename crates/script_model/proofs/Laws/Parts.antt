-- What a line that is read says of its places, and which refusals it passed.
-- Cited by `Laws/Canonical`, `Laws/Configuration`, `Laws/Declarations`, `Laws/Lines`, `Laws/Sound`, `Laws/Words`, `lint_laws`,
-- `nested_loop`.
use Rattle.std.proofs.Common.{◌≡◌, ℕ, ◌≤◌, Bool, true, false, cond, eqb, ltb, leb, List, [], ◌∷◌, length}
use Rattle.std.proofs.Common.{drop, map, refl, ap, subst, Option, Some, None, Result, Ok, Err, arith}
use Rattle.std.specs.Prelude.{◌-◌, ◌^◌, take, ◌&&◌, codes, slice_get}
use Rattle.std.specs.List.{AllByRecursion, slice_split}
use Rattle.std.specs.Str.{bytes_eq}
use Rattle.std.proofs.lemmas.Bool.Decides.{nat_tests}
use Rattle.std.proofs.lemmas.Bool.{eqb-true}
use Rattle.task_base.specs.declared.limits.TheConstants.{MOST_WORKERS, MOST_MICROSECONDS}
use Rattle.script_model.proofs.Laws.Faults.{ok_same}
use Rattle.task_base.specs.declared.step.Step.{Step}
use Rattle.task_base.specs.declared.step.Step.TheVariants.{Add, Mul, Set, Post, Main, Block, Unblock}
use Rattle.task_base.specs.declared.script.RunnerKind.{RunnerKind}
use Rattle.task_base.specs.declared.script.RunnerKind.TheVariants.{Parallel, Sequenced, Single}
use Rattle.script_model.specs.Words.{is_word, is_mark, number_of}
use Rattle.script_model.specs.Reasons.{◌>>=◌, ◌>>◌, ◌&◌, refuse, unknown_word, word_count, out_of_range}
use Rattle.value_words.specs.Words.{scope_named}
use Rattle.script_model.specs.Places.{known, single_named, many_named, said_at, name_at, ends_at, in_range, number_from, number_at, id_at, time_at, kind_named}
use Rattle.script_model.specs.Places.{compute_read, post_read, block_read, step_said, step_read, all_read, steps_read}
use Rattle.script_model.specs.Laws.Sound.{IsStepWithin}

-- what comes first of two steps that give something, gives something
pub bind_ok : {A B : Type 0} (r : Result A ℕ) (f : A → Result B ℕ) (y : B) → (r >>= f) ≡ Ok y → (x : A) × (r ≡ Ok x) × (f x ≡ Ok y)
bind_ok (Ok x) f y e = (x, refl, e)
bind_ok (Err r) f y e = absurd cc

-- so do both of two
pub both_ok : {A B : Type 0} (r : Result A ℕ) (s : Result B ℕ) (x : A) (y : B) → (r & s) ≡ Ok (x, y) → (r ≡ Ok x) × (s ≡ Ok y)
both_ok {A = A} {B = B} (Ok a) (Ok b) x y e =
    let same : ◌≡◌ {A = A × B} (a, b) (x, y) = ok_same {E = ℕ} (a, b) (x, y) e in
    (ap (λ (p : A × B). Ok p.0) same, ap (λ (p : A × B). Ok p.1) same)
both_ok (Ok a) (Err s) x y e = absurd cc
both_ok (Err r) (Ok b) x y e = absurd cc
both_ok (Err r) (Err s) x y e = absurd cc

-- what stands behind refusals
abbrev pub behind : {B : Type 0} → List (Bool × ℕ) → Result B ℕ → Result B ℕ
behind [] r = r
behind (t ∷ tests) r = refuse t.0 t.1 >> behind tests r

-- no test of them holds
abbrev pub Passed : List (Bool × ℕ) → Type 0
Passed [] = Unit {0}
Passed (t ∷ tests) = (t.0 ≡ false) × Passed tests

pub refuse_ok : {B : Type 0} (b : Bool) (reason : ℕ) (r : Result B ℕ) (y : B) → (refuse b reason >> r) ≡ Ok y → (b ≡ false) × (r ≡ Ok y)
refuse_ok true reason r y e = absurd cc
refuse_ok false reason r y e = (refl, e)

pub behind_ok : {B : Type 0} (tests : List (Bool × ℕ)) (r : Result B ℕ) (y : B) → behind tests r ≡ Ok y → Passed tests × (r ≡ Ok y)
behind_ok [] r y e = (tt, e)
behind_ok (t ∷ tests) r y e =
    let first = refuse_ok t.0 t.1 (behind tests r) y e in
    let rest = behind_ok tests r y first.1 in
    ((first.0, rest.0), rest.1)

-- a line: its places, its refusals, and what it makes
pub line_ok : {A B : Type 0} (r : Result A ℕ) (tests : A → List (Bool × ℕ)) (made : A → B) (y : B) → (r >>= λ x. behind (tests x) (Ok (made x))) ≡ Ok y
    → (x : A) × (r ≡ Ok x) × Passed (tests x) × (made x ≡ y)
line_ok r tests made y e =
    let x = bind_ok r (λ x. behind (tests x) (Ok (made x))) y e in
    let passed = behind_ok (tests x.0) (Ok (made x.0)) y x.2 in
    (x.0, x.1, passed.0, ok_same {E = ℕ} (made x.0) y passed.1)

-- ---- numbers

in_range-within : (low high : ℕ) (o : Option ℕ) (n : ℕ) → in_range low high o ≡ Ok n → (low ≤ n) × (n ≤ high)
in_range-within low high None n e = absurd cc
in_range-within low high (Some m) n e = by_order (leb low m) refl (leb m high) refl e
  where
    by_order : (b : Bool) → leb low m ≡ b → (c : Bool) → leb m high ≡ c → ◌≡◌ {A = Result ℕ ℕ} (cond (b && c) (Ok m) (Err out_of_range)) (Ok n)
        → (low ≤ n) × (n ≤ high)
    by_order true lower true upper h = let same : m ≡ n = ok_same {E = ℕ} m n h in (grind (arith, nat_tests), grind (arith, nat_tests))
    by_order true lower false upper h = absurd cc
    by_order false lower c upper h = absurd cc

pub number_from-within : (low high : ℕ) (word : List ℕ) (n : ℕ) → number_from low high word ≡ Ok n → (low ≤ n) × (n ≤ high)
unfolding number_from
number_from-within low high word n e = in_range-within low high (number_of word) n e

pub said_ok : {A : Type 0} (say : List ℕ → Result A ℕ) (words : List (List ℕ)) (k : ℕ) (x : A) → said_at say words k ≡ Ok x
    → (word : List ℕ) × (say word ≡ Ok x)
said_ok {A = A} say words k x e = by_word (slice_get words k) e
  where
    by_word : (o : Option (List ℕ)) → (elim o as (λ _. Result A ℕ) [ None ↦ Err word_count | Some word ↦ say word ]) ≡ Ok x → (word : List ℕ)
        × (say word ≡ Ok x)
    by_word None h = absurd cc
    by_word (Some word) h = (word, h)

pub number_at-within : (low high : ℕ) (words : List (List ℕ)) (k n : ℕ) → number_at low high words k ≡ Ok n → (low ≤ n) × (n ≤ high)
number_at-within low high words k n e = let word = said_ok (number_from low high) words k n e in number_from-within low high word.0 n word.1

-- ---- kinds and steps

-- what one of two ways gives, where both give only what has the property
pub either_way : {A : Type 0} (P : A → Type 0) (b : Bool) (r s : Result A ℕ) → ((x : A) → r ≡ Ok x → P x) → ((x : A) → s ≡ Ok x → P x) → (x : A)
    → cond b r s ≡ Ok x → P x
either_way P true r s f g x e = f x e
either_way P false r s f g x e = g x e

-- a seat that a kind names is from 1 to the most workers
abbrev pub IsSeatWithin : RunnerKind → Type 0
IsSeatWithin (Single seat) = (1 ≤ seat) × (seat ≤ MOST_WORKERS)
IsSeatWithin Parallel = Unit {0}
IsSeatWithin Sequenced = Unit {0}

pub kind_named-within : (word : List ℕ) (kind : RunnerKind) → kind_named word ≡ Ok kind → IsSeatWithin kind
unfolding kind_named
kind_named-within word kind e = either_way IsSeatWithin (is_word (take 7 word) (codes "single:")) (single_named (drop 7 word)) (known (many_named word))
    (λ x h. let seat = bind_ok (number_from 1 MOST_WORKERS (drop 7 word)) (λ seat. Ok (Single seat)) x h in
    subst IsSeatWithin (ok_same {E = ℕ} (Single seat.0) x seat.2) (number_from-within 1 64 (drop 7 word) seat.0 seat.1))
    (by_word (bytes_eq word (codes "parallel")) (bytes_eq word (codes "sequenced"))) kind e
  where
    by_word : (a b : Bool) (x : RunnerKind) → known (cond a (Some Parallel) (cond b (Some Sequenced) None)) ≡ Ok x → IsSeatWithin x
    by_word true b x h = subst IsSeatWithin (ok_same {E = ℕ} Parallel x h) tt
    by_word false true x h = subst IsSeatWithin (ok_same {E = ℕ} Sequenced x h) tt
    by_word false false x h = absurd cc

compute_within : (made : ℕ → Step) → ((k : ℕ) → k ≤ 2 ^ 64 - 1 → IsStepWithin (made k)) → (words : List (List ℕ)) (step : Step)
    → compute_read made words ≡ Ok step → IsStepWithin step
compute_within made f words step e =
    let p = bind_ok (number_at 0 (2 ^ 64 - 1) words 0 & ends_at words 1) (λ p. Ok (made p.0)) step e in
    let both = both_ok (number_at 0 (2 ^ 64 - 1) words 0) (ends_at words 1) p.0.0 p.0.1 p.1 in
    subst IsStepWithin (ok_same {E = ℕ} (made p.0.0) step p.2) (f p.0.0 (number_at-within 0 (2 ^ 64 - 1) words 0 p.0.0 both.0).1)

post_within : (made : ℕ → ℕ → ℕ → Step) → ((task home delay : ℕ) → delay ≤ MOST_MICROSECONDS → IsStepWithin (made task home delay))
    → (words : List (List ℕ)) (step : Step) → post_read made words ≡ Ok step → IsStepWithin step
post_within made f words step e =
    let p = bind_ok (id_at words 0 & id_at words 1 & time_at words 2 & ends_at words 3) (λ p. Ok (made p.0 p.1.0 p.1.1.0)) step e in
    let b0 = both_ok (id_at words 0) (id_at words 1 & time_at words 2 & ends_at words 3) p.0.0 p.0.1 p.1 in
    let b1 = both_ok (id_at words 1) (time_at words 2 & ends_at words 3) p.0.1.0 p.0.1.1 b0.1 in
    let b2 = both_ok (time_at words 2) (ends_at words 3) p.0.1.1.0 p.0.1.1.1 b1.1 in
    subst IsStepWithin (ok_same {E = ℕ} (made p.0.0 p.0.1.0 p.0.1.1.0) step p.2)
    (f p.0.0 p.0.1.0 p.0.1.1.0 (number_at-within 0 MOST_MICROSECONDS words 2 p.0.1.1.0 b2.0).1)

block_within : (words : List (List ℕ)) (step : Step) → block_read words ≡ Ok step → IsStepWithin step
block_within words step e =
    let p = bind_ok (name_at scope_named words 0 & ends_at words 1) (λ p. Ok (Block p.0)) step e in
    subst IsStepWithin (ok_same {E = ℕ} (Block p.0.0) step p.2) tt

unblock_within : (words : List (List ℕ)) (step : Step) → (ends_at words 0 >> Ok Unblock) ≡ Ok step → IsStepWithin step
unblock_within words step e =
    let p = refuse_ok (ltb 0 (length words)) word_count (Ok Unblock) step e in
    subst IsStepWithin (ok_same {E = ℕ} Unblock step p.1) tt

pub none_such : {A : Type 0} (P : A → Type 0) (reason : ℕ) (x : A) → ◌≡◌ {A = Result A ℕ} (Err reason) (Ok x) → P x
none_such P reason x e = absurd cc

step_said-within : (name : List ℕ) (words : List (List ℕ)) (step : Step) → step_said name words ≡ Ok step → IsStepWithin step
unfolding step_said
step_said-within name words step e =
    either_way IsStepWithin (is_word name (codes "add")) (compute_read Add words) _ (compute_within Add (λ k h. h) words)
    (either_way IsStepWithin (is_word name (codes "mul")) (compute_read Mul words) _ (compute_within Mul (λ k h. h) words)
    (either_way IsStepWithin (is_word name (codes "set")) (compute_read Set words) _ (compute_within Set (λ k h. h) words)
    (either_way IsStepWithin (is_word name (codes "post")) (post_read Post words) _ (post_within Post (λ t h u k. k) words)
    (either_way IsStepWithin (is_word name (codes "main")) (post_read Main words) _ (post_within Main (λ t h u k. k) words)
    (either_way IsStepWithin (is_word name (codes "block")) (block_read words) _ (block_within words)
    (either_way IsStepWithin (is_word name (codes "unblock")) (ends_at words 0 >> Ok Unblock) (Err unknown_word) (unblock_within words)
    (none_such IsStepWithin unknown_word))))))) step e

step_within : (words : List (List ℕ)) (step : Step) → step_read words ≡ Ok step → IsStepWithin step
step_within [] step e = absurd cc
step_within (name ∷ words) step e = step_said-within name words step e

pieces_within : (pieces : List (List (List ℕ))) (steps : List Step) → all_read (map step_read pieces) ≡ Ok steps → AllByRecursion IsStepWithin steps
pieces_within [] steps e = subst (AllByRecursion IsStepWithin) (ok_same {E = ℕ} [] steps e) tt
pieces_within (piece ∷ pieces) steps e =
    let p = bind_ok (step_read piece & all_read (map step_read pieces)) (λ p. Ok (p.0 ∷ p.1)) steps e in
    let both = both_ok (step_read piece) (all_read (map step_read pieces)) p.0.0 p.0.1 p.1 in
    subst (AllByRecursion IsStepWithin) (ok_same {E = ℕ} (p.0.0 ∷ p.0.1) steps p.2) (step_within piece p.0.0 both.0, pieces_within pieces p.0.1 both.1)

pub steps_read-within : (words : List (List ℕ)) (steps : List Step) → steps_read words ≡ Ok steps → AllByRecursion IsStepWithin steps
unfolding steps_read
steps_read-within [] steps e = subst (AllByRecursion IsStepWithin) (ok_same {E = ℕ} [] steps e) tt
steps_read-within (word ∷ words) steps e = pieces_within (slice_split is_mark (word ∷ words)) steps e

pub nothing : {A : Type 0} (xs : List A) → eqb (length xs) 0 ≡ true → xs ≡ []
nothing [] e = refl
nothing (x ∷ xs) e = absurd (let none : length (x ∷ xs) ≡ 0 = eqb-true _ _ e in omega (arith, none))
