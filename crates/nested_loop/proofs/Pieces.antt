-- The steps of a line, read one after the other, as a loop does.
-- Cited by `steps_said`.
use Rattle.std.proofs.Common.{◌≡◌, ℕ, ◌+◌, ◌<◌, Bool, true, false, eqb, List, [], ◌∷◌, ◌++◌, length, get_or, drop}
use Rattle.std.proofs.Common.{map, refl, Option, Some, None, arith, add-one, drop-cons, append_assoc}
use Rattle.std.specs.List.{slice_split, onto_first}
use Rattle.std.specs.Borrow.{Bor}
use Rattle.std.proofs.lemmas.List.{append-nil, drop_all}
use Rattle.std.proofs.lemmas.Bool.{eqb-true}
use Rattle.std.proofs.lemmas.Simd.{map-map}
use Rattle.line_text.specs.Words.{texts}
use Rattle.script_model.specs.Words.{is_mark}
use Rattle.nested_loop.specs.declared.nest.NestStep.{NestStep}
use Rattle.nested_loop.specs.NestWords.{◌>>=◌, all_said, step_said, steps_said}

-- ---- parts of words

onto_first-map : {A B : Type 0} (f : A → B) (x : A) (parts : List (List A)) → onto_first (f x) (map (map f) parts) ≡ map (map f) (onto_first x parts)
onto_first-map f x [] = refl
onto_first-map f x (part ∷ parts) = refl

-- what is made of the parts are the parts of what is made
pub slice_split-map : {A B : Type 0} (p : B → Bool) (f : A → B) (xs : List A) → slice_split p (map f xs) ≡ map (map f) (slice_split (λ x. p (f x)) xs)
slice_split-map p f [] = refl
slice_split-map p f (x ∷ xs) = by_test (p (f x)) refl (slice_split-map p f xs)
  where
    by_test : (b : Bool) → p (f x) ≡ b → slice_split p (map f xs) ≡ map (map f) (slice_split (λ y. p (f y)) xs)
        → slice_split p (map f (x ∷ xs)) ≡ map (map f) (slice_split (λ y. p (f y)) (x ∷ xs))
    by_test true e rest = rw (e, rest) refl
    by_test false e rest = rw (e, rest) (onto_first-map f x (slice_split (λ y. p (f y)) xs))

-- ---- steps behind steps

-- the steps with those behind them, if these are all said
abbrev pub followed : List NestStep → Option (List NestStep) → Option (List NestStep)
followed steps behind = behind >>= λ more. Some (steps ++ more)

-- what the pieces from this one on say
abbrev pub said_from : ℕ → List (List (Bor (List ℕ))) → Option (List NestStep)
said_from i pieces = all_said (map (λ piece. step_said (texts piece)) (drop i pieces))

piece-cons : (i : ℕ) (pieces : List (List (Bor (List ℕ)))) (piece : List (Bor (List ℕ))) → i < length pieces → piece ≡ get_or pieces i piece
    → drop i pieces ≡ piece ∷ drop (i + 1) pieces
piece-cons i pieces piece lt is = rw (add-one, drop-cons pieces i piece, ← is) refl

-- a step that is said moves behind those before it
pub followed-more : (steps : List NestStep) (step : NestStep) (i : ℕ) (pieces : List (List (Bor (List ℕ)))) (piece : List (Bor (List ℕ)))
    → i < length pieces → piece ≡ get_or pieces i piece → step_said (texts piece) ≡ Some step
    → followed (steps ++ step ∷ []) (said_from (i + 1) pieces) ≡ followed steps (said_from i pieces)
followed-more steps step i pieces piece lt is said = rw (piece-cons i pieces piece lt is, said) (onto (said_from (i + 1) pieces))
  where
    onto : (behind : Option (List NestStep)) → followed (steps ++ step ∷ []) behind ≡ followed steps (behind >>= λ more. Some (step ∷ more))
    onto None = refl
    onto (Some more) = rw append_assoc refl

-- a piece that is no step makes the words none
pub followed-bad : (steps : List NestStep) (i : ℕ) (pieces : List (List (Bor (List ℕ)))) (piece : List (Bor (List ℕ)))
    → i < length pieces → piece ≡ get_or pieces i piece → step_said (texts piece) ≡ None → followed steps (said_from i pieces) ≡ None
followed-bad steps i pieces piece lt is none = rw (piece-cons i pieces piece lt is, none) refl

-- behind the last piece there is nothing more
pub followed-end : (steps : List NestStep) (i : ℕ) (pieces : List (List (Bor (List ℕ)))) → i ≡ length pieces → followed steps (said_from i pieces) ≡ Some steps
followed-end steps i pieces e = rw (drop_all i pieces (omega arith), append-nil) refl

-- ---- all the steps

-- words that are some are cut at the marks
pub steps_said-some : (words : List (Bor (List ℕ))) → eqb (length words) 0 ≡ false
    → steps_said (texts words) ≡ followed [] (said_from 0 (slice_split (λ word. is_mark word.now) words))
unfolding steps_said
steps_said-some [] some = absurd cc
steps_said-some (word ∷ words) some =
    rw (slice_split-map is_mark (λ (w : Bor (List ℕ)). w.now) (word ∷ words), map-map)
    (whole (all_said (map (λ piece. step_said (texts piece)) (slice_split (λ w. is_mark w.now) (word ∷ words)))))
  where
    whole : (said : Option (List NestStep)) → said ≡ followed [] said
    whole None = refl
    whole (Some steps) = refl

-- no words are no steps
pub steps_said-none : (words : List (Bor (List ℕ))) → eqb (length words) 0 ≡ true → steps_said (texts words) ≡ Some []
unfolding steps_said
steps_said-none [] none = refl
steps_said-none (word ∷ words) none = absurd (let e = eqb-true _ _ none in omega arith)
