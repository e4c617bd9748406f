-- A reason holds of the place that is found for it.
-- Cited by `each_bad_word_has_its_place`.
use Rattle.std.proofs.Common.{◌≡◌, ℕ, suc, ◌-◌, Bool, true, false, cond, eqb, List, [], ◌∷◌, drop, refl, sym, ap, subst, ◌∙◌, Option, Some}
use Rattle.std.proofs.Common.{None, Result, Ok, Err, arith}
use Rattle.std.specs.Prelude.{◌&&◌, slice_get}
use Rattle.std.specs.Option.{option_or}
use Rattle.std.proofs.lemmas.Bool.{eqb-true, or_left, or_right}
use Rattle.std.proofs.lemmas.Option.{same_Some}
use Rattle.script_model.specs.Words.{words_of, is_mark}
use Rattle.script_model.specs.Reasons.{word_count}
use Rattle.line_places.specs.declared.expected.Language.TheVariants.{Script}
use Rattle.line_places.specs.declared.expected.Expected.{Expected}
use Rattle.line_places.specs.declared.expected.Expected.TheVariants.{Command, Step, Steps}
use Rattle.line_places.specs.declared.expected.Found.{Found}
use Rattle.line_places.specs.Tables.{script_places}
use Rattle.line_places.specs.Faults.{fault_of, is_required, takes_word}
use Rattle.line_places.specs.First.{sought_by, found_at, is_steps, missing, behind_word, turn, turn_at_mark, turn_at_word, at_place}
use Rattle.line_places.specs.First.{first_of_steps, first_at, first_by_words, first_place}
use Rattle.line_places.specs.Words.{word_at}
use Rattle.lint_laws.specs.Told.{holds_at, is_reason}
use Rattle.lint_laws.proofs.GivenPlaces.{drop-again}

-- ---- a place among words

-- the word at a place of these, counted from 1
abbrev word_in : List (List ℕ) → ℕ → Option (List ℕ)
word_in all place = slice_get (drop (place - 1) all) 0

word_here : (all words : List (List ℕ)) (n : ℕ) → drop n all ≡ words → word_in all (suc n) ≡ slice_get words 0
word_here all words n behind = let before : suc n - 1 ≡ n = omega arith in rw (before, behind) refl

-- the reason is that of the place, and holds of it
abbrev IsRightAt : ℕ → List (List ℕ) → Found → Type 0
IsRightAt reason all at = (holds_at reason at.expected (word_in all at.place) ≡ true) × (at.reason ≡ reason)

-- the same of what is found
abbrev IsRight : ℕ → List (List ℕ) → Option Found → Type 0
IsRight reason all o = (f : Found) → o ≡ Some f → IsRightAt reason all f

right_found : (reason : ℕ) (all : List (List ℕ)) (at : Found) → IsRightAt reason all at → IsRight reason all (Some at)
right_found reason all at right f e = subst (λ g. IsRightAt reason all g) (same_Some at f e) right

right_if : (fault : Option ℕ) (place : ℕ) (h : Expected) (all : List (List ℕ)) (reason : ℕ)
    → (is_reason reason fault ≡ true → holds_at reason h (word_in all place) ≡ true) → IsRight reason all (found_at (sought_by (Some reason) fault) place h)
right_if None place h all reason right = λ f e. absurd cc
right_if (Some fault) place h all reason right = by_test (eqb fault reason) refl
  where
    by_test : (b : Bool) → eqb fault reason ≡ b → IsRight reason all (found_at (cond b (Some fault) None) place h)
    by_test true is = right_found reason all (record { place = place; expected = h; reason = fault }) (right is, eqb-true fault reason is)
    by_test false is = λ f e. absurd cc

-- what is sought where a word is missing
is_missing : (is_fault : Bool) (reason : ℕ) → is_reason reason (cond is_fault (Some word_count) None) ≡ true → (is_fault && eqb word_count reason) ≡ true
is_missing true reason e = e
is_missing false reason e = absurd cc

-- ---- steps

steps_right : (expected : List Expected) (words all : List (List ℕ)) (n reason : ℕ) → drop n all ≡ words
    → IsRight reason all (first_of_steps Script (Some reason) expected words (suc n))
unfolding first_of_steps
steps_right [] [] all n reason behind = λ f e. absurd cc
steps_right (h ∷ rest) [] all n reason behind =
    right_if (cond (is_required h) (Some word_count) None) (suc n) h all reason
    (λ e. rw (word_here all [] n behind) (is_missing (is_required h) reason e))
steps_right expected (word ∷ words) all n reason behind =
    by_turn (turn Script (Some reason) expected word (suc n)) (at_turn (is_mark word) refl expected)
    (λ next. steps_right next words all (suc n) reason (sym (drop-again n all) ∙ ap (drop 1) behind))
  where
    IsRightTurn : Result (List Expected) Found → Type 0
    IsRightTurn (Ok next) = Unit {0}
    IsRightTurn (Err at) = IsRightAt reason all at

    by_found : (next : List Expected) (o : Option Found) → IsRight reason all o
        → IsRightTurn (elim o as (λ _. Result (List Expected) Found) [ None ↦ Ok next | Some at ↦ Err at ])
    by_found next None right = tt
    by_found next (Some at) right = right at refl

    at_turn : (m : Bool) → is_mark word ≡ m → (expected : List Expected)
        → IsRightTurn (cond m (turn_at_mark (Some reason) expected (suc n)) (turn_at_word Script (Some reason) expected word (suc n)))
    at_turn true is [] = tt
    at_turn false is [] = tt
    at_turn true is (h ∷ rest) =
        by_found (Step ∷ []) (missing (Some reason) (takes_word h) (suc n) h)
        (right_if (cond (takes_word h) (Some word_count) None) (suc n) h all reason
        (λ e. rw (word_here all (word ∷ words) n behind)
        (or_right (is_reason reason (fault_of Script h word)) (is_mark word && (takes_word h && eqb word_count reason))
        (subst (λ m. (m && (takes_word h && eqb word_count reason)) ≡ true) (sym is) (is_missing (takes_word h) reason e)))))
    at_turn false is (h ∷ rest) =
        by_found (behind_word Script h rest word) (found_at (sought_by (Some reason) (fault_of Script h word)) (suc n) h)
        (right_if (fault_of Script h word) (suc n) h all reason
        (λ e. rw (word_here all (word ∷ words) n behind)
        (or_left (is_reason reason (fault_of Script h word)) (is_mark word && (takes_word h && eqb word_count reason)) e)))

    by_turn : (t : Result (List Expected) Found) → IsRightTurn t
        → ((next : List Expected) → IsRight reason all (first_of_steps Script (Some reason) next words (suc (suc n))))
        → IsRight reason all (elim t as (λ _. Option Found) [
          | Ok next ↦ first_of_steps Script (Some reason) next words (suc (suc n))
          | Err at ↦ Some at
        ])
    by_turn (Ok next) right go = go next
    by_turn (Err at) right go = right_found reason all at right

-- ---- lines

place_right : (expected : Expected) (words all : List (List ℕ)) (n reason : ℕ) → drop n all ≡ words
    → IsRight reason all (at_place Script (Some reason) expected (slice_get words 0) (suc n))
place_right expected words all n reason behind = by_word (slice_get words 0) (word_here all words n behind)
  where
    by_word : (o : Option (List ℕ)) → word_in all (suc n) ≡ o → IsRight reason all (at_place Script (Some reason) expected o (suc n))
    by_word None is =
        right_if (cond (is_required expected) (Some word_count) None) (suc n) expected all reason
        (λ e. rw is (is_missing (is_required expected) reason e))
    by_word (Some word) is =
        right_if (fault_of Script expected word) (suc n) expected all reason
        (λ e. rw is (or_left (is_reason reason (fault_of Script expected word)) (is_mark word && (takes_word expected && eqb word_count reason)) e))

places_right : (places : List Expected) (words all : List (List ℕ)) (n reason : ℕ) → drop n all ≡ words
    → IsRight reason all (first_at Script (Some reason) places words (suc n))
unfolding first_at
places_right [] words all n reason behind = λ f e. absurd cc
places_right (expected ∷ rest) words all n reason behind =
    by_steps (is_steps expected) (at_place Script (Some reason) expected (slice_get words 0) (suc n)) (place_right expected words all n reason behind)
    (places_right rest (drop 1 words) all (suc n) reason (sym (drop-again n all) ∙ ap (drop 1) behind))
  where
    others : Option Found
    others = first_at Script (Some reason) rest (drop 1 words) (suc (suc n))

    by_steps : (p : Bool) (o : Option Found) → IsRight reason all o → IsRight reason all others
        → IsRight reason all (cond p (first_of_steps Script (Some reason) (Steps ∷ []) words (suc n)) (option_or o others))
    by_steps true o first rest = steps_right (Steps ∷ []) words all n reason behind
    by_steps false None first rest = rest
    by_steps false (Some at) first rest = first

words_right : (words : List (List ℕ)) (reason : ℕ) → IsRight reason words (first_by_words Script (Some reason) words)
words_right [] reason = λ f e. absurd cc
words_right (name ∷ words) reason = by_table (script_places name)
  where
    by_table : (table : Option (List Expected)) → IsRight reason (name ∷ words) (elim table as (λ _. Option Found) [
      | None ↦ at_place Script (Some reason) Command (Some name) 1
      | Some places ↦ first_at Script (Some reason) places words 2
    ])
    by_table None = place_right Command (name ∷ words) (name ∷ words) 0 reason refl
    by_table (Some places) = places_right places words (name ∷ words) 1 reason refl

-- the reason holds of the place that is found for it
pub place_is_right : (line : List ℕ) (reason : ℕ) (found : Found) → first_place Script (Some reason) line ≡ Some found
    → holds_at reason found.expected (word_at line found.place) ≡ true
place_is_right line reason found e = (words_right (words_of line) reason found e).0

-- and it is the reason that is found there
pub reason_is_right : (line : List ℕ) (reason : ℕ) (found : Found) → first_place Script (Some reason) line ≡ Some found → found.reason ≡ reason
reason_is_right line reason found e = (words_right (words_of line) reason found e).1
