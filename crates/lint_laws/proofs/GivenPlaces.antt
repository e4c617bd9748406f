-- A reason that the words of a line give is the reason of one of its places.
-- Cited by `EachLine`, `RightPlaces`, `WordedLines`, `WordedSteps`.
use Rattle.std.proofs.Common.{◌≡◌, ℕ, zero, suc, ◌+◌, ◌-◌, ◌<◌, Bool, true, false, cond, eqb, ltb, leb, List, [], ◌∷◌, length, drop, refl, ap}
use Rattle.std.proofs.Common.{Option, Some, None, Result, Ok, Err, arith, add-one}
use Rattle.std.specs.Prelude.{◌||◌, ◌^◌, is_some, slice_get, codes, min}
use Rattle.std.specs.Result.{result_err}
use Rattle.std.proofs.lemmas.Bool.{leb-true, leb-false, ltb-true, or_left, or_right}
use Rattle.list_laws.proofs.Values.{eqb-same}
use Rattle.task_base.specs.declared.limits.TheConstants.{MOST_MICROSECONDS}
use Rattle.value_words.specs.Words.{priority_named, behaviour_named, policy_named, fence_named, scope_named, vote_named}
use Rattle.script_model.specs.Words.{is_word}
use Rattle.script_model.specs.Reasons.{◌>>=◌, ◌>>◌, ◌&◌, refuse, unknown_word, word_count}
use Rattle.script_model.specs.Places.{known, said_at, name_at, ends_at, number_from, number_at, id_at, time_at, kind_named, may_block_named}
use Rattle.script_model.specs.Places.{may_block_at, steps_read}
use Rattle.line_places.specs.declared.expected.Language.TheVariants.{Script}
use Rattle.line_places.specs.declared.expected.Thing.{Thing}
use Rattle.line_places.specs.declared.expected.Expected.{Expected}
use Rattle.line_places.specs.declared.expected.Expected.TheVariants.{Steps, Number, Id, Kind, Priority, Behaviour, MayBlock, Policy, Fence, Vote, Scope, End}
use Rattle.line_places.specs.Faults.{choice_fault, fault_of, is_required}
use Rattle.line_places.specs.First.{sought_by, found_at, is_steps}
use Rattle.lint_laws.specs.Told.{is_reason}

-- why a place can't be as it is: no word stands there, or this one
abbrev pub place_fault : Expected → Option (List ℕ) → Option ℕ
place_fault expected None = if_required (is_required expected)
  where
    if_required : Bool → Option ℕ
    if_required required = cond required (Some word_count) None
place_fault expected (Some word) = fault_of Script expected word

-- nothing is found at a place whose fault has another reason
pub not_found : (reason place : ℕ) (expected : Expected) (fault : Option ℕ) → is_reason reason fault ≡ false
    → found_at (sought_by (Some reason) fault) place expected ≡ None
not_found reason place expected None other = refl
not_found reason place expected (Some fault) other = ap (λ b. found_at (cond b (Some fault) None) place expected) other

-- the fault of a place at which nothing is found has another reason
pub other_reason : (reason place : ℕ) (expected : Expected) (fault : Option ℕ) → found_at (sought_by (Some reason) fault) place expected ≡ None
    → is_reason reason fault ≡ false
other_reason reason place expected None none = refl
other_reason reason place expected (Some fault) none = by_test (eqb fault reason) none
  where
    by_test : (b : Bool) → found_at (cond b (Some fault) None) place expected ≡ None → b ≡ false
    by_test true none = absurd cc
    by_test false none = refl

-- the reason is that of one of these places
abbrev pub gives : ℕ → List Expected → List (List ℕ) → Bool
gives reason [] words = false
gives reason (expected ∷ rest) words =
    cond (is_steps expected) (is_reason reason (result_err (steps_read words)))
    (is_reason reason (place_fault expected (slice_get words 0)) || gives reason rest (drop 1 words))

-- the reason of a result is that of a place
pub record PlaceGives {A : Type 0} (k : ℕ) (result : Result A ℕ) (expected : Expected) (words : List (List ℕ)) : Type 0 where
  pub give : (reason : ℕ) → result ≡ Err reason → is_reason reason (place_fault expected (slice_get words k)) ≡ true

-- the reason of a result is that of one of the places from this one on
pub record PlacesGive {A : Type 0} (k : ℕ) (result : Result A ℕ) (places : List Expected) (words : List (List ℕ)) : Type 0 where
  pub give : (reason : ℕ) → result ≡ Err reason → gives reason places (drop k words) ≡ true

-- ---- results together

-- the lesser of two reasons is one of them
pub one_gives : {A B : Type 0} (a : Result A ℕ) (b : Result B ℕ) (reason : ℕ) (x y : Bool) → (a ≡ Err reason → x ≡ true) → (b ≡ Err reason → y ≡ true)
    → (a & b) ≡ Err reason → (x || y) ≡ true
one_gives (Ok v) (Ok w) reason x y p q e = absurd cc
one_gives (Ok v) (Err s) reason x y p q e = let same : s ≡ reason = cc in or_right x y (q (ap Err same))
one_gives (Err s) (Ok w) reason x y p q e = let same : s ≡ reason = cc in or_left x y (p (ap Err same))
one_gives (Err s) (Err t) reason x y p q e = by_order (leb s t) refl
  where
    least : min s t ≡ reason
    least = cc

    by_order : (b : Bool) → leb s t ≡ b → (x || y) ≡ true
    by_order true less = let le = leb-true s t less in let same : s ≡ reason = omega (arith, le, least) in or_left x y (p (ap Err same))
    by_order false less = let lt = leb-false s t less in let same : t ≡ reason = omega (arith, lt, least) in or_right x y (q (ap Err same))

pub get-drop : {A : Type 0} (k : ℕ) (xs : List A) → slice_get (drop k xs) 0 ≡ slice_get xs k
get-drop zero [] = refl
get-drop zero (x ∷ xs) = refl
get-drop (suc k) [] = refl
get-drop (suc k) (x ∷ xs) = get-drop k xs

pub drop-again : {A : Type 0} (k : ℕ) (xs : List A) → drop 1 (drop k xs) ≡ drop (suc k) xs
drop-again zero xs = refl
drop-again (suc k) [] = refl
drop-again (suc k) (x ∷ xs) = drop-again k xs

-- a place, and those behind it
pub both : {A B : Type 0} (k : ℕ) (a : Result A ℕ) (b : Result B ℕ) (expected : Expected) (rest : List Expected) (words : List (List ℕ))
    → is_steps expected ≡ false → PlaceGives k a expected words → PlacesGive (k + 1) b rest words → PlacesGive k (a & b) (expected ∷ rest) words
both k a b expected rest words plain first others = record {
  give = λ reason e. rw (plain, get-drop k words, drop-again k words)
      (one_gives a b reason (is_reason reason (place_fault expected (slice_get words k))) (gives reason rest (drop (suc k) words)) (first.give reason)
      (λ f. rw (← add-one k) (others.give reason f)) e);
}

-- the last place
pub last : {A : Type 0} (k : ℕ) (a : Result A ℕ) (expected : Expected) (words : List (List ℕ)) → is_steps expected ≡ false
    → PlaceGives k a expected words → PlacesGive k a (expected ∷ []) words
last k a expected words plain first = record {
  give = λ reason e. rw (plain, get-drop k words) (or_left (is_reason reason (place_fault expected (slice_get words k))) false (first.give reason e));
}

-- the steps at the end of a line
pub steps_last : (k : ℕ) (words : List (List ℕ)) → PlacesGive k (steps_read (drop k words)) (Steps ∷ []) words
steps_last k words = record { give = λ reason e. rw e (eqb-same reason) }

-- what is made of the values has their reason
pub made : {A B : Type 0} (k : ℕ) (a : Result A ℕ) (f : A → B) (places : List Expected) (words : List (List ℕ)) → PlacesGive k a places words
    → PlacesGive k (a >>= λ x. Ok (f x)) places words
made k (Ok x) f places words given = record { give = λ reason e. absurd cc }
made k (Err s) f places words given = record { give = λ reason e. let same : s ≡ reason = cc in given.give reason (ap Err same) }

pub then_made : {B : Type 0} (k : ℕ) (a : Result (Unit {0}) ℕ) (x : B) (places : List Expected) (words : List (List ℕ)) → PlacesGive k a places words
    → PlacesGive k (a >> Ok x) places words
then_made k (Ok u) x places words given = record { give = λ reason e. absurd cc }
then_made k (Err s) x places words given = record { give = λ reason e. let same : s ≡ reason = cc in given.give reason (ap Err same) }

-- ---- each place

-- a place that needs a word
said_gives : {A : Type 0} (say : List ℕ → Result A ℕ) (expected : Expected) (k : ℕ) (words : List (List ℕ))
    → ((word : List ℕ) → fault_of Script expected word ≡ result_err (say word)) → is_required expected ≡ true
    → PlaceGives k (said_at say words k) expected words
said_gives {A = A} say expected k words fault required = record { give = λ reason e. by_word reason (slice_get words k) e }
  where
    by_word : (reason : ℕ) (o : Option (List ℕ)) → (elim o as (λ _. Result A ℕ) [ None ↦ Err word_count | Some word ↦ say word ]) ≡ Err reason
        → is_reason reason (place_fault expected o) ≡ true
    by_word reason None e = let same : word_count ≡ reason = cc in rw (required, ← same) refl
    by_word reason (Some word) e = rw (fault word, e) (eqb-same reason)

known_fault : {A : Type 0} (o : Option A) → choice_fault (is_some o) ≡ result_err (known o)
known_fault None = refl
known_fault (Some x) = refl

pub number_gives : (low high k : ℕ) (words : List (List ℕ)) → PlaceGives k (number_at low high words k) (Number low high) words
number_gives low high k words = said_gives (number_from low high) (Number low high) k words (λ word. refl) refl

pub id_gives : (of : Thing) (k : ℕ) (words : List (List ℕ)) → PlaceGives k (id_at words k) (Id of) words
id_gives of k words = said_gives (number_from 0 (2 ^ 32 - 1)) (Id of) k words (λ word. refl) refl

pub time_gives : (k : ℕ) (words : List (List ℕ)) → PlaceGives k (time_at words k) (Number 0 MOST_MICROSECONDS) words
time_gives k words = number_gives 0 MOST_MICROSECONDS k words

pub kind_gives : (k : ℕ) (words : List (List ℕ)) → PlaceGives k (said_at kind_named words k) Kind words
kind_gives k words = said_gives kind_named Kind k words (λ word. refl) refl

pub priority_gives : (k : ℕ) (words : List (List ℕ)) → PlaceGives k (name_at priority_named words k) Priority words
priority_gives k words = said_gives (λ word. known (priority_named word)) Priority k words (λ word. known_fault (priority_named word)) refl

pub behaviour_gives : (k : ℕ) (words : List (List ℕ)) → PlaceGives k (name_at behaviour_named words k) Behaviour words
behaviour_gives k words = said_gives (λ word. known (behaviour_named word)) Behaviour k words (λ word. known_fault (behaviour_named word)) refl

pub policy_gives : (k : ℕ) (words : List (List ℕ)) → PlaceGives k (name_at policy_named words k) Policy words
policy_gives k words = said_gives (λ word. known (policy_named word)) Policy k words (λ word. known_fault (policy_named word)) refl

pub fence_gives : (k : ℕ) (words : List (List ℕ)) → PlaceGives k (name_at fence_named words k) Fence words
fence_gives k words = said_gives (λ word. known (fence_named word)) Fence k words (λ word. known_fault (fence_named word)) refl

pub vote_gives : (k : ℕ) (words : List (List ℕ)) → PlaceGives k (name_at vote_named words k) Vote words
vote_gives k words = said_gives (λ word. known (vote_named word)) Vote k words (λ word. known_fault (vote_named word)) refl

pub scope_gives : (k : ℕ) (words : List (List ℕ)) → PlaceGives k (name_at scope_named words k) Scope words
scope_gives k words = said_gives (λ word. known (scope_named word)) Scope k words (λ word. known_fault (scope_named word)) refl

-- `mayblock`, or no word
pub may_block_gives : (k : ℕ) (words : List (List ℕ)) → PlaceGives k (may_block_at words k) MayBlock words
may_block_gives k words = record { give = λ reason e. by_word reason (slice_get words k) e }
  where
    by_test : (reason : ℕ) (b : Bool) → ◌≡◌ {A = Result Bool ℕ} (cond b (Ok true) (Err unknown_word)) (Err reason)
        → is_reason reason (choice_fault b) ≡ true
    by_test reason true e = absurd cc
    by_test reason false e = let same : unknown_word ≡ reason = cc in rw (← same) refl

    by_word : (reason : ℕ) (o : Option (List ℕ)) → (elim o as (λ _. Result Bool ℕ) [ None ↦ Ok false | Some word ↦ may_block_named word ]) ≡ Err reason
        → is_reason reason (place_fault MayBlock o) ≡ true
    by_word reason None e = absurd cc
    by_word reason (Some word) e = by_test reason (is_word word (codes "mayblock")) e

-- a word stands where the line has to end
get-within : {A : Type 0} (k : ℕ) (xs : List A) → k < length xs → (x : A) × (slice_get xs k ≡ Some x)
get-within k [] lt = absurd (omega arith)
get-within zero (x ∷ xs) lt = (x, refl)
get-within (suc k) (x ∷ xs) lt = get-within k xs (omega arith)

pub end_gives : (k : ℕ) (words : List (List ℕ)) → PlaceGives k (ends_at words k) End words
end_gives k words = record { give = λ reason e. by_test reason (ltb k (length words)) refl e }
  where
    by_test : (reason : ℕ) (b : Bool) → ltb k (length words) ≡ b → refuse b word_count ≡ Err reason
        → is_reason reason (place_fault End (slice_get words k)) ≡ true
    by_test reason true less e =
        let word = get-within k words (ltb-true k (length words) less) in
        let same : word_count ≡ reason = cc in
        rw (word.1, ← same) refl
    by_test reason false less e = absurd cc
