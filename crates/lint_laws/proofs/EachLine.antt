-- Of each line whose words alone are wrong the place is found.
-- Cited by `each_bad_word_has_its_place`.
use Rattle.std.proofs.Common.{arith, ◌≡◌, ◌≢◌, ℕ, suc, ◌+◌, Bool, true, false, cond, eqb, ltb, leb, List, [], ◌∷◌, length, drop, take, refl}
use Rattle.std.proofs.Common.{sym, ap, ◌∙◌, Option, Some, None, Result, Ok, Err}
use Rattle.std.specs.Prelude.{not, ◌||◌, ◌&&◌, ◌-◌, ◌^◌, is_some, filter, slice_get, codes, unwrap_or}
use Rattle.std.specs.Option.{option_or}
use Rattle.std.specs.Result.{result_err, result_unwrap_or}
use Rattle.std.specs.List.{list_any, slice_split, onto_first, position_from}
use Rattle.std.proofs.lemmas.Bool.{eqb-true}
use Rattle.std.proofs.lemmas.List.Splits.{slice_split-cons_yes, slice_split-cons_no}
use Rattle.task_base.specs.declared.script.RunnerKind.{RunnerKind}
use Rattle.task_base.specs.declared.script.RunnerKind.TheVariants as kinds
use Rattle.task_base.specs.declared.limits.TheConstants.{MOST_WORKERS}
use Rattle.script_model.specs.Words.{words_of, is_word, is_mark, is_blank, begins_comment, is_all_ascii, number_of}
use Rattle.script_model.specs.Reasons.{◌>>=◌, ◌>>◌, refuse, not_ascii, out_of_range}
use Rattle.script_model.specs.Places.{known, in_range, number_from, number_at, single_named, many_named, kind_named}
use Rattle.script_lines.specs.declared.command.Command.TheVariants as commands
use Rattle.script_lines.specs.Said.{command_said, words_said, line_said}
use Rattle.line_places.specs.declared.expected.Language.TheVariants.{Script}
use Rattle.line_places.specs.declared.expected.Expected.{Expected}
use Rattle.line_places.specs.declared.expected.Expected.TheVariants.{Command as CommandPlace, Step, Steps, Number, Id, Kind, Priority}
use Rattle.line_places.specs.declared.expected.Expected.TheVariants.{Behaviour, MayBlock, Policy, Fence, Vote, Scope, Home, Nestable, End}
use Rattle.line_places.specs.declared.expected.Found.{Found}
use Rattle.line_places.specs.Tables.{script_places}
use Rattle.line_places.specs.Faults.{choice_fault, is_choice, fault_of, is_required, takes_word}
use Rattle.line_places.specs.First.{sought_by, found_at, is_steps, missing, behind_word, turn, turn_at_mark, turn_at_word, at_place}
use Rattle.line_places.specs.First.{first_of_steps, first_at, first_by_words, first_place, first_beyond_ascii}
use Rattle.lint_laws.specs.Told.{is_reason, word_fault, is_above_foreground}
use Rattle.lint_laws.proofs.GivenPlaces.{not_found}
use Rattle.lint_laws.proofs.WordedLines.{is_of_groups, command_found}

-- ---- reasons 2 to 5

-- the one reason of words that no place alone gives, by the words of a line
abbrev is_above : List (List ℕ) → ℕ → Bool
is_above words reason =
    eqb reason out_of_range && (is_word (unwrap_or (slice_get words 0) []) (codes "groups")
    && is_reason reason (word_fault (Number 1 (result_unwrap_or (number_at 1 64 (drop 1 words) 0) 64)) (slice_get (drop 2 words) 0)))

-- the reason of words has its place
words_found : (line : List ℕ) (words : List (List ℕ)) (reason : ℕ) → words_said line words ≡ Err reason → eqb reason not_ascii ≡ false
    → (is_some (first_by_words Script (Some reason) words) || is_above words reason) ≡ true
unfolding words_said
words_found line [] reason e other = absurd cc
words_found line (name ∷ words) reason e other = by_comment (begins_comment name) (is_all_ascii line) e
  where
    by_comment : (c a : Bool) → cond c (Ok commands.Nothing) (refuse (not a) not_ascii >> command_said name words) ≡ Err reason
        → (is_some (first_by_words Script (Some reason) (name ∷ words)) || is_of_groups name words reason) ≡ true
    by_comment true a e = absurd cc
    by_comment false true e = (command_found name words).find reason e
    by_comment false false e =
        let same : not_ascii ≡ reason = cc in
        let yes : eqb reason not_ascii ≡ true = rw (← same) refl in
        absurd cc

pub line_found : (line : List ℕ) (reason : ℕ) → line_said line ≡ Err reason → reason ≢ not_ascii
    → (is_some (first_place Script (Some reason) line) || is_above_foreground line reason) ≡ true
line_found line reason e other = words_found line (words_of line) reason e (grind (arith, other))

-- ---- reason 1

-- no place has that reason
choice_not_1 : (known : Bool) → is_reason not_ascii (choice_fault known) ≡ false
choice_not_1 true = refl
choice_not_1 false = refl

number_not_1 : (low high : ℕ) (word : List ℕ) → is_reason not_ascii (result_err (number_from low high word)) ≡ false
unfolding number_from
number_not_1 low high word = by_number (number_of word)
  where
    by_test : (n : ℕ) (b : Bool) → is_reason not_ascii (result_err (cond b (Ok n) (Err out_of_range))) ≡ false
    by_test n true = refl
    by_test n false = refl

    by_number : (o : Option ℕ) → is_reason not_ascii (result_err (in_range low high o)) ≡ false
    by_number None = refl
    by_number (Some n) = by_test n (leb low n && leb n high)

kind_not_1 : (word : List ℕ) → is_reason not_ascii (result_err (kind_named word)) ≡ false
unfolding kind_named
kind_not_1 word = by_single (is_word (take 7 word) (codes "single:"))
  where
    by_seat : (r : Result ℕ ℕ) → is_reason not_ascii (result_err r) ≡ false
        → is_reason not_ascii (result_err (r >>= λ n. Ok (kinds.Single n))) ≡ false
    by_seat (Ok n) e = refl
    by_seat (Err s) e = e

    by_name : (o : Option RunnerKind) → is_reason not_ascii (result_err (known o)) ≡ false
    by_name None = refl
    by_name (Some kind) = refl

    by_single : (b : Bool) → is_reason not_ascii (result_err (cond b (single_named (drop 7 word)) (known (many_named word)))) ≡ false
    by_single true = by_seat (number_from 1 MOST_WORKERS (drop 7 word)) (number_not_1 1 MOST_WORKERS (drop 7 word))
    by_single false = by_name (many_named word)

fault_not_1 : (expected : Expected) (word : List ℕ) → is_reason not_ascii (fault_of Script expected word) ≡ false
fault_not_1 (Number low high) word = number_not_1 low high word
fault_not_1 (Id of) word = number_not_1 0 (2 ^ 32 - 1) word
fault_not_1 Kind word = kind_not_1 word
fault_not_1 End word = refl
fault_not_1 CommandPlace word = choice_not_1 (is_choice Script CommandPlace word)
fault_not_1 Step word = choice_not_1 (is_choice Script Step word)
fault_not_1 Steps word = choice_not_1 (is_choice Script Steps word)
fault_not_1 Priority word = choice_not_1 (is_choice Script Priority word)
fault_not_1 Behaviour word = choice_not_1 (is_choice Script Behaviour word)
fault_not_1 MayBlock word = choice_not_1 (is_choice Script MayBlock word)
fault_not_1 Policy word = choice_not_1 (is_choice Script Policy word)
fault_not_1 Fence word = choice_not_1 (is_choice Script Fence word)
fault_not_1 Vote word = choice_not_1 (is_choice Script Vote word)
fault_not_1 Scope word = choice_not_1 (is_choice Script Scope word)
fault_not_1 Home word = choice_not_1 (is_choice Script Home word)
fault_not_1 Nestable word = choice_not_1 (is_choice Script Nestable word)

missing_not_1 : (is_fault : Bool) (place : ℕ) (expected : Expected) → missing (Some not_ascii) is_fault place expected ≡ None
missing_not_1 true place expected = refl
missing_not_1 false place expected = refl

steps_not_1 : (expected : List Expected) (words : List (List ℕ)) (place : ℕ) → is_some (first_of_steps Script (Some not_ascii) expected words place) ≡ false
unfolding first_of_steps
steps_not_1 [] [] place = refl
steps_not_1 (h ∷ rest) [] place = ap is_some (missing_not_1 (is_required h) place h)
steps_not_1 expected (word ∷ words) place =
    by_turn (turn Script (Some not_ascii) expected word place) (turn_not_1 (is_mark word) expected) (λ next. steps_not_1 next words (suc place))
  where
    -- the turn goes on
    GoesOn : Result (List Expected) Found → Type 0
    GoesOn (Ok next) = Unit {0}
    GoesOn (Err at) = ⊥

    by_found : (next : List Expected) (o : Option Found) → o ≡ None
        → GoesOn (elim o as (λ _. Result (List Expected) Found) [ None ↦ Ok next | Some at ↦ Err at ])
    by_found next None e = tt
    by_found next (Some at) e = absurd cc

    turn_not_1 : (m : Bool) (expected : List Expected)
        → GoesOn (cond m (turn_at_mark (Some not_ascii) expected place) (turn_at_word Script (Some not_ascii) expected word place))
    turn_not_1 true [] = tt
    turn_not_1 false [] = tt
    turn_not_1 true (h ∷ rest) = by_found (Step ∷ []) (missing (Some not_ascii) (takes_word h) place h) (missing_not_1 (takes_word h) place h)
    turn_not_1 false (h ∷ rest) =
        by_found (behind_word Script h rest word) (found_at (sought_by (Some not_ascii) (fault_of Script h word)) place h)
        (not_found not_ascii place h (fault_of Script h word) (fault_not_1 h word))

    by_turn : (t : Result (List Expected) Found) → GoesOn t
        → ((next : List Expected) → is_some (first_of_steps Script (Some not_ascii) next words (suc place)) ≡ false)
        → is_some (elim t as (λ _. Option Found) [
          | Ok next ↦ first_of_steps Script (Some not_ascii) next words (suc place)
          | Err at ↦ Some at
        ]) ≡ false
    by_turn (Ok next) goes go = go next
    by_turn (Err at) goes go = absurd goes

place_not_1 : (expected : Expected) (word : Option (List ℕ)) (place : ℕ) → at_place Script (Some not_ascii) expected word place ≡ None
place_not_1 expected None place = missing_not_1 (is_required expected) place expected
place_not_1 expected (Some word) place = not_found not_ascii place expected (fault_of Script expected word) (fault_not_1 expected word)

places_not_1 : (places : List Expected) (words : List (List ℕ)) (place : ℕ) → is_some (first_at Script (Some not_ascii) places words place) ≡ false
unfolding first_at
places_not_1 [] words place = refl
places_not_1 (expected ∷ rest) words place =
    by_steps (is_steps expected) (at_place Script (Some not_ascii) expected (slice_get words 0) place) (place_not_1 expected (slice_get words 0) place)
    (places_not_1 rest (drop 1 words) (suc place))
  where
    by_steps : (p : Bool) (o : Option Found) → o ≡ None → is_some (first_at Script (Some not_ascii) rest (drop 1 words) (suc place)) ≡ false
        → is_some (cond p (first_of_steps Script (Some not_ascii) (Steps ∷ []) words place)
        (option_or o (first_at Script (Some not_ascii) rest (drop 1 words) (suc place)))) ≡ false
    by_steps true o none behind = steps_not_1 (Steps ∷ []) words place
    by_steps false None none behind = behind
    by_steps false (Some at) none behind = absurd cc

by_words_not_1 : (name : List ℕ) (words : List (List ℕ)) → is_some (first_by_words Script (Some not_ascii) (name ∷ words)) ≡ false
by_words_not_1 name words = by_table (script_places name)
  where
    by_table : (table : Option (List Expected)) → is_some (elim table as (λ _. Option Found) [
      | None ↦ at_place Script (Some not_ascii) CommandPlace (Some name) 1
      | Some places ↦ first_at Script (Some not_ascii) places words 2
    ]) ≡ false
    by_table None = ap is_some (place_not_1 CommandPlace (Some name) 1)
    by_table (Some places) = places_not_1 places words 2

-- so a line with that reason has a byte above 127
beyond : (line : List ℕ) (words : List (List ℕ)) → words_said line words ≡ Err not_ascii → is_all_ascii line ≡ false
unfolding words_said
beyond line [] e = absurd cc
beyond line (name ∷ words) e = by_comment (begins_comment name) (is_all_ascii line) e
  where
    by_comment : (c a : Bool) → cond c (Ok commands.Nothing) (refuse (not a) not_ascii >> command_said name words) ≡ Err not_ascii → a ≡ false
    by_comment true a e = absurd cc
    by_comment false true e =
        let some = (command_found name words).find not_ascii e in
        let none = by_words_not_1 name words in
        absurd (never (is_some (first_by_words Script (Some not_ascii) (name ∷ words))) none some)
      where
        never : (b : Bool) → b ≡ false → (b || false) ≡ true → ⊥
        never true none some = absurd cc
        never false none some = absurd cc
    by_comment false false e = refl

-- ---- the word of a byte above 127

-- a word has a byte above 127
abbrev is_beyond : List ℕ → Bool
is_beyond word = not (is_all_ascii word)

blank_ascii : (b : ℕ) → is_blank b ≡ true → ltb b 128 ≡ true
blank_ascii b e = by_tests (eqb b 32) refl (eqb b 9) refl e
  where
    by_tests : (p : Bool) → eqb b 32 ≡ p → (q : Bool) → eqb b 9 ≡ q → (p || q) ≡ true → ltb b 128 ≡ true
    by_tests true space q tab e = rw (eqb-true b 32 space) refl
    by_tests false space true tab e = rw (eqb-true b 9 tab) refl
    by_tests false space false tab e = absurd cc

parts_beyond : (line : List ℕ) → is_all_ascii line ≡ false → list_any is_beyond (slice_split is_blank line) ≡ true
parts_beyond [] e = absurd cc
parts_beyond (b ∷ line) e = by_blank (is_blank b) refl (ltb b 128) refl e (parts_beyond line)
  where
    first : (parts : List (List ℕ)) (a : Bool) → ltb b 128 ≡ a → (a ≡ true → list_any is_beyond parts ≡ true) → list_any is_beyond (onto_first b parts) ≡ true
    first [] true is rest = absurd (let none : false ≡ true = rest refl in cc)
    first [] false is rest = rw is refl
    first (part ∷ parts) true is rest = rw is (rest refl)
    first (part ∷ parts) false is rest = rw is refl

    by_blank : (p : Bool) → is_blank b ≡ p → (a : Bool) → ltb b 128 ≡ a → (a && is_all_ascii line) ≡ false
        → (is_all_ascii line ≡ false → list_any is_beyond (slice_split is_blank line) ≡ true)
        → list_any is_beyond (slice_split is_blank (b ∷ line)) ≡ true
    by_blank true blank true ascii e rest = rw (slice_split-cons_yes is_blank b line blank) (rest e)
    by_blank true blank false ascii e rest = absurd (let yes = blank_ascii b blank in let no : false ≡ true = sym ascii ∙ yes in cc)
    by_blank false blank true ascii e rest =
        rw (slice_split-cons_no is_blank b line blank) (first (slice_split is_blank line) true ascii (λ _. rest e))
    by_blank false blank false ascii e rest =
        rw (slice_split-cons_no is_blank b line blank) (first (slice_split is_blank line) false ascii (λ h. absurd cc))

-- such a word is not empty
words_beyond : (parts : List (List ℕ)) → list_any is_beyond parts ≡ true → list_any is_beyond (filter (λ word. not (eqb (length word) 0)) parts) ≡ true
words_beyond [] e = absurd cc
words_beyond ([] ∷ parts) e = words_beyond parts e
words_beyond ((b ∷ word) ∷ parts) e = by_kept (not (eqb (suc (length word)) 0)) (grind arith) (by_word (is_beyond (b ∷ word)) e (words_beyond parts))
  where
    kept : List (List ℕ)
    kept = filter (λ word. not (eqb (length word) 0)) parts

    by_word : (p : Bool) → (p || list_any is_beyond parts) ≡ true → (list_any is_beyond parts ≡ true → list_any is_beyond kept ≡ true)
        → (p || list_any is_beyond kept) ≡ true
    by_word true e rest = refl
    by_word false e rest = rest e

    by_kept : (k : Bool) → k ≡ true → (is_beyond (b ∷ word) || list_any is_beyond kept) ≡ true
        → list_any is_beyond (cond k ((b ∷ word) ∷ kept) kept) ≡ true
    by_kept true is e = e
    by_kept false is e = absurd cc

place_beyond : (words : List (List ℕ)) (place : ℕ) → list_any is_beyond words ≡ true → is_some (position_from is_beyond place words) ≡ true
place_beyond [] place e = absurd cc
place_beyond (word ∷ words) place e = by_word (is_beyond word) e (place_beyond words (place + 1))
  where
    by_word : (p : Bool) → (p || list_any is_beyond words) ≡ true
        → (list_any is_beyond words ≡ true → is_some (position_from is_beyond (place + 1) words) ≡ true)
        → is_some (cond p (Some place) (position_from is_beyond (place + 1) words)) ≡ true
    by_word true e rest = refl
    by_word false e rest = rest e

-- the first such word of a line with reason 1 has its place
pub ascii_found : (line : List ℕ) → line_said line ≡ Err not_ascii → is_some (first_beyond_ascii line) ≡ true
ascii_found line e = place_beyond (words_of line) 1 (words_beyond (slice_split is_blank line) (parts_beyond line (beyond line (words_of line) e)))
