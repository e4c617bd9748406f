-- The first place of a line for which a reason holds that its words alone give. Places are counted from 1, the command's;
-- `;` is a word too, and where a word is missing the place is the one behind the last word, or that of the `;`.
use Rattle.std.specs.Prelude.{ℕ, suc, ◌==◌, Bool, true, false, not, if◌then◌else◌, List, [], ◌∷◌, drop, slice_get, unwrap_or, Option, Some, None, option_map, Result, Ok, Err}
use Rattle.std.specs.List.{position_from}
use Rattle.std.specs.Option.{option_or}
use Rattle.script_model.specs.Words.{words_of, is_mark, is_all_ascii}
use Rattle.script_model.specs.Reasons.{word_count}
use Rattle.line_places.specs.declared.expected.Language.{Language}
use Rattle.line_places.specs.declared.expected.Expected.{Expected}
use Rattle.line_places.specs.declared.expected.Expected.TheVariants.{Command, Step, Steps, End}
use Rattle.line_places.specs.declared.expected.Found.{Found}
use Rattle.line_places.specs.Tables.{places_of, step_places}
use Rattle.line_places.specs.Faults.{fault_of, is_required, takes_word}

-- the fault, if it is the one that is sought: of a certain reason, or any
abbrev pub sought_by : Option ℕ → Option ℕ → Option ℕ
sought_by None fault = fault
sought_by (Some reason) None = None
sought_by (Some reason) (Some fault) = if fault == reason then Some fault else None

-- the place, where that is expected, if there is a fault at it
abbrev pub found_at : Option ℕ → ℕ → Expected → Option Found
found_at fault place expected = option_map (λ reason. record { place = place; expected = expected; reason = reason }) fault

-- a word is missing at the place, and that is sought
abbrev pub missing : Option ℕ → Bool → ℕ → Expected → Option Found
missing sought is_fault place expected = found_at (sought_by sought (if is_fault then Some word_count else None)) place expected

-- ---- steps

-- what is expected behind a word of a step, at whose place this was expected, and behind it those
abbrev pub behind_word : Language → Expected → List Expected → List ℕ → List Expected
behind_word language Step rest word = unwrap_or (step_places language word) []
behind_word language Steps rest word = unwrap_or (step_places language word) []
behind_word language End rest word = []
behind_word language expected rest word = rest

-- a place of steps where these are expected: it is the one that is sought, or the places behind its word expect those
abbrev pub turn_at_word : Language → Option ℕ → List Expected → List ℕ → ℕ → Result (List Expected) Found
turn_at_word language sought [] word place = Ok []
turn_at_word language sought (expected ∷ rest) word place =
    elim (found_at (sought_by sought (fault_of language expected word)) place expected) as (λ _. Result (List Expected) Found) [
      | None ↦ Ok (behind_word language expected rest word)
      | Some at ↦ Err at
    ]

-- the same where `;` stands
abbrev pub turn_at_mark : Option ℕ → List Expected → ℕ → Result (List Expected) Found
turn_at_mark sought [] place = Ok (Step ∷ [])
turn_at_mark sought (expected ∷ rest) place = elim (missing sought (takes_word expected) place expected) as (λ _. Result (List Expected) Found) [
  | None ↦ Ok (Step ∷ [])
  | Some at ↦ Err at
]

-- the same at any word
abbrev pub turn : Language → Option ℕ → List Expected → List ℕ → ℕ → Result (List Expected) Found
turn language sought expected word place =
    if is_mark word then turn_at_mark sought expected place else turn_at_word language sought expected word place

-- the end of the steps where these are expected
abbrev pub at_end : Option ℕ → List Expected → ℕ → Option Found
at_end sought [] place = None
at_end sought (expected ∷ rest) place = missing sought (is_required expected) place expected

-- the first place of steps, which stand from this place on
unfoldable pub first_of_steps : Language → Option ℕ → List Expected → List (List ℕ) → ℕ → Option Found
first_of_steps language sought expected [] place = at_end sought expected place
first_of_steps language sought expected (word ∷ words) place =
    elim (turn language sought expected word place) as (λ _. Option Found) [
      | Ok next ↦ first_of_steps language sought next words (suc place)
      | Err at ↦ Some at
    ]

-- ---- lines

-- a place that is none of a step's, with the word there, if there is one
abbrev pub at_place : Language → Option ℕ → Expected → Option (List ℕ) → ℕ → Option Found
at_place language sought expected None place = missing sought (is_required expected) place expected
at_place language sought expected (Some word) place = found_at (sought_by sought (fault_of language expected word)) place expected

-- what a place takes are the steps of the line
abbrev pub is_steps : Expected → Bool
is_steps Steps = true
is_steps expected = false

-- the first place of a line, of which these are left, from this place on
unfoldable pub first_at : Language → Option ℕ → List Expected → List (List ℕ) → ℕ → Option Found
first_at language sought [] words place = None
first_at language sought (expected ∷ rest) words place =
    if is_steps expected then first_of_steps language sought (Steps ∷ []) words place
    else option_or (at_place language sought expected (slice_get words 0) place) (first_at language sought rest (drop 1 words) (suc place))

-- the first place of a line with these words
abbrev pub first_by_words : Language → Option ℕ → List (List ℕ) → Option Found
first_by_words language sought [] = None
first_by_words language sought (command ∷ words) = elim (places_of language command) as (λ _. Option Found) [
  | None ↦ at_place language sought Command (Some command) 1
  | Some places ↦ first_at language sought places words 2
]

-- the first place of a line
abbrev pub first_place : Language → Option ℕ → List ℕ → Option Found
first_place language sought line = first_by_words language sought (words_of line)

-- the first word with a byte above 127
abbrev pub first_beyond_ascii : List ℕ → Option ℕ
first_beyond_ascii line = position_from (λ word. not (is_all_ascii word)) 1 (words_of line)
