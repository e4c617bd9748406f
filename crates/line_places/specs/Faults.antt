-- Why a word can't stand at a place, by what the place takes: the reasons of scripts that words alone give. In the other
-- languages each of them makes a line a bad one.
use Rattle.std.specs.Prelude.{ℕ, ◌-◌, ◌^◌, Bool, true, false, ◌||◌, is_some, if◌then◌else◌, List, codes, Option, Some, None}
use Rattle.std.specs.Result.{result_err}
use Rattle.value_words.specs.Words.{priority_named, behaviour_named, policy_named, fence_named, scope_named, vote_named}
use Rattle.script_model.specs.Words.{is_word}
use Rattle.script_model.specs.Reasons.{unknown_word, word_count}
use Rattle.script_model.specs.Places.{number_from, kind_named}
use Rattle.line_places.specs.declared.expected.Language.{Language}
use Rattle.line_places.specs.declared.expected.Expected.{Expected}
use Rattle.line_places.specs.declared.expected.Expected.TheVariants.{Command, Step, Steps, Number, Id, Kind, Priority, Behaviour, MayBlock, Policy, Fence, Vote, Scope, Home, Nestable, End}
use Rattle.line_places.specs.Tables.{places_of, step_places}

-- the word is one of those that are expected
abbrev pub is_choice : Language → Expected → List ℕ → Bool
is_choice language Command word = is_some (places_of language word)
is_choice language Step word = is_some (step_places language word)
is_choice language Steps word = is_some (step_places language word)
is_choice language Priority word = is_some (priority_named word)
is_choice language Behaviour word = is_some (behaviour_named word)
is_choice language Policy word = is_some (policy_named word)
is_choice language Fence word = is_some (fence_named word)
is_choice language Vote word = is_some (vote_named word)
is_choice language Scope word = is_some (scope_named word)
is_choice language MayBlock word = is_word word (codes "mayblock")
is_choice language Home word = is_word word (codes "runner") || is_word word (codes "queue")
is_choice language Nestable word = is_word word (codes "nestable") || is_word word (codes "deferred")
is_choice language expected word = true

-- an unknown word, unless it is known
abbrev pub choice_fault : Bool → Option ℕ
choice_fault known = if known then None else Some unknown_word

-- why the word can't stand where this is expected, if it can't
abbrev pub fault_of : Language → Expected → List ℕ → Option ℕ
fault_of language (Number low high) word = result_err (number_from low high word)
fault_of language (Id thing) word = result_err (number_from 0 (2 ^ 32 - 1) word)
fault_of language Kind word = result_err (kind_named word)
fault_of language End word = Some word_count
fault_of language expected word = choice_fault (is_choice language expected word)

-- the line may not end where this is expected
abbrev pub is_required : Expected → Bool
is_required Steps = false
is_required MayBlock = false
is_required End = false
is_required expected = true

-- a word is expected at all: of a step, no `;` may stand there
abbrev pub takes_word : Expected → Bool
takes_word End = false
takes_word expected = true
