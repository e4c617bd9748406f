-- The words that priorities, behaviours, policies, fences, scopes, votes, replies and kinds of runners are written as, and read by.
use Rattle.std.specs.Prelude.{ℕ, Bool, true, false, if◌then◌else◌, List, [], ◌∷◌, ◌++◌, codes, decimal, find, Option}
use Rattle.std.specs.Str.{bytes_eq}
use Rattle.task_traits.specs.declared.traits.Priority.{Priority}
use Rattle.task_traits.specs.declared.traits.Priority.TheVariants.{BestEffort, UserVisible, UserBlocking}
use Rattle.task_traits.specs.declared.traits.Behaviour.{Behaviour}
use Rattle.task_traits.specs.declared.traits.Behaviour.TheVariants.{ContinueOnShutdown, SkipOnShutdown, BlockShutdown}
use Rattle.task_base.specs.declared.policy.Policy.{Policy}
use Rattle.task_base.specs.declared.policy.Policy.TheVariants.{All, Foreground, Nothing}
use Rattle.task_base.specs.declared.script.FenceAt.{FenceAt}
use Rattle.task_base.specs.declared.script.FenceAt.TheVariants.{Now, Start}
use Rattle.task_base.specs.declared.script.RunnerKind.{RunnerKind}
use Rattle.task_base.specs.declared.script.RunnerKind.TheVariants.{Parallel, Sequenced, Single}
use Rattle.task_base.specs.declared.step.Scope.{Scope}
use Rattle.task_base.specs.declared.step.Scope.TheVariants.{May, Will}

-- ---- a word for each value (this project's own, all of them)

-- the word of a priority
abbrev pub priority_word : Priority → List ℕ
priority_word BestEffort = codes "best_effort"
priority_word UserVisible = codes "user_visible"
priority_word UserBlocking = codes "user_blocking"

-- the word of a behaviour at shutdown
abbrev pub behaviour_word : Behaviour → List ℕ
behaviour_word ContinueOnShutdown = codes "continue"
behaviour_word SkipOnShutdown = codes "skip"
behaviour_word BlockShutdown = codes "block"

-- the word of a policy
abbrev pub policy_word : Policy → List ℕ
policy_word All = codes "all"
policy_word Foreground = codes "foreground"
policy_word Nothing = codes "none"

-- the word of where a fence is set
abbrev pub fence_word : FenceAt → List ℕ
fence_word Now = codes "now"
fence_word Start = codes "start"

-- the word of a blocking scope
abbrev pub scope_word : Scope → List ℕ
scope_word May = codes "may"
scope_word Will = codes "will"

-- the word of a vote
abbrev pub vote_word : Bool → List ℕ
vote_word on = if on then codes "on" else codes "off"

-- the word of a post's reply
abbrev pub reply_word : Bool → List ℕ
reply_word ok = if ok then codes "ok" else codes "no"

-- the word of a runner's kind
abbrev pub kind_word : RunnerKind → List ℕ
kind_word Parallel = codes "parallel"
kind_word Sequenced = codes "sequenced"
kind_word (Single seat) = codes "single:" ++ decimal seat

-- ---- the way back

-- the first of these values whose word it is
abbrev pub named : {A : Type 0} → (A → List ℕ) → List A → List ℕ → Option A
named word_of values word = find (λ value. bytes_eq word (word_of value)) values

-- the priority that a word names
abbrev pub priority_named : List ℕ → Option Priority
priority_named = named priority_word (BestEffort ∷ UserVisible ∷ UserBlocking ∷ [])

-- the behaviour at shutdown that a word names
abbrev pub behaviour_named : List ℕ → Option Behaviour
behaviour_named = named behaviour_word (ContinueOnShutdown ∷ SkipOnShutdown ∷ BlockShutdown ∷ [])

-- the policy that a word names
abbrev pub policy_named : List ℕ → Option Policy
policy_named = named policy_word (All ∷ Foreground ∷ Nothing ∷ [])

-- where a word sets a fence
abbrev pub fence_named : List ℕ → Option FenceAt
fence_named = named fence_word (Now ∷ Start ∷ [])

-- the blocking scope that a word names
abbrev pub scope_named : List ℕ → Option Scope
scope_named = named scope_word (May ∷ Will ∷ [])

-- the vote that a word names
abbrev pub vote_named : List ℕ → Option Bool
vote_named = named vote_word (true ∷ false ∷ [])

-- the reply of a post that a word names
abbrev pub reply_named : List ℕ → Option Bool
reply_named = named reply_word (true ∷ false ∷ [])
