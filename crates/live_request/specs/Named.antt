-- What the numbers of a request name, and the numbers that name it in an answer.
use Rattle.std.specs.Prelude.{ℕ, Bool, true, false, if◌then◌else◌, ◌==◌, Option, Some, None}
use Rattle.task_traits.specs.declared.traits.Priority.{Priority}
use Rattle.task_traits.specs.declared.traits.Priority.TheVariants.{BestEffort, UserVisible, UserBlocking}
use Rattle.task_base.specs.declared.entry.JobReply.{JobReply}
use Rattle.task_base.specs.declared.entry.JobReply.TheVariants.{Refused, Finished, Cancelled, Stopped}
use Rattle.task_base.specs.declared.policy.Policy.{Policy}
use Rattle.task_base.specs.declared.policy.Policy.TheVariants.{All, Foreground, Nothing}
use Rattle.task_base.specs.declared.script.FenceAt.{FenceAt}
use Rattle.task_base.specs.declared.script.FenceAt.TheVariants.{Now, Start}
use Rattle.task_base.specs.declared.step.Scope.{Scope}
use Rattle.task_base.specs.declared.step.Scope.TheVariants.{May, Will}
use Rattle.live_request.specs.declared.codes.TheConstants as codes

-- ---- what a number names

-- the scope
abbrev pub scope_of : ℕ → Option Scope
scope_of code = if code == codes.MAY_BLOCK then Some May else (if code == codes.WILL_BLOCK then Some Will else None)

-- the policy
abbrev pub policy_of : ℕ → Option Policy
policy_of code =
    if code == codes.ALL then Some All else (if code == codes.FOREGROUND then Some Foreground else (if code == codes.NO_WORK then Some Nothing else None))

-- the priority
abbrev pub priority_of : ℕ → Option Priority
priority_of code =
    if code == codes.BEST_EFFORT then Some BestEffort
    else (if code == codes.USER_VISIBLE then Some UserVisible else (if code == codes.USER_BLOCKING then Some UserBlocking else None))

-- the fence
abbrev pub fence_of : ℕ → Option FenceAt
fence_of code = if code == codes.NOW then Some Now else (if code == codes.START then Some Start else None)

-- yes or no
abbrev pub flag_of : ℕ → Option Bool
flag_of code = if code == 0 then Some false else (if code == 1 then Some true else None)

-- ---- the number of each

-- of a scope
abbrev pub code_of_scope : Scope → ℕ
code_of_scope May = codes.MAY_BLOCK
code_of_scope Will = codes.WILL_BLOCK

-- of a policy
abbrev pub code_of_policy : Policy → ℕ
code_of_policy All = codes.ALL
code_of_policy Foreground = codes.FOREGROUND
code_of_policy Nothing = codes.NO_WORK

-- of a priority
abbrev pub code_of_priority : Priority → ℕ
code_of_priority BestEffort = codes.BEST_EFFORT
code_of_priority UserVisible = codes.USER_VISIBLE
code_of_priority UserBlocking = codes.USER_BLOCKING

-- of a fence
abbrev pub code_of_fence : FenceAt → ℕ
code_of_fence Now = codes.NOW
code_of_fence Start = codes.START

-- of a job's reply
abbrev pub code_of_reply : JobReply → ℕ
code_of_reply Refused = codes.REFUSED
code_of_reply (Finished sum) = codes.FINISHED
code_of_reply Cancelled = codes.JOB_CANCELLED
code_of_reply Stopped = codes.STOPPED

-- of yes or no
abbrev pub code_of_flag : Bool → ℕ
code_of_flag flag = if flag then 1 else 0
