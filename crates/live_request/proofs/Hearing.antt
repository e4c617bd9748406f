-- What an answer tells is read back from it.
-- Cited by `laws.rt`.
use Rattle.std.proofs.Common.{◌≡◌, Bool, true, false, refl, ap, Some, None, Result, Ok, Err}
use Rattle.std.specs.Option.{option_map}
use Rattle.task_traits.specs.declared.traits.Priority.TheVariants.{BestEffort, UserVisible, UserBlocking}
use Rattle.task_base.specs.declared.entry.JobReply.TheVariants.{Refused, Finished, Cancelled, Stopped}
use Rattle.task_base.specs.declared.entry.Kind.{Kind}
use Rattle.task_base.specs.declared.entry.Kind.TheVariants as kinds
use Rattle.task_base.specs.declared.policy.Policy.TheVariants.{All, Foreground, Nothing}
use Rattle.task_base.specs.declared.script.FenceAt.TheVariants.{Now, Start}
use Rattle.task_base.specs.declared.step.Scope.TheVariants.{May, Will}
use Rattle.live_core.specs.declared.unmade.Unmade.{Unmade}
use Rattle.live_core.specs.declared.unmade.Unmade.TheVariants as unmade
use Rattle.live_roster.specs.declared.wake.Wake.{Wake}
use Rattle.live_roster.specs.declared.wake.Wake.TheVariants as wakes
use Rattle.live_request.specs.Heard.{entry_of, made_of, wake_of}
use Rattle.live_request.specs.Named.{code_of_flag, flag_of}
use Rattle.live_request.specs.Told.{entry_answer, made_answer, unmade_answer, with_wake}
use Rattle.live_request.specs.declared.answer.Answer.{Answer}

-- an entry
entry_heard : (kind : Kind) (wake : Wake) → entry_of (with_wake (entry_answer kind) wake) ≡ Some kind
entry_heard (kinds.Post task runner delay true) wake = refl
entry_heard (kinds.Post task runner delay false) wake = refl
entry_heard (kinds.Main task queue delay true) wake = refl
entry_heard (kinds.Main task queue delay false) wake = refl
entry_heard (kinds.Tick now) wake = refl
entry_heard (kinds.Take task runner found) wake = refl
entry_heard (kinds.End task left) wake = refl
entry_heard (kinds.Enter task May) wake = refl
entry_heard (kinds.Enter task Will) wake = refl
entry_heard (kinds.Leave task) wake = refl
entry_heard (kinds.Policy All) wake = refl
entry_heard (kinds.Policy Foreground) wake = refl
entry_heard (kinds.Policy Nothing) wake = refl
entry_heard (kinds.Reprio runner BestEffort) wake = refl
entry_heard (kinds.Reprio runner UserVisible) wake = refl
entry_heard (kinds.Reprio runner UserBlocking) wake = refl
entry_heard (kinds.Fence queue Now) wake = refl
entry_heard (kinds.Fence queue Start) wake = refl
entry_heard (kinds.Unfence queue) wake = refl
entry_heard (kinds.Vote queue voter true) wake = refl
entry_heard (kinds.Vote queue voter false) wake = refl
entry_heard (kinds.Rank queue class) wake = refl
entry_heard (kinds.Close queue) wake = refl
entry_heard (kinds.MainTake task queue found) wake = refl
entry_heard (kinds.MainEnd task left) wake = refl
entry_heard kinds.MainNone wake = refl
entry_heard (kinds.JobPost job true) wake = refl
entry_heard (kinds.JobPost job false) wake = refl
entry_heard (kinds.JobTake job id item) wake = refl
entry_heard (kinds.JobStep job id item value (Some next)) wake = refl
entry_heard (kinds.JobStep job id item value None) wake = refl
entry_heard (kinds.JobCancel job) wake = refl
entry_heard (kinds.Cancelled job) wake = refl
entry_heard (kinds.Joined job Refused) wake = refl
entry_heard (kinds.Joined job (Finished sum)) wake = refl
entry_heard (kinds.Joined job Cancelled) wake = refl
entry_heard (kinds.Joined job Stopped) wake = refl
entry_heard kinds.Idle wake = refl
entry_heard kinds.Shutdown wake = refl
entry_heard kinds.Done wake = refl

-- yes or no
flag_heard : (flag : Bool) → flag_of (code_of_flag flag) ≡ Some flag
flag_heard true = refl
flag_heard false = refl

-- why there is none
reason_heard : (why : Unmade) (wake : Wake) → made_of (with_wake (unmade_answer why) wake) ≡ Some (Err why)
reason_heard unmade.Misuse wake = refl
reason_heard unmade.Full wake = refl
reason_heard unmade.Nothing wake = refl
reason_heard unmade.Over wake = refl
reason_heard (unmade.NotYet not_yet) wake =
    ap (λ it. option_map (λ why. Err why) (option_map (λ ready. unmade.NotYet (record { running = not_yet.running; ready = ready })) it))
    (flag_heard not_yet.ready)
reason_heard (unmade.Blocked blocked) wake = refl

-- what a call made
pub made_heard : (made : Result Kind Unmade) (wake : Wake) → made_of (with_wake (made_answer made) wake) ≡ Some made
made_heard (Ok kind) wake = ap (option_map (λ it. Ok it)) (entry_heard kind wake)
made_heard (Err why) wake = reason_heard why wake

-- whom to wake
pub wake_heard : (answer : Answer) (wake : Wake) → wake_of (with_wake answer wake) ≡ Some wake
wake_heard answer wakes.Nobody = refl
wake_heard answer (wakes.One seat) = refl
wake_heard answer wakes.Everyone = refl
