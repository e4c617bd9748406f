-- The request for a call asks it.
-- Cited by `laws.rt`.
use Rattle.std.proofs.Common.{◌≡◌, ℕ, true, false, refl, Some, None}
use Rattle.std.proofs.lemmas.Bool.{not-true}
use Rattle.task_traits.specs.declared.traits.Priority.TheVariants.{BestEffort, UserVisible, UserBlocking}
use Rattle.task_base.specs.declared.policy.Policy.TheVariants.{All, Foreground, Nothing}
use Rattle.task_base.specs.declared.script.FenceAt.TheVariants.{Now, Start}
use Rattle.task_base.specs.declared.step.Scope.TheVariants.{May, Will}
use Rattle.live_core.specs.declared.call.Call.{Call}
use Rattle.live_core.specs.declared.call.Call.TheVariants as calls
use Rattle.live_request.specs.Asking.{is_within, request_for}
use Rattle.live_request.specs.Requests.{call_of}

-- its call
pub call_asked : (by_seat : ℕ) (call : Call) → is_within call ≡ true → call_of (request_for by_seat call) ≡ Some call
call_asked by_seat (calls.Post seat None runner delay) within = refl
call_asked by_seat (calls.Post seat (Some task) runner delay) within = rw (not-true _ within) refl
call_asked by_seat (calls.Main seat None queue delay) within = refl
call_asked by_seat (calls.Main seat (Some task) queue delay) within = rw (not-true _ within) refl
call_asked by_seat (calls.Tick reading) within = refl
call_asked by_seat (calls.Take seat) within = refl
call_asked by_seat (calls.End seat) within = refl
call_asked by_seat (calls.Enter seat May) within = refl
call_asked by_seat (calls.Enter seat Will) within = refl
call_asked by_seat (calls.Leave seat) within = refl
call_asked by_seat (calls.Policy All) within = refl
call_asked by_seat (calls.Policy Foreground) within = refl
call_asked by_seat (calls.Policy Nothing) within = refl
call_asked by_seat (calls.Reprio runner BestEffort) within = refl
call_asked by_seat (calls.Reprio runner UserVisible) within = refl
call_asked by_seat (calls.Reprio runner UserBlocking) within = refl
call_asked by_seat (calls.Fence queue Now) within = refl
call_asked by_seat (calls.Fence queue Start) within = refl
call_asked by_seat (calls.Unfence queue) within = refl
call_asked by_seat (calls.Vote queue voter true) within = rw within refl
call_asked by_seat (calls.Vote queue voter false) within = rw within refl
call_asked by_seat (calls.Rank queue class) within = rw within refl
call_asked by_seat (calls.Close queue) within = refl
call_asked by_seat calls.MainTake within = refl
call_asked by_seat calls.MainEnd within = refl
call_asked by_seat (calls.JobPost job) within = refl
call_asked by_seat (calls.JobTake job) within = refl
call_asked by_seat (calls.JobStep seat) within = refl
call_asked by_seat (calls.JobCancel job) within = refl
call_asked by_seat (calls.Cancelled job) within = refl
call_asked by_seat (calls.Joined job) within = refl
call_asked by_seat calls.Idle within = refl
call_asked by_seat calls.Shutdown within = refl
call_asked by_seat calls.Done within = refl
