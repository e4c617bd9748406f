-- What an answer says, read back: the entry that was made, or why there is none, and whom to wake.
use Rattle.std.specs.Prelude.{ℕ, Bool, ◌==◌, if◌then◌else◌, Option, Some, None, Result, Ok, Err}
use Rattle.std.specs.Option.{option_map, option_or}
use Rattle.task_base.specs.declared.entry.JobReply.{JobReply}
use Rattle.task_base.specs.declared.entry.JobReply.TheVariants as replies
use Rattle.task_base.specs.declared.entry.Kind.{Kind}
use Rattle.task_base.specs.declared.entry.Kind.TheVariants as kinds
use Rattle.live_core.specs.declared.unmade.Unmade.{Unmade}
use Rattle.live_core.specs.declared.unmade.Unmade.TheVariants as unmade
use Rattle.live_roster.specs.declared.wake.Wake.{Wake}
use Rattle.live_roster.specs.declared.wake.Wake.TheVariants as wakes
use Rattle.live_request.specs.Named.{fence_of, flag_of, policy_of, priority_of, scope_of}
use Rattle.live_request.specs.declared.answer.Answer.{Answer}
use Rattle.live_request.specs.declared.codes.TheConstants as codes

-- the reply of a job, with its sum
abbrev pub reply_of : ℕ → ℕ → Option JobReply
reply_of code sum =
    if code == codes.REFUSED then Some replies.Refused
    else (if code == codes.FINISHED then Some (replies.Finished sum)
    else (if code == codes.JOB_CANCELLED then Some replies.Cancelled
    else (if code == codes.STOPPED then Some replies.Stopped
    else None)))

-- an entry of a task
abbrev pub task_entry : Answer → Option Kind
task_entry a =
    if a.kind == codes.DID_POST then option_map (λ ok. kinds.Post a.task a.place a.value ok) (flag_of a.ok)
    else (if a.kind == codes.DID_MAIN then option_map (λ ok. kinds.Main a.task a.place a.value ok) (flag_of a.ok)
    else (if a.kind == codes.DID_TAKE then Some (kinds.Take a.task a.place a.value)
    else (if a.kind == codes.DID_END then Some (kinds.End a.task a.value)
    else (if a.kind == codes.DID_ENTER then option_map (λ scope. kinds.Enter a.task scope) (scope_of a.word)
    else (if a.kind == codes.DID_LEAVE then Some (kinds.Leave a.task)
    else (if a.kind == codes.DID_MAIN_TAKE then Some (kinds.MainTake a.task a.place a.value)
    else (if a.kind == codes.DID_MAIN_END then Some (kinds.MainEnd a.task a.value)
    else None)))))))

-- an entry of a runner or a main queue
abbrev pub place_entry : Answer → Option Kind
place_entry a =
    if a.kind == codes.DID_REPRIO then option_map (λ priority. kinds.Reprio a.place priority) (priority_of a.word)
    else (if a.kind == codes.DID_FENCE then option_map (λ at. kinds.Fence a.place at) (fence_of a.word)
    else (if a.kind == codes.DID_UNFENCE then Some (kinds.Unfence a.place)
    else (if a.kind == codes.DID_VOTE then option_map (λ on. kinds.Vote a.place a.word on) (flag_of a.ok)
    else (if a.kind == codes.DID_RANK then Some (kinds.Rank a.place a.word)
    else (if a.kind == codes.DID_CLOSE then Some (kinds.Close a.place)
    else None)))))

-- the next item, where the seat goes on
abbrev pub next_of : ℕ → Bool → Option ℕ
next_of next goes_on = if goes_on then Some next else None

-- an entry of a job
abbrev pub job_entry : Answer → Option Kind
job_entry a =
    if a.kind == codes.DID_JOB_POST then option_map (λ ok. kinds.JobPost a.place ok) (flag_of a.ok)
    else (if a.kind == codes.DID_JOB_TAKE then Some (kinds.JobTake a.place a.id a.item)
    else (if a.kind == codes.DID_JOB_STEP
    then option_map (λ goes_on. kinds.JobStep a.place a.id a.item a.value (next_of a.next goes_on)) (flag_of a.ok)
    else (if a.kind == codes.DID_JOB_CANCEL then Some (kinds.JobCancel a.place)
    else (if a.kind == codes.DID_CANCELLED then Some (kinds.Cancelled a.place)
    else (if a.kind == codes.DID_JOINED then option_map (λ reply. kinds.Joined a.place reply) (reply_of a.word a.value)
    else None)))))

-- any other entry
abbrev pub other_entry : Answer → Option Kind
other_entry a =
    if a.kind == codes.DID_TICK then Some (kinds.Tick a.value)
    else (if a.kind == codes.DID_POLICY then option_map (λ policy. kinds.Policy policy) (policy_of a.word)
    else (if a.kind == codes.DID_MAIN_NONE then Some kinds.MainNone
    else (if a.kind == codes.DID_IDLE then Some kinds.Idle
    else (if a.kind == codes.DID_SHUTDOWN then Some kinds.Shutdown
    else (if a.kind == codes.DID_DONE then Some kinds.Done
    else None)))))

-- the entry of an answer, if it tells one
abbrev pub entry_of : Answer → Option Kind
entry_of a = option_or (option_or (option_or (task_entry a) (place_entry a)) (job_entry a)) (other_entry a)

-- why there is none, if it tells that
abbrev pub reason_of : Answer → Option Unmade
reason_of a =
    if a.status == codes.MISUSE then Some unmade.Misuse
    else (if a.status == codes.FULL then Some unmade.Full
    else (if a.status == codes.NOTHING then Some unmade.Nothing
    else (if a.status == codes.OVER then Some unmade.Over
    else (if a.status == codes.NOT_YET then option_map (λ ready. unmade.NotYet (record { running = a.count; ready = ready })) (flag_of a.ready)
    else (if a.status == codes.BLOCKED then Some (unmade.Blocked (record { count = a.count }))
    else None)))))

-- what a call made, if an answer tells it
abbrev pub made_of : Answer → Option (Result Kind Unmade)
made_of a = if a.status == codes.MADE then option_map (λ kind. Ok kind) (entry_of a) else option_map (λ why. Err why) (reason_of a)

-- whom to wake, if an answer tells it
abbrev pub wake_of : Answer → Option Wake
wake_of a =
    if a.wake == codes.NOBODY then Some wakes.Nobody
    else (if a.wake == codes.ONE then Some (wakes.One a.woken)
    else (if a.wake == codes.EVERYONE then Some wakes.Everyone
    else None))
