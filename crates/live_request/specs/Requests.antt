-- Which call a request makes.
use Rattle.std.specs.Prelude.{ℕ, ◌==◌, nat_le, if◌then◌else◌, Option, Some, None, option_and_then}
use Rattle.std.specs.Option.{option_map, option_or}
use Rattle.live_core.specs.declared.call.Call.{Call}
use Rattle.live_core.specs.declared.call.Call.TheVariants as calls
use Rattle.live_request.specs.Named.{fence_of, flag_of, policy_of, priority_of, scope_of}
use Rattle.live_request.specs.declared.codes.TheConstants as codes
use Rattle.live_request.specs.declared.request.Ask.{Ask}
use Rattle.live_request.specs.declared.request.Ask.TheVariants as asks
use Rattle.live_request.specs.declared.request.Request.{Request}

-- the number, if it is one of 8 bits
abbrev pub byte_of : ℕ → Option ℕ
byte_of number = if nat_le number 255 then Some number else None

-- the task that a post names, if it names one
abbrev pub named_by : Request → Option ℕ
named_by r = if r.task == codes.NO_TASK then None else Some r.task

-- a post, of the task that it names, or else of one that the environment hands out
abbrev pub post_call : Request → Option Call
post_call r =
    if r.call == codes.POST then Some (calls.Post r.seat (named_by r) r.place r.time)
    else (if r.call == codes.MAIN then Some (calls.Main r.seat (named_by r) r.place r.time)
    else None)

-- a call that says its seat, beside the posts
abbrev pub seat_call : Request → Option Call
seat_call r =
    if r.call == codes.TAKE then Some (calls.Take r.seat)
    else (if r.call == codes.END then Some (calls.End r.seat)
    else (if r.call == codes.ENTER then option_map (λ scope. calls.Enter r.seat scope) (scope_of r.word)
    else (if r.call == codes.LEAVE then Some (calls.Leave r.seat)
    else (if r.call == codes.JOB_STEP then Some (calls.JobStep r.seat)
    else None))))

-- a call of the driver that names a main queue
abbrev pub queue_call : Request → Option Call
queue_call r =
    if r.call == codes.FENCE then option_map (λ at. calls.Fence r.place at) (fence_of r.word)
    else (if r.call == codes.UNFENCE then Some (calls.Unfence r.place)
    else (if r.call == codes.VOTE then option_and_then (λ voter. option_map (λ on. calls.Vote r.place voter on) (flag_of r.on)) (byte_of r.word)
    else (if r.call == codes.RANK then option_map (λ class. calls.Rank r.place class) (byte_of r.word)
    else (if r.call == codes.CLOSE then Some (calls.Close r.place)
    else None))))

-- a call of the driver that names a job
abbrev pub job_call : Request → Option Call
job_call r =
    if r.call == codes.JOB_POST then Some (calls.JobPost r.place)
    else (if r.call == codes.JOB_TAKE then Some (calls.JobTake r.place)
    else (if r.call == codes.JOB_CANCEL then Some (calls.JobCancel r.place)
    else (if r.call == codes.CANCELLED then Some (calls.Cancelled r.place)
    else (if r.call == codes.JOINED then Some (calls.Joined r.place)
    else None))))

-- any other call of the driver
abbrev pub driver_call : Request → Option Call
driver_call r =
    if r.call == codes.TICK then Some (calls.Tick r.time)
    else (if r.call == codes.POLICY then option_map (λ policy. calls.Policy policy) (policy_of r.word)
    else (if r.call == codes.REPRIO then option_map (λ priority. calls.Reprio r.place priority) (priority_of r.word)
    else (if r.call == codes.MAIN_TAKE then Some calls.MainTake
    else (if r.call == codes.MAIN_END then Some calls.MainEnd
    else (if r.call == codes.IDLE then Some calls.Idle
    else (if r.call == codes.SHUTDOWN then Some calls.Shutdown
    else (if r.call == codes.DONE then Some calls.Done
    else None)))))))

-- the call that the request makes, if it makes one
abbrev pub call_of : Request → Option Call
call_of r = option_or (option_or (option_or (option_or (post_call r) (seat_call r)) (queue_call r)) (job_call r)) (driver_call r)

-- what the request asks of that call: that it is made, or that its seat rests for it
abbrev pub ask_of_call : Request → Call → Option Ask
ask_of_call r call = if r.rests == 0 then Some (asks.Make r.by call) else (if r.rests == 1 then Some (asks.Rest call) else None)

-- what the request asks, if it asks anything
abbrev pub ask_of : Request → Option Ask
ask_of r = option_and_then (λ call. ask_of_call r call) (call_of r)
