-- The definitions on requests and answers worked out by hand, in the numbers of `clients/c/taskenv.h`.
use Rattle.std.proofs.Common.{◌≡◌, true, refl, Some, None, Ok, Err}
use Rattle.task_base.specs.declared.entry.JobReply.TheVariants.{Finished}
use Rattle.task_base.specs.declared.entry.Kind.TheVariants as kinds
use Rattle.task_base.specs.declared.policy.Policy.TheVariants.{Nothing}
use Rattle.live_core.specs.declared.call.Call.TheVariants as calls
use Rattle.live_core.specs.declared.unmade.Unmade.TheVariants as unmade
use Rattle.live_roster.specs.declared.rest.Unrested.TheVariants.{HasCome}
use Rattle.live_roster.specs.declared.wake.Wake.TheVariants as wakes
use Rattle.live_request.specs.Opening.{opened_of}
use Rattle.live_request.specs.Requests.{ask_of}
use Rattle.live_request.specs.Told.{made_answer, rest_answer, with_wake}
use Rattle.live_request.specs.declared.opened.Unopened.TheVariants as unopened
use Rattle.live_request.specs.declared.request.Ask.TheVariants as asks

-- ---- what is asked

asks_post : ask_of (record { call = 1; rests = 0; by = 1; seat = 2; task = 4294967295; place = 3; word = 7; on = 7; time = 9 }) ≡ Some (asks.Make 1
    (calls.Post 2 None 3 9))
asks_post = refl

asks_named : ask_of (record { call = 2; rests = 0; by = 1; seat = 2; task = 0; place = 3; word = 7; on = 7; time = 9 }) ≡ Some (asks.Make 1
    (calls.Main 2 (Some 0) 3 9))
asks_named = refl

asks_take : ask_of (record { call = 4; rests = 0; by = 1; seat = 1; task = 7; place = 7; word = 7; on = 7; time = 7 }) ≡ Some (asks.Make 1 (calls.Take 1))
asks_take = refl

asks_policy : ask_of (record { call = 8; rests = 0; by = 2; seat = 7; task = 7; place = 7; word = 2; on = 7; time = 7 })
    ≡ Some (asks.Make 2 (calls.Policy Nothing))
asks_policy = refl

asks_vote : ask_of (record { call = 12; rests = 0; by = 0; seat = 7; task = 7; place = 1; word = 255; on = 1; time = 7 })
    ≡ Some (asks.Make 0 (calls.Vote 1 255 true))
asks_vote = refl

asks_rest : ask_of (record { call = 23; rests = 1; by = 7; seat = 7; task = 7; place = 7; word = 7; on = 7; time = 7 }) ≡ Some (asks.Rest calls.Idle)
asks_rest = refl

-- ---- what is no request

no_call : ask_of (record { call = 0; rests = 0; by = 0; seat = 0; task = 4294967295; place = 0; word = 0; on = 0; time = 0 }) ≡ None
no_call = refl

beyond_calls : ask_of (record { call = 26; rests = 0; by = 0; seat = 0; task = 4294967295; place = 0; word = 0; on = 0; time = 0 }) ≡ None
beyond_calls = refl

beyond_rests : ask_of (record { call = 23; rests = 2; by = 0; seat = 0; task = 4294967295; place = 0; word = 0; on = 0; time = 0 }) ≡ None
beyond_rests = refl

beyond_policies : ask_of (record { call = 8; rests = 0; by = 0; seat = 0; task = 4294967295; place = 0; word = 3; on = 0; time = 0 }) ≡ None
beyond_policies = refl

beyond_voters : ask_of (record { call = 12; rests = 0; by = 0; seat = 0; task = 4294967295; place = 0; word = 256; on = 1; time = 0 }) ≡ None
beyond_voters = refl

beyond_votes : ask_of (record { call = 12; rests = 0; by = 0; seat = 0; task = 4294967295; place = 0; word = 0; on = 2; time = 0 }) ≡ None
beyond_votes = refl

-- ---- what is told

-- a task was taken, with what it found, and seat 3 is to be woken
told_take : with_wake (made_answer (Ok (kinds.Take 5 1 40))) (wakes.One 3)
    ≡ record {
      status = 0;
      kind = 4;
      task = 5;
      place = 1;
      id = 0;
      item = 0;
      next = 0;
      word = 0;
      ok = 0;
      count = 0;
      ready = 0;
      wake = 1;
      woken = 3;
      value = 40;
    }
told_take = refl

-- an item ended, and the seat goes on with the next one
told_step : made_answer (Ok (kinds.JobStep 2 1 6 17 (Some 8)))
    ≡ record {
      status = 0;
      kind = 20;
      task = 4294967295;
      place = 2;
      id = 1;
      item = 6;
      next = 8;
      word = 0;
      ok = 1;
      count = 0;
      ready = 0;
      wake = 0;
      woken = 0;
      value = 17;
    }
told_step = refl

-- a job was joined, all of whose items are done
told_join : made_answer (Ok (kinds.Joined 2 (Finished 99)))
    ≡ record {
      status = 0;
      kind = 23;
      task = 4294967295;
      place = 2;
      id = 0;
      item = 0;
      next = 0;
      word = 1;
      ok = 0;
      count = 0;
      ready = 0;
      wake = 0;
      woken = 0;
      value = 99;
    }
told_join = refl

-- nothing has come, two seats run, and one more could
told_not_yet : made_answer (Err (unmade.NotYet (record { running = 2; ready = true })))
    ≡ record {
      status = 5;
      kind = 0;
      task = 4294967295;
      place = 0;
      id = 0;
      item = 0;
      next = 0;
      word = 0;
      ok = 0;
      count = 2;
      ready = 1;
      wake = 0;
      woken = 0;
      value = 0;
    }
told_not_yet = refl

-- a rest has come, and everyone is to be woken
told_rest : with_wake (rest_answer (Err HasCome)) wakes.Everyone
    ≡ record {
      status = 8;
      kind = 0;
      task = 4294967295;
      place = 0;
      id = 0;
      item = 0;
      next = 0;
      word = 0;
      ok = 0;
      count = 0;
      ready = 0;
      wake = 2;
      woken = 0;
      value = 0;
    }
told_rest = refl

-- the second line is bad, by the third reason
told_no_plan : opened_of (Err (unopened.NoPlan 2 3)) ≡ record { reason = 2; line = 2; number = 3 }
told_no_plan = refl

-- runner 4 is bound to the guest's seat
told_guest : opened_of (Err (unopened.GuestRunner 4)) ≡ record { reason = 4; line = 0; number = 4 }
told_guest = refl
