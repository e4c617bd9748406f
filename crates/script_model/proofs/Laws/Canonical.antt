-- Each action of the canonical text is read, behind those before it, as itself; and so the whole text is.
-- Cited by `scripts_that_are_read_are_valid`, `env_core`, `simulation`, `task_reply`, `task_script`.
use Rattle.std.proofs.Common.{◌≡◌, ℕ, ◌+◌, ◌≤◌, false, List, [], ◌∷◌, ◌++◌, length, take, map, refl, sym, subst, arith}
use Rattle.std.proofs.lemmas.Bool.{lt-ltb, le-ltb}
use Rattle.std.proofs.Math.Seq.{take-append_seam}
use Rattle.task_base.specs.Plan.{Plan}
use Rattle.task_base.specs.declared.script.Action.{Action}
use Rattle.task_base.specs.declared.script.Action.TheVariants.{Post, Main, Tick, Policy as PolicyAction, Reprio, Fence, Unfence, Vote}
use Rattle.task_base.specs.declared.script.Action.TheVariants.{Rank, Close, Pump, Flush, StartJob, Join, Cancel, Shutdown}
use Rattle.script_model.specs.Bound.{events_of_action}
use Rattle.script_model.specs.Laws.Postings.{posts_of_action, IsPostedOnce}
use Rattle.script_model.specs.Draft.{Draft, empty_draft, posted_in, is_any_posted, ticks_of, ticks_in, events_in, opens_scope, may_block_on}
use Rattle.task_base.specs.declared.limits.TheConstants.{MOST_TICKS, MOST_EVENTS}
use Rattle.script_model.specs.Lines.{post_line, main_line, tick_line, policy_line, reprio_line, fence_line, unfence_line, vote_line}
use Rattle.script_model.specs.Lines.{rank_line, close_line, pump_line, flush_line, start_job_line, join_line, cancel_line}
use Rattle.script_model.specs.Lines.{shutdown_line, queue_command_read, action_command_read, command_read}
use Rattle.script_model.specs.Grammar.{Reads}
use Rattle.script_model.specs.Canonical.{runner_words, queue_words, task_words, job_words, action_words, config_lines, numbered, canonical, canonical_lines, IsValid}
use Rattle.script_model.specs.Laws.Sound.{IsSound, IsActionSound, IsInOrder}
use Rattle.script_model.proofs.Laws.Parts.{Passed}
use Rattle.script_model.proofs.Laws.Sound.{room, reads_sound}
use Rattle.script_model.proofs.Laws.Words.{number_is, id_is, time_is, plain_id, plain_time, priority_is, priority_plain}
use Rattle.script_model.proofs.Laws.Words.{policy_is, policy_plain, fence_is, fence_plain, vote_is, vote_plain}
use Rattle.script_model.proofs.Laws.Postings.{posted_parts, posted_in_parts, posted_at, not_posted}
use Rattle.script_model.proofs.Laws.Lines.{IsLineRead, are_read-append, text_is_read, numbered_are_read, mapped_are_read, draft_at, all_at}
use Rattle.script_model.proofs.Laws.Lines.{sum_at, get_at, config_read, runner_read, queue_read}
use Rattle.script_model.proofs.Laws.TaskLines.{good_post, task_read, job_read}

-- a draft with all declarations of a script, and some of its actions
abbrev pub acted_at : Plan → List Action → Draft
acted_at s done = draft_at s s.runners s.queues s.tasks s.jobs done

action_room : (s : Plan) → IsSound s → (done : List Action) (action : Action) (rest : List Action) → done ++ action ∷ rest ≡ s.actions
    → Passed (room (acted_at s done) action)
action_room s sound done action rest e =
    let d = acted_at s done in
    let ticks = sum_at ticks_of done action rest s.actions e in
    let bound = sum_at events_of_action done action rest s.actions e in
    let few_ticks : ticks_in d + ticks_of action ≤ MOST_TICKS = omega (arith, ticks, sound.limits.few_ticks) in
    let few_events : events_in d + events_of_action action ≤ MOST_EVENTS = omega (arith, bound, sound.limits.few_events) in
    (le-ltb MOST_TICKS (ticks_in d + ticks_of action) few_ticks, (le-ltb MOST_EVENTS (events_in d + events_of_action action) few_events, tt))

action_fresh : (s : Plan) → IsPostedOnce s → (done : List Action) (action : Action) (rest : List Action) → done ++ action ∷ rest ≡ s.actions
    → is_any_posted (posted_in (acted_at s done)) (posts_of_action action) ≡ false
action_fresh s once done action rest e = not_posted (posted_in (acted_at s done)) (posts_of_action action) (λ t.
    let parts = posted_parts s t in
    let earlier = posted_in_parts (acted_at s done) t in
    let here = posted_at posts_of_action done action rest s.actions e t in
    omega (arith, parts, earlier, here, once t))

-- an action that is sound, may stand here and passes no limit is read
any_action_read : (s : Plan) → IsSound s → (done : List Action) (action : Action) → IsActionSound s action → IsInOrder done action
    → is_any_posted (posted_in (acted_at s done)) (posts_of_action action) ≡ false → Passed (room (acted_at s done) action)
    → IsLineRead (acted_at s done) (action_words action) (acted_at s (done ++ action ∷ []))
unfolding command_read action_command_read queue_command_read post_line main_line tick_line policy_line reprio_line fence_line unfence_line vote_line
    rank_line close_line pump_line flush_line start_job_line join_line cancel_line shutdown_line
any_action_read s sound done (Post task runner delay) made order fresh passed =
    let post = made.0 in
    let t : task ≤ 65536 = omega (arith, post.task_declared, sound.limits.few_tasks) in
    let r : runner ≤ 65536 = omega (arith, post.runner_declared, sound.limits.few_runners) in
    let good = good_post (opens_scope s.tasks task) (may_block_on s.runners runner) post.may_block in
    record {
      reads = rw (
        id_is task t,
        id_is runner r,
        time_is delay made.1,
        lt-ltb task (length s.tasks) post.task_declared,
        lt-ltb runner (length s.runners) post.runner_declared,
        fresh,
        good,
        passed.0,
        passed.1.0,
      ) refl;
      starts = refl;
      plain = rw (plain_id task t, plain_id runner r, plain_time delay made.1) refl;
    }
any_action_read s sound done (Main task queue delay) made order fresh passed =
    let post = made.0 in
    let t : task ≤ 65536 = omega (arith, post.task_declared, sound.limits.few_tasks) in
    let q : queue ≤ 65536 = omega (arith, post.queue_declared, sound.limits.few_queues) in
    record {
      reads = rw (
        id_is task t,
        id_is queue q,
        time_is delay made.1,
        lt-ltb task (length s.tasks) post.task_declared,
        lt-ltb queue (length s.queues) post.queue_declared,
        fresh,
        post.no_scope,
        passed.0,
        passed.1.0,
      ) refl;
      starts = refl;
      plain = rw (plain_id task t, plain_id queue q, plain_time delay made.1) refl;
    }
any_action_read s sound done (Tick n) made order fresh passed = record {
  reads = rw (number_is 1 65536 n made.0 made.1 (omega arith), passed.0, passed.1.0) refl;
  starts = refl;
  plain = rw (plain_id n made.1) refl;
}
any_action_read s sound done (PolicyAction policy) made order fresh passed = record {
  reads = rw (policy_is policy, passed.0, passed.1.0) refl;
  starts = refl;
  plain = rw (policy_plain policy) refl;
}
any_action_read s sound done (Reprio runner priority) made order fresh passed =
    let r : runner ≤ 65536 = omega (arith, made, sound.limits.few_runners) in
    record {
      reads = rw (id_is runner r, priority_is priority, lt-ltb runner (length s.runners) made, passed.0, passed.1.0) refl;
      starts = refl;
      plain = rw (plain_id runner r, priority_plain priority) refl;
    }
any_action_read s sound done (Fence queue place) made order fresh passed =
    let q : queue ≤ 65536 = omega (arith, made, sound.limits.few_queues) in
    record {
      reads = rw (id_is queue q, fence_is place, lt-ltb queue (length s.queues) made, passed.0, passed.1.0) refl;
      starts = refl;
      plain = rw (plain_id queue q, fence_plain place) refl;
    }
any_action_read s sound done (Unfence queue) made order fresh passed =
    let q : queue ≤ 65536 = omega (arith, made, sound.limits.few_queues) in
    record {
      reads = rw (id_is queue q, lt-ltb queue (length s.queues) made, passed.0, passed.1.0) refl;
      starts = refl;
      plain = rw (plain_id queue q) refl;
    }
any_action_read s sound done (Vote queue voter on) made order fresh passed =
    let q : queue ≤ 65536 = omega (arith, made.0, sound.limits.few_queues) in
    record {
      reads = rw (id_is queue q, number_is 0 255 voter (omega arith) made.1 (omega arith), vote_is on, made.2, passed.0, passed.1.0) refl;
      starts = refl;
      plain = rw (plain_id queue q, plain_id voter (omega (arith, made.1)), vote_plain on) refl;
    }
any_action_read s sound done (Rank queue class) made order fresh passed =
    let q : queue ≤ 65536 = omega (arith, made.0, sound.limits.few_queues) in
    record {
      reads = rw (id_is queue q, number_is 0 7 class (omega arith) made.1 (omega arith), lt-ltb queue (length s.queues) made.0, passed.0, passed.1.0) refl;
      starts = refl;
      plain = rw (plain_id queue q, plain_id class (omega (arith, made.1))) refl;
    }
any_action_read s sound done (Close queue) made order fresh passed =
    let q : queue ≤ 65536 = omega (arith, made, sound.limits.few_queues) in
    record {
      reads = rw (id_is queue q, lt-ltb queue (length s.queues) made, passed.0, passed.1.0) refl;
      starts = refl;
      plain = rw (plain_id queue q) refl;
    }
any_action_read s sound done (Pump n) made order fresh passed = record {
  reads = rw (number_is 1 16384 n made.0 made.1 (omega arith), passed.0, passed.1.0) refl;
  starts = refl;
  plain = rw (plain_id n (omega (arith, made.1))) refl;
}
any_action_read s sound done Flush made order fresh passed = record { reads = rw (passed.0, passed.1.0) refl; starts = refl; plain = refl }
any_action_read s sound done (StartJob job) made order fresh passed =
    let j : job ≤ 65536 = omega (arith, made, sound.limits.few_jobs) in
    record {
      reads = rw (id_is job j, lt-ltb job (length s.jobs) made, order, passed.0, passed.1.0) refl;
      starts = refl;
      plain = rw (plain_id job j) refl;
    }
any_action_read s sound done (Join job) made order fresh passed =
    let j : job ≤ 65536 = omega (arith, made, sound.limits.few_jobs) in
    record {
      reads = rw (id_is job j, lt-ltb job (length s.jobs) made, order, passed.0, passed.1.0) refl;
      starts = refl;
      plain = rw (plain_id job j) refl;
    }
any_action_read s sound done (Cancel job) made order fresh passed =
    let j : job ≤ 65536 = omega (arith, made, sound.limits.few_jobs) in
    record {
      reads = rw (id_is job j, lt-ltb job (length s.jobs) made, order, passed.0, passed.1.0) refl;
      starts = refl;
      plain = rw (plain_id job j) refl;
    }
any_action_read s sound done Shutdown made order fresh passed = record {
  reads = rw (order, passed.0, passed.1.0) refl;
  starts = refl;
  plain = refl;
}

action_read : (s : Plan) → IsSound s → (done : List Action) (action : Action) (rest : List Action) → done ++ action ∷ rest ≡ s.actions
    → IsLineRead (acted_at s done) (action_words action) (acted_at s (done ++ action ∷ []))
action_read s sound done action rest e =
    let before : take (length done) s.actions ≡ done = rw (← e) (take-append_seam done (action ∷ rest)) in
    any_action_read s sound done action (all_at (IsActionSound s) done action rest s.actions e sound.actions.each_sound)
    (subst (λ (earlier : List Action). IsInOrder earlier action) before (sound.actions.in_order (length done) action (get_at done action rest s.actions e)))
    (action_fresh s sound.once.posted_once done action rest e) (action_room s sound done action rest e)

-- ---- the script

-- the canonical text of a sound script is read as this script
pub sound_is_valid : (s : Plan) → IsSound s → IsValid s
sound_is_valid s sound =
    let d0 = draft_at s [] [] [] [] [] in
    let d1 = draft_at s s.runners [] [] [] [] in
    let d2 = draft_at s s.runners s.queues [] [] [] in
    let d3 = draft_at s s.runners s.queues s.tasks [] [] in
    let d4 = draft_at s s.runners s.queues s.tasks s.jobs [] in
    let d5 = draft_at s s.runners s.queues s.tasks s.jobs s.actions in
    let to_runners = config_lines s ++ numbered runner_words 0 s.runners in
    let to_queues = to_runners ++ numbered queue_words 0 s.queues in
    let to_tasks = to_queues ++ numbered task_words 0 s.tasks in
    let to_jobs = to_tasks ++ numbered job_words 0 s.jobs in
    let runners = numbered_are_read runner_words (λ done. draft_at s done [] [] [] []) s.runners (runner_read s sound) [] s.runners 0 refl refl in
    let queues = numbered_are_read queue_words (λ done. draft_at s s.runners done [] [] []) s.queues (queue_read s sound) [] s.queues 0 refl refl in
    let tasks = numbered_are_read task_words (λ done. draft_at s s.runners s.queues done [] []) s.tasks (task_read s sound) [] s.tasks 0 refl refl in
    let jobs = numbered_are_read job_words (λ done. draft_at s s.runners s.queues s.tasks done []) s.jobs (job_read s sound) [] s.jobs 0 refl refl in
    let actions = mapped_are_read action_words (λ done. acted_at s done) s.actions (action_read s sound) [] s.actions refl in
    subst (λ is_open. Reads (canonical s) (record s { is_open = is_open })) (sym sound.closed)
    (text_is_read (canonical_lines s) d5
    (are_read-append empty_draft to_jobs (map action_words s.actions) d4 d5
    (are_read-append empty_draft to_tasks (numbered job_words 0 s.jobs) d3 d4
    (are_read-append empty_draft to_queues (numbered task_words 0 s.tasks) d2 d3
    (are_read-append empty_draft to_runners (numbered queue_words 0 s.queues) d1 d2
    (are_read-append empty_draft (config_lines s) (numbered runner_words 0 s.runners) d0 d1 (config_read s sound) runners) queues) tasks) jobs) actions))

-- a script that any bytes give is valid
pub reads_valid : (bytes : List ℕ) (script : Plan) → Reads bytes script → IsValid script
reads_valid bytes script e = sound_is_valid script (reads_sound bytes script e)
