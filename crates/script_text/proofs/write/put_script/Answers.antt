use Rattle.std.proofs.Common.{ap, ◌∙◌, arith}
use Rattle.std.proofs.lemmas.Result.{err_from_is_err_and, MatchResult-weaker}
use Rattle.task_base.specs.Plan.{Plan}
use Rattle.script_text.specs.Written.{texts_from, runner_text, queue_text, task_text, job_text, action_text}
use Rattle.script_text.proofs.Texts.{script_parts, canonical_pieces}
use Rattle.script_text.proofs.Puts.{nothing_put, put_part, cut_part}
use Rattle.script_text.proofs.write.put_script.Goals as goal

pub returns-in_err-put_piece : goal.returns-in_err-put_piece
returns-in_err-put_piece g c =
    let failed = err_from_is_err_and c.from_residual.result c.from_residual.ensures.1 in
    let script = c.args.script.now in
    rw failed.1 (cut_part _ (script_parts script) 0 _ (canonical_pieces script) c.config_lines.ensures (omega arith) (nothing_put _ _)
    c.in_err-put_piece.ensures)

pub returns-in_err-put_each : goal.returns-in_err-put_each
returns-in_err-put_each g c =
    let failed = err_from_is_err_and c.from_residual-in_err-put_each.result c.from_residual-in_err-put_each.ensures.1 in
    let script = c.args.script.now in
    let parts = script_parts script in
    let config = put_part parts 0 _ c.config_lines.ensures (omega arith) (nothing_put _ _) c.in_ok-put_piece.ensures in
    let runners = c.as_slice.ensures ∙ ap (λ (s : Plan). s.runners) c.script.view_is in
    rw failed.1 (cut_part _ parts 1 _ (canonical_pieces script) (ap (texts_from runner_text 0) runners) (omega arith) config c.in_err-put_each.ensures)

pub returns-in_err-put_each-2 : goal.returns-in_err-put_each-2
returns-in_err-put_each-2 g c =
    let failed = err_from_is_err_and c.from_residual-in_err-put_each-2.result c.from_residual-in_err-put_each-2.ensures.1 in
    let script = c.args.script.now in
    let parts = script_parts script in
    let config = put_part parts 0 _ c.config_lines.ensures (omega arith) (nothing_put _ _) c.in_ok-put_piece.ensures in
    let runners = c.as_slice.ensures ∙ ap (λ (s : Plan). s.runners) c.script.view_is in
    let runners_put = put_part parts 1 _ (ap (texts_from runner_text 0) runners) (omega arith) config c.in_ok-put_each.ensures in
    let queues = c.as_slice-2.ensures ∙ ap (λ (s : Plan). s.queues) c.script.view_is in
    rw failed.1 (cut_part _ parts 2 _ (canonical_pieces script) (ap (texts_from queue_text 0) queues) (omega arith) runners_put c.in_err-put_each-2.ensures)

pub returns-in_err-put_each-3 : goal.returns-in_err-put_each-3
returns-in_err-put_each-3 g c =
    let failed = err_from_is_err_and c.from_residual-in_err-put_each-3.result c.from_residual-in_err-put_each-3.ensures.1 in
    let script = c.args.script.now in
    let parts = script_parts script in
    let config = put_part parts 0 _ c.config_lines.ensures (omega arith) (nothing_put _ _) c.in_ok-put_piece.ensures in
    let runners = c.as_slice.ensures ∙ ap (λ (s : Plan). s.runners) c.script.view_is in
    let runners_put = put_part parts 1 _ (ap (texts_from runner_text 0) runners) (omega arith) config c.in_ok-put_each.ensures in
    let queues = c.as_slice-2.ensures ∙ ap (λ (s : Plan). s.queues) c.script.view_is in
    let queues_put = put_part parts 2 _ (ap (texts_from queue_text 0) queues) (omega arith) runners_put c.in_ok-put_each-2.ensures in
    let tasks = c.as_slice-3.ensures ∙ ap (λ (s : Plan). s.tasks) c.script.view_is in
    rw failed.1 (cut_part _ parts 3 _ (canonical_pieces script) (ap (texts_from task_text 0) tasks) (omega arith) queues_put c.in_err-put_each-3.ensures)

pub returns-in_err-put_each-4 : goal.returns-in_err-put_each-4
returns-in_err-put_each-4 g c =
    let failed = err_from_is_err_and c.from_residual-in_err-put_each-4.result c.from_residual-in_err-put_each-4.ensures.1 in
    let script = c.args.script.now in
    let parts = script_parts script in
    let config = put_part parts 0 _ c.config_lines.ensures (omega arith) (nothing_put _ _) c.in_ok-put_piece.ensures in
    let runners = c.as_slice.ensures ∙ ap (λ (s : Plan). s.runners) c.script.view_is in
    let runners_put = put_part parts 1 _ (ap (texts_from runner_text 0) runners) (omega arith) config c.in_ok-put_each.ensures in
    let queues = c.as_slice-2.ensures ∙ ap (λ (s : Plan). s.queues) c.script.view_is in
    let queues_put = put_part parts 2 _ (ap (texts_from queue_text 0) queues) (omega arith) runners_put c.in_ok-put_each-2.ensures in
    let tasks = c.as_slice-3.ensures ∙ ap (λ (s : Plan). s.tasks) c.script.view_is in
    let tasks_put = put_part parts 3 _ (ap (texts_from task_text 0) tasks) (omega arith) queues_put c.in_ok-put_each-3.ensures in
    let jobs = c.as_slice-4.ensures ∙ ap (λ (s : Plan). s.jobs) c.script.view_is in
    rw failed.1 (cut_part _ parts 4 _ (canonical_pieces script) (ap (texts_from job_text 0) jobs) (omega arith) tasks_put c.in_err-put_each-4.ensures)

pub returns : goal.returns
returns g c =
    let script = c.args.script.now in
    let parts = script_parts script in
    let config = put_part parts 0 _ c.config_lines.ensures (omega arith) (nothing_put _ _) c.in_ok-put_piece.ensures in
    let runners = c.as_slice.ensures ∙ ap (λ (s : Plan). s.runners) c.script.view_is in
    let runners_put = put_part parts 1 _ (ap (texts_from runner_text 0) runners) (omega arith) config c.in_ok-put_each.ensures in
    let queues = c.as_slice-2.ensures ∙ ap (λ (s : Plan). s.queues) c.script.view_is in
    let queues_put = put_part parts 2 _ (ap (texts_from queue_text 0) queues) (omega arith) runners_put c.in_ok-put_each-2.ensures in
    let tasks = c.as_slice-3.ensures ∙ ap (λ (s : Plan). s.tasks) c.script.view_is in
    let tasks_put = put_part parts 3 _ (ap (texts_from task_text 0) tasks) (omega arith) queues_put c.in_ok-put_each-3.ensures in
    let jobs = c.as_slice-4.ensures ∙ ap (λ (s : Plan). s.jobs) c.script.view_is in
    let jobs_put = put_part parts 4 _ (ap (texts_from job_text 0) jobs) (omega arith) tasks_put c.in_ok-put_each-4.ensures in
    let actions = c.as_slice-5.ensures ∙ ap (λ (s : Plan). s.actions) c.script.view_is in
    let made = canonical_pieces script in
    let here = ap (texts_from action_text 0) actions in
    MatchResult-weaker c.put_each-5.result c.put_each-5.ensures (λ _ put. rw made (put_part parts 5 _ here (omega arith) jobs_put put))
    (λ _ cut. cut_part _ parts 5 _ made here (omega arith) jobs_put cut)
