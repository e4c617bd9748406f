use Rattle.std.proofs.Common.{◌≡◌, ℕ, Bool, ◌++◌, List, Option, append-nil, arith, ap, sym, ◌∙◌, filter, length}
use Rattle.std.specs.List.{filter_map, range_with_len}
use Rattle.list_laws.specs.Lists.{keep, least}
use Rattle.task_base.specs.Runners.{sequence_count}
use Rattle.task_model.specs.Sources.{Candidate, goes_before}
use Rattle.log_count.specs.Sources.{best_in, job_waits_in, sequence_waits_in, waiting_in}
use Rattle.situation_steps.specs.Sources.{better_of, is_let, is_takeable_in}
use Rattle.situation_steps.proofs.Best.{best_more}
use Rattle.situation_steps.proofs.state.Situation.best.Goals as goal

pub loop-job-init : goal.loop-job-init
loop-job-init c =
    let script = c.args.script.now in
    let s = c.args.self.now in
    let p : Candidate → Bool = is_takeable_in script s c.args.seat in
    c.best_sequence-best.ensures
    ∙ ap (λ (found : List Candidate). least goes_before (filter p (filter (is_let s) found)))
    (sym (append-nil (filter_map (sequence_waits_in script s) (range_with_len 0 (sequence_count script)))))

pub loop-job-preserved : goal.loop-job-preserved
loop-job-preserved c =
    let script = c.args.script.now in
    let s = c.args.self.now in
    let p : Candidate → Bool = is_takeable_in script s c.args.seat in
    c.better_of-best.ensures
    ∙ ap (λ (o : Option Candidate). better_of goes_before c.loop-job.best o)
    (c.takeable.ensures ∙ ap (λ (o : Option Candidate). keep p o) c.let_job-found.ensures)
    ∙ best_more goes_before p (is_let s) (filter_map (sequence_waits_in script s) (range_with_len 0 (sequence_count script))) (job_waits_in script s)
    c.loop-job.job c.loop-job.best c.loop-job.invariant

pub returns : goal.returns
unfolding best_in waiting_in
returns c =
    let script = c.args.script.now in
    let s = c.args.self.now in
    let all : c.loop-job.job ≡ length script.jobs = omega arith in
    c.loop-job.invariant ∙ ap (λ (n : ℕ). least goes_before (filter (is_takeable_in script s c.args.seat) (filter (is_let s)
    (filter_map (sequence_waits_in script s) (range_with_len 0 (sequence_count script)) ++ filter_map (job_waits_in script s) (range_with_len 0 n))))) all
