use Rattle.std.proofs.Common.{◌≡◌, Bool, length, sym, ap, ◌∙◌}
use Rattle.std.specs.List.{list_any, range_with_len}
use Rattle.std.specs.Prelude.{◌||◌}
use Rattle.list_laws.specs.Lists.{holds_of}
use Rattle.task_base.specs.Plan.{Plan}
use Rattle.task_base.specs.Runners.{sequence_count}
use Rattle.task_traits.specs.declared.traits.Priority.{Priority}
use Rattle.situation.specs.Situation.{Situation}
use Rattle.log_count.specs.Sources.{job_waits_in, sequence_waits_in, waiting_in}
use Rattle.situation_steps.proofs.Best.{any_of_found}
use Rattle.situation_steps.specs.Sources.{is_let, let_job, let_sequence, outranks_in}
use Rattle.situation_steps.proofs.state.Situation.is_outranked.Goals as goal

abbrev by_job : Plan → Situation → Priority → Bool
by_job script s priority = list_any (λ j. holds_of (outranks_in script priority) (let_job script s j)) (range_with_len 0 (length script.jobs))

-- what waits outranks, where a sequence or a job does
either : (script : Plan) (s : Situation) (priority : Priority) → list_any (outranks_in script priority) (waiting_in script s)
    ≡ (list_any (λ q. holds_of (outranks_in script priority) (let_sequence script s q)) (range_with_len 0 (sequence_count script)) || by_job script s priority)
unfolding waiting_in
either script s priority = any_of_found (outranks_in script priority) (is_let s) (sequence_waits_in script s) (job_waits_in script s)
    (range_with_len 0 (sequence_count script)) (range_with_len 0 (length script.jobs))

pub returns-then-by_sequence : goal.returns-then-by_sequence
returns-then-by_sequence c = c.if-by_sequence.true ∙ sym (either c.args.script.now c.args.self.now c.args.priority
    ∙ ap (λ (b : Bool). b || by_job c.args.script.now c.args.self.now c.args.priority)
    (sym c.is_outranked_by_sequence-by_sequence.ensures ∙ c.if-by_sequence.true))

pub returns-else-by_sequence : goal.returns-else-by_sequence
returns-else-by_sequence c = c.is_outranked_by_job.ensures ∙ sym (either c.args.script.now c.args.self.now c.args.priority
    ∙ ap (λ (b : Bool). b || by_job c.args.script.now c.args.self.now c.args.priority)
    (sym c.is_outranked_by_sequence-by_sequence.ensures ∙ c.if-by_sequence.false))
