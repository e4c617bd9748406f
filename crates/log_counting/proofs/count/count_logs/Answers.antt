use Rattle.std.proofs.Common.{◌∙◌, subst, sym}
use Rattle.script_model.proofs.Laws.Canonical.{sound_is_valid}
use Rattle.situation_after.proofs.Comes.{the_start_is_reached}
use Rattle.situation_steps.specs.Reached.{IsReached}
use Rattle.log_counting.specs.Clocks.{tick_of}
use Rattle.log_counting.proofs.Layers.{at_least_logs, gave_up_answer, whole_answer, whole_logs_are}
use Rattle.log_counting.proofs.count.count_logs.Goals as goal

pub events_bound-requires : goal.events_bound-requires
events_bound-requires c = sound_is_valid c.args.script.now c.requires.sound

pub count_paths-requires-clause-reached : goal.count_paths-requires-clause-reached
count_paths-requires-clause-reached c =
    subst (IsReached c.args.script.now) (sym (c.in_ok-first.ensures ∙ c.in_ok-start.ensures))
    (the_start_is_reached c.args.script.now c.requires.sound c.requires.pool)

pub returns-in-All : goal.returns-in-All
returns-in-All c =
    let whole = whole_answer c.args.script.now (tick_of c.args.clock) c.in_ok-first.first c.from-steps.result c.args.most c.in-All.number
    (c.in_ok-first.ensures ∙ c.in_ok-start.ensures) (c.from-steps.ensures ∙ c.events_bound.ensures) (rw c.in-All.is at c.in_ok-number.ensures) in
    record { answer = whole; logs = whole_logs_are c.args.script.now (tick_of c.args.clock) c.in-All.number c.requires.sound c.requires.pool whole.0 }

pub returns-in-TooMany : goal.returns-in-TooMany
returns-in-TooMany c =
    let first = gave_up_answer c.args.script.now (tick_of c.args.clock) c.in_ok-first.first c.from-steps.result c.args.most c.in-TooMany.steps
    c.in-TooMany.at_least (c.in_ok-first.ensures ∙ c.in_ok-start.ensures) (c.from-steps.ensures ∙ c.events_bound.ensures)
    (rw c.in-TooMany.is at c.in_ok-number.ensures) in
    record {
      answer = first;
      logs = at_least_logs c.args.script.now (tick_of c.args.clock) c.in-TooMany.steps c.in-TooMany.at_least c.requires.sound c.requires.pool first.0 first.3;
    }
