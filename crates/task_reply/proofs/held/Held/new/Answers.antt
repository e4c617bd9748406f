use Rattle.script_model.proofs.Laws.Canonical.{sound_is_valid}
use Rattle.task_reply.proofs.held.Held.new.Goals as goal

pub events_bound-events-requires : goal.events_bound-events-requires
events_bound-events-requires c = sound_is_valid c.args.script c.requires
