use Rattle.env_core.proofs.Driver.{driver_at_start}
use Rattle.hist_model.proofs.Laws.Legal.{nothing_is_legal}
use Rattle.script_model.proofs.Laws.Canonical.{sound_is_valid}
use Rattle.std.proofs.Common.{ap, arith, length, ◌∙◌}
use Rattle.env_core.proofs.ledger.Ledger.open.Goals as goal

pub events_bound-requires : goal.events_bound-requires
events_bound-requires c = sound_is_valid c.args.script c.requires

pub invariant_of-result : goal.invariant_of-result
invariant_of-result c =
    let empty = c.from_vec.ensures.items ∙ c.in_ok-log.ensures.items in
    record {
      run = rw empty (record { plan = c.requires; legal = nothing_is_legal c.args.script; driver = driver_at_start c.args.script c.requires });
      room = omega (arith, c.events_bound.ensures, c.from_vec.ensures.spare, c.in_ok-log.ensures.exact, c.in_ok-log.ensures.len, ap length empty);
    }
