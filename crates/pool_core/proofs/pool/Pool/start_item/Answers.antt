use Rattle.pool_core.specs.JobCalls.{CanEnter}
use Rattle.pool_laws.proofs.Jobs.Numbers.{free_id_is_first}
use Rattle.std.proofs.Common.{refl}
use Rattle.pool_core.proofs.pool.Pool.start_item.Goals as goal

pub unwrap-id-requires : goal.unwrap-id-requires
unwrap-id-requires c =
    let chosen = c.requires.2 in
    let can : CanEnter c.requires.0 c.requires.1 c.args.self.now c.args.seat c.args.job = record {
      knows = record { stands = chosen.can.stands; declared = chosen.declared };
      known = chosen.can.known;
      holds_nothing = chosen.can.holds_nothing;
      free = λ worker. chosen.can.free;
    } in
    rw (
      c.enter_job.ensures.answer c.requires.0 c.requires.1 can,
      chosen.enters,
      (free_id_is_first c.requires.0 c.requires.1 c.args.job).1,
    ) refl
