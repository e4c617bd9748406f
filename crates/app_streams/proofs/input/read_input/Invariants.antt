use Rattle.std.proofs.Common.{◌≡◌, ◌≤◌, ◌+◌, ◌-◌, vec_len}
use Rattle.task_base.specs.declared.limits.TheConstants.{MOST_BYTES}
use Rattle.env_io.specs.Bytes.{Gives}
use Rattle.app_streams.proofs.input.read_input.Given as goal

abbrev pub invariant-pieces : goal.invariant-pieces
invariant-pieces g l =
    Gives (g.S.Source.left l.fn.source) l.bytes.items (g.S.Source.left l.source)
    × vec_len l.bytes ≤ MOST_BYTES
    × g.S.Source.faults l.source ≡ g.S.Source.faults l.fn.source

abbrev pub decreases-pieces : goal.decreases-pieces
decreases-pieces g l = MOST_BYTES + 1 - vec_len l.bytes
