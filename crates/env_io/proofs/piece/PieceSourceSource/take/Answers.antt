use Rattle.std.proofs.Common.{◌≤◌, length, arith, length-take, ℕ}
use Rattle.env_io.proofs.Bytes.{rest_of_slice}
use Rattle.env_io.proofs.piece.PieceSourceSource.take.Goals as goal

pub returns-clause-bytes : goal.returns-clause-bytes
returns-clause-bytes c =
    let bytes = rw c.take.ensures.count at c.take.ensures.bytes in
    let within : c.min-most.result ≤ length c.args.into.now = omega arith in
    rw (c.take.ensures.count, ← c.self.view_is, bytes) (rest_of_slice _ c.args.into.now _ _ (omega (arith, length-take {A = ℕ})) within)
