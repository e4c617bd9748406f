use Rattle.std.proofs.Common.{◌≡◌, ◌==◌, count_by, take}
use Rattle.run_log.proofs.read.feeds_in.Given as goal

abbrev pub invariant-loop-byte : goal.invariant-loop-byte
invariant-loop-byte l = l.feeds ≡ count_by (λ byte. byte == 10) (take l.byte-index l.piece)
