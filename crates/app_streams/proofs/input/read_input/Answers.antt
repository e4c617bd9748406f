use Rattle.std.proofs.Common.{arith}
use Rattle.app_streams.proofs.Taken.{gives_more}
use Rattle.app_streams.proofs.input.read_input.Goals as goal

pub returns-then-count-len-clause-large : goal.returns-then-count-len-clause-large
returns-then-count-len-clause-large g c =
    let more = gives_more _ _ _ c.pieces.bytes.items c.take.new.into c.in-Ok.count (omega (arith, c.in-Ok.ensures.within, c.take.auto.into))
    c.pieces.invariant.0 c.in-Ok.ensures.given in
    λ _. (more.0, more.1, omega (arith, more.2, c.pieces.bytes.ok.0), omega (arith, more.2, c.pieces.invariant.1, c.in-Ok.ensures.within, c.take.auto.into))

pub returns-in-Err-clause-few : goal.returns-in-Err-clause-few
returns-in-Err-clause-few g c =
    let more = gives_more _ _ _ c.pieces.bytes.items c.take.new.into c.in-Ok.count (omega (arith, c.in-Ok.ensures.within, c.take.auto.into))
    c.pieces.invariant.0 c.in-Ok.ensures.given in
    λ _. (more.0, more.1, omega (arith, more.2, c.pieces.bytes.ok.0))
