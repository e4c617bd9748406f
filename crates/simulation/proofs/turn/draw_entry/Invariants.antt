use Rattle.simulation.specs.Draw.{left_of}
use Rattle.simulation.proofs.Draws.{Going}
use Rattle.simulation.proofs.turn.draw_entry.Given as goal

abbrev pub invariant-loop-seat : goal.invariant-loop-seat
invariant-loop-seat l = Going l.fn.env l.fn.draw l.reading l.env l.hands l.draw

abbrev pub decreases-loop-seat : goal.decreases-loop-seat
decreases-loop-seat l = left_of l.draw
