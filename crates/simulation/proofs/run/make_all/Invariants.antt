use Rattle.simulation.proofs.Made.{Making}
use Rattle.simulation.proofs.run.make_all.Given as goal

abbrev pub invariant-loop : goal.invariant-loop
invariant-loop l = Making l.script l.fn.step l.fn.draw l.env l.hands l.draw l.clock l.counter
