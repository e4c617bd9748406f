use Rattle.open_explain.proofs.Causes.{of_driver}
use Rattle.open_explain.proofs.cause.cause_of.Goals as goal

pub returns-in-OtherSeat : goal.returns-in-OtherSeat
returns-in-OtherSeat c = of_driver c.args.entry.now.seat c.args.entry.now.kind (rw c.in-OtherSeat.is at c.requires.is)

pub made-requires-clause-own : goal.made-requires-clause-own
made-requires-clause-own c = (rw c.in-Made.is at c.requires.is).0

pub made-requires-clause-made : goal.made-requires-clause-made
made-requires-clause-made c = let is = rw c.in-Made.is at c.requires.is in (is.1, is.2)

pub unmade-requires-clause-own : goal.unmade-requires-clause-own
unmade-requires-clause-own c = (rw c.in-Unmade.is at c.requires.is).0

pub unmade-requires-clause-unmade : goal.unmade-requires-clause-unmade
unmade-requires-clause-unmade c = (rw c.in-Unmade.is at c.requires.is).1

pub unmade-requires-clause-stands : goal.unmade-requires-clause-stands
unmade-requires-clause-stands c = rw c.in-Unmade.is at c.requires.stays
