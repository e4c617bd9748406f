use Rattle.script_model.proofs.Laws.Faults.{first_fault-found, first_fault-only}
use Rattle.script_model.proofs.grammar.first_bad_line_is_the_fault.Goals as goal

pub returns-clause-found : goal.returns-clause-found
returns-clause-found c = first_fault-found

pub returns-clause-only : goal.returns-clause-only
returns-clause-only c = first_fault-only
