use Rattle.lint_laws.proofs.FaultLines.{fault_told, fault_worded}
use Rattle.lint_laws.proofs.fault.each_fault_says_what_is_wrong.Goals as goal

pub returns-clause-told : goal.returns-clause-told
returns-clause-told c = fault_told

pub returns-clause-worded : goal.returns-clause-worded
returns-clause-worded c = fault_worded
