use Rattle.std.proofs.Common.{[]}
use Rattle.live_core.proofs.Calling.{calls_are_right, history_is_legal}
use Rattle.live_core.proofs.laws.live_theorem.Goals as goal

pub returns-clause-legal : goal.returns-clause-legal
returns-clause-legal c = λ plan live calls stands made. history_is_legal plan [] live calls stands made

pub returns-clause-right : goal.returns-clause-right
returns-clause-right c = λ plan live calls stands made. calls_are_right plan [] live calls stands made
