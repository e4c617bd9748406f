use Rattle.std.proofs.lemmas.Result.{IfOk-weaker}
use Rattle.command_line.proofs.words.with_argument.Goals as goal

pub returns : goal.returns
returns c = IfOk-weaker c.arg.result _ _ (λ more adds. adds.shape c.requires) c.arg.ensures
