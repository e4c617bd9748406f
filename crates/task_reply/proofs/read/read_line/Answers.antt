use Rattle.script_model.specs.Words.{words_of}
use Rattle.task_reply.proofs.FewWords.{words_said-six}
use Rattle.task_reply.proofs.read.read_line.Goals as goal

pub returns : goal.returns
returns c = rw (← words_said-six (words_of c.args.line.now), ← c.in_ok-words.ensures, ← c.as_slice.ensures.value) c.said.ensures
