use Rattle.log_model.proofs.Laws.LogTexts.{same_history_lines}
use Rattle.log_model.proofs.log_text.log_texts_differ.Goals as goal

pub returns-clause-lines : goal.returns-clause-lines
returns-clause-lines c = same_history_lines
