use Rattle.std.proofs.Common.{◌∙◌}
use Rattle.script_model.specs.Words.{is_blank}
use Rattle.line_words.proofs.FirstWord.{position-or_len}
use Rattle.line_words.proofs.words.word_len.Goals as goal

pub returns : goal.returns
returns c = c.unwrap_or.ensures ∙ rw c.blank_start.ensures (position-or_len is_blank c.args.text.now)
