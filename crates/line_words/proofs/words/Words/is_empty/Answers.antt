use Rattle.line_words.proofs.FirstWord.{no_words}
use Rattle.line_words.proofs.words.Words.is_empty.Goals as goal

pub returns : goal.returns
returns c = rw (← c.self.view_is) (no_words c.self.inside.bytes.now c.word_start.result c.is_none.result c.word_start.ensures c.is_none.ensures)
