use Rattle.std.proofs.Common.{arith, sym, ◌∙◌}
use Rattle.line_words.proofs.FirstWord.{words_of-blanks, first_word_is}
use Rattle.line_words.proofs.words.first_word.Goals as goal

pub returns-in_err-start : goal.returns-in_err-start
returns-in_err-start c = rw c.from_residual.ensures (words_of-blanks c.args.text.now (sym c.word_start.ensures ∙ c.in_err-start.was))

pub returns : goal.returns
returns c = first_word_is c.args.text.now c.in_ok-start.start c.word_len.result (sym c.word_start.ensures ∙ c.in_ok-start.was) c.word_len.ensures

pub overflow_add-end : goal.overflow_add-end
overflow_add-end c =
    let place = first_word_is c.args.text.now c.in_ok-start.start c.word_len.result (sym c.word_start.ensures ∙ c.in_ok-start.was) c.word_len.ensures in
    omega (arith, place.within)
