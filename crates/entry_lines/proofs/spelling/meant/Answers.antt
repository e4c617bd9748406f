use Rattle.std.proofs.Common.{ap, ◌∙◌, arith}
use Rattle.line_text.specs.Words.{texts}
use Rattle.entry_lines.specs.Spelling.{entry_behind_place}
use Rattle.entry_lines.proofs.ReadBack.{few_words}
use Rattle.entry_lines.proofs.PlainWords.{answers_meant, many_words, meant_is_read}
use Rattle.entry_lines.proofs.spelling.meant.Goals as goal

pub returns-in_err-plain_words-clause-none : goal.returns-in_err-plain_words-clause-none
returns-in_err-plain_words-clause-none c none e h =
    let few = few_words 0 e in
    let many = rw h.words at c.in_err-plain_words.ensures in
    absurd (omega arith)

pub returns-clause-meant : goal.returns-clause-meant
returns-clause-meant c =
    answers_meant c.args.line.now _ c.entry_behind_place.result (ap texts c.deref.ensures.0 ∙ c.in_ok-plain_words.ensures)
    c.entry_behind_place.ensures.parts c.entry_behind_place.ensures.fits

pub returns-clause-none : goal.returns-clause-none
returns-clause-none c none e h =
    let read = c.entry_behind_place.ensures.same
    ∙ ap entry_behind_place (ap texts c.deref.ensures.0 ∙ c.in_ok-plain_words.ensures)
    ∙ meant_is_read c.args.line.now e h in
    absurd cc

pub returns-in_err-plain_words-clause-same : goal.returns-in_err-plain_words-clause-same
returns-in_err-plain_words-clause-same c = let read = many_words _ c.in_err-plain_words.ensures in cc

pub returns-clause-same : goal.returns-clause-same
returns-clause-same c = c.entry_behind_place.ensures.same ∙ ap entry_behind_place (ap texts c.deref.ensures.0 ∙ c.in_ok-plain_words.ensures)
