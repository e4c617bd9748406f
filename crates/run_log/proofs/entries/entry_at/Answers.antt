use Rattle.std.proofs.Common.{ap, ◌∙◌, arith}
use Rattle.line_text.specs.Words.{texts}
use Rattle.entry_lines.proofs.ReadBack.{few_words}
use Rattle.run_log.specs.Entries.{entry_of}
use Rattle.run_log.proofs.LineWords.{spaced_words-front, answers_line, entry_reads_back}
use Rattle.run_log.proofs.entries.entry_at.Goals as goal

pub returns-in_err-spaced_words-clause-none : goal.returns-in_err-spaced_words-clause-none
returns-in_err-spaced_words-clause-none c none e h =
    let front = spaced_words-front c.args.place e c.args.bytes.now h in
    let few = few_words c.args.place e in
    let many = rw front at c.in_err-spaced_words.ensures in
    absurd (omega arith)

pub returns-clause-found : goal.returns-clause-found
returns-clause-found c =
    answers_line c.args.place c.args.bytes.now _ c.entry_of.result (omega arith) (omega arith) (ap texts c.deref.ensures.0 ∙ c.in_ok-spaced_words.ensures)
    c.entry_of.ensures.parts c.entry_of.ensures.fits

pub returns-clause-none : goal.returns-clause-none
returns-clause-none c none e h =
    let same = c.entry_of.ensures.same
    ∙ ap (entry_of c.args.place) (ap texts c.deref.ensures.0 ∙ c.in_ok-spaced_words.ensures ∙ spaced_words-front c.args.place e c.args.bytes.now h)
    ∙ entry_reads_back c.args.place e c.ranges.place.fits h.fits in
    absurd cc
