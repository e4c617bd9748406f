use Rattle.std.proofs.Common.{ap, ◌∙◌, arith}
use Rattle.line_text.specs.Words.{texts}
use Rattle.event_text.specs.Reading.{event_of}
use Rattle.event_text.proofs.EventWords.{few_event_words, spaced_words-front, answers_line, event_reads_back}
use Rattle.event_text.proofs.events.event_at.Goals as goal

pub returns-in_err-spaced_words-clause-none : goal.returns-in_err-spaced_words-clause-none
returns-in_err-spaced_words-clause-none c none e h =
    let front = spaced_words-front e c.args.bytes.now h in
    let few = few_event_words e in
    let many = rw front at c.in_err-spaced_words.ensures in
    absurd (omega arith)

pub returns-clause-found : goal.returns-clause-found
returns-clause-found c =
    answers_line c.args.bytes.now _ c.event_of.result (omega arith) (omega arith) (ap texts c.deref.ensures.0 ∙ c.in_ok-spaced_words.ensures)
    c.event_of.ensures.words c.event_of.ensures.fits

pub returns-clause-none : goal.returns-clause-none
returns-clause-none c none e h =
    let same = c.event_of.ensures.same
    ∙ ap event_of (ap texts c.deref.ensures.0 ∙ c.in_ok-spaced_words.ensures ∙ spaced_words-front e c.args.bytes.now h)
    ∙ event_reads_back e h.fits in
    absurd cc
