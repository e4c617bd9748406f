use Rattle.std.proofs.Common.{◌≡◌, sym, ap, ◌∙◌, refl, subst, drop}
use Rattle.std.specs.Prelude.{option_copied}
use Rattle.script_model.specs.Words.{words_of}
use Rattle.script_lines.specs.Said.{line_said, command_said}
use Rattle.script_lines.specs.Saying.{Says}
use Rattle.script_lines.proofs.ReadLine.{words_said-none, words_said-some}
use Rattle.script_lines.proofs.read.read_line.Goals as goal

pub returns-in_default : goal.returns-in_default
returns-in_default c =
    words_said-none c.args.line.now (words_of c.args.line.now)
    (rw (← c.of-words.ensures) (sym c.next.ensures.word ∙ ap option_copied c.in_default.is))

pub returns-then-begins_comment : goal.returns-then-begins_comment
returns-then-begins_comment c =
    words_said-some c.args.line.now (words_of c.args.line.now) c.in-Some.name.now (rw (← c.of-words.ensures) (sym c.in-Some.ensures.word))
    ∙ rw (sym c.begins_comment.ensures ∙ c.if-begins_comment.true) refl

pub returns-then-not-is_all_ascii : goal.returns-then-not-is_all_ascii
returns-then-not-is_all_ascii c =
    let said = words_said-some c.args.line.now (words_of c.args.line.now) c.in-Some.name.now (rw (← c.of-words.ensures) (sym c.in-Some.ensures.word)) in
    rw c.from.ensures (said ∙ rw (sym c.begins_comment.ensures ∙ c.if-begins_comment.false, sym c.is_all_ascii.ensures ∙ c.if-not-is_all_ascii.true) refl)

pub returns : goal.returns
returns c =
    let rest : c.next.new.self ≡ drop 1 (words_of c.args.line.now) = c.next.ensures.rest ∙ ap (drop 1) c.of-words.ensures in
    let said : line_said c.args.line.now ≡ command_said c.in-Some.name.now c.next.new.self =
    words_said-some c.args.line.now (words_of c.args.line.now) c.in-Some.name.now (rw (← c.of-words.ensures) (sym c.in-Some.ensures.word))
    ∙ rw (sym c.begins_comment.ensures ∙ c.if-begins_comment.false, sym c.is_all_ascii.ensures ∙ c.if-not-is_all_ascii.false, rest) refl in
    subst (Says c.command.result) (sym said) c.command.ensures
