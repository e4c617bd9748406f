use Rattle.std.proofs.Common.{ap₂, ◌∙◌}
use Rattle.std.proofs.lemmas.Result.{IfOk-weaker}
use Rattle.clap.specs.Simple.{with_rule}
use Rattle.command_line.proofs.words.taskenv.Goals as goal

pub returns : goal.returns
returns c =
    let first = c.in_ok-command.ensures ∙ ap₂ with_rule c.new.ensures.app c.mode_argument.ensures.rule in
    let second = c.in_ok-command-2.ensures ∙ ap₂ with_rule first c.value_argument.ensures.rule in
    let third = c.in_ok-command-3.ensures ∙ ap₂ with_rule second c.flag_argument.ensures.rule in
    let fourth = c.in_ok-command-4.ensures ∙ ap₂ with_rule third c.flag_argument-2.ensures.rule in
    let fifth = c.in_ok-command-5.ensures ∙ ap₂ with_rule fourth c.value_argument-2.ensures.rule in
    let sixth = c.in_ok-command-6.ensures ∙ ap₂ with_rule fifth c.value_argument-3.ensures.rule in
    let seventh = c.in_ok-command-7.ensures ∙ ap₂ with_rule sixth c.flag_argument-3.ensures.rule in
    let eighth = c.in_ok-command-8.ensures ∙ ap₂ with_rule seventh c.flag_argument-4.ensures.rule in
    let ninth = c.in_ok-command-9.ensures ∙ ap₂ with_rule eighth c.flag_argument-5.ensures.rule in
    let tenth = c.in_ok-command-10.ensures ∙ ap₂ with_rule ninth c.value_argument-4.ensures.rule in
    let eleventh = c.in_ok-command-11.ensures ∙ ap₂ with_rule tenth c.value_argument-5.ensures.rule in
    let twelfth = c.in_ok-command-12.ensures ∙ ap₂ with_rule eleventh c.flag_argument-6.ensures.rule in
    let thirteenth = c.in_ok-command-13.ensures ∙ ap₂ with_rule twelfth c.value_argument-6.ensures.rule in
    let fourteenth = c.in_ok-command-14.ensures ∙ ap₂ with_rule thirteenth c.value_argument-7.ensures.rule in
    let fifteenth = c.in_ok-command-15.ensures ∙ ap₂ with_rule fourteenth c.flag_argument-7.ensures.rule in
    let sixteenth = c.in_ok-command-16.ensures ∙ ap₂ with_rule fifteenth c.flag_argument-8.ensures.rule in
    let seventeenth = c.in_ok-command-17.ensures ∙ ap₂ with_rule sixteenth c.flag_argument-9.ensures.rule in
    let eighteenth = c.in_ok-command-18.ensures ∙ ap₂ with_rule seventeenth c.flag_argument-10.ensures.rule in
    let nineteenth = c.in_ok-command-19.ensures ∙ ap₂ with_rule eighteenth c.flag_argument-11.ensures.rule in
    let twentieth = c.in_ok-command-20.ensures ∙ ap₂ with_rule nineteenth c.flag_argument-12.ensures.rule in
    let last = c.in_ok-command-21.ensures ∙ ap₂ with_rule twentieth c.value_argument-8.ensures.rule in
    IfOk-weaker c.with_argument-22.result _ _ (λ command is. is ∙ ap₂ with_rule last c.flag_argument-13.ensures.rule) c.with_argument-22.ensures
