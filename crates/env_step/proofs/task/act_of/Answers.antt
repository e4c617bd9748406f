use Rattle.std.proofs.Common.{ap, refl, sym, ◌∙◌}
use Rattle.env_core.specs.Calls.{entry_of}
use Rattle.env_step.proofs.Tasks.{acted, entered_is, next_is_told}
use Rattle.env_step.proofs.task.act_of.Goals as goal

pub act-ok-requires : goal.act-ok-requires
act-ok-requires c = next_is_told c.args.act c.requires.at c.requires.known c.requires.more

pub unwrap-kind-requires : goal.unwrap-kind-requires
unwrap-kind-requires c = rw (c.entry_of.ensures, c.task-task.ensures, entered_is c.requires.at.seats c.act-ok.ensures.enters) refl

pub returns : goal.returns
returns c reading = acted c.unwrap-kind.result c.advance.result c.requires.at c.act-ok.ensures.enters c.requires.more
    (ap (λ t. entry_of t c.args.act c.act-ok.result) (sym c.task-task.ensures) ∙ sym c.entry_of.ensures ∙ c.unwrap-kind.ensures) (record {
      same = c.advance.ensures.same;
      reaches = c.advance.ensures.acts;
      stops = c.advance.ensures.stops;
      ends = c.advance.ensures.ends;
    }) reading
