use Rattle.std.proofs.Common.{length, sym, ap, ◌∙◌, rules, tests}
use Rattle.std.specs.Prelude.{filter, not, ◌==◌}
use Rattle.std.proofs.lemmas.Iterator.Consumers.{YieldsList-at, YieldsList-end}
use Rattle.std.proofs.lemmas.Iterator.Splits.{YieldsList-from_slice_split}
use Rattle.line_text.specs.Words.{texts}
use Rattle.list_laws.proofs.Filters.{filter-map}
use Rattle.script_model.specs.Words.{is_blank}
use Rattle.nested_loop.proofs.words.words_of.Goals as goal

pub returns : goal.returns
returns c =
    let end = YieldsList-end (YieldsList-at c.into_iter-word-iterator.ensures.into_iter_gives (YieldsList-from_slice_split _ is_blank c.args.line.now
    c.split-word-items.ensures.rest c.split-word-items.ensures.done c.split-word-items.ensures.closure (λ x b q k. search (rules, tests))))
    c.loop-word.yielded _ c.loop-word.yielded_by _ _ c.in-None.is c.next.ensures.steps in
    ap texts c.loop-word.invariant ∙ sym (filter-map (λ word. not (length word == 0)) (λ word. word.now) c.loop-word.yielded)
    ∙ ap (filter (λ word. not (length word == 0))) end.0
