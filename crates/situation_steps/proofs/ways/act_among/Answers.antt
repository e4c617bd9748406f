use Rattle.std.proofs.Common.{sym, ◌∙◌, rules, tests}
use Rattle.std.proofs.lemmas.Iterator.{YieldsList-from_slice}
use Rattle.std.proofs.lemmas.Iterator.Adapters.{option_map_id}
use Rattle.std.proofs.lemmas.Iterator.Consumers.{YieldsList-at, YieldsList-from_copied, YieldsList-from_filter, nth_from_yields_List}
use Rattle.task_base.specs.Steps.{is_act}
use Rattle.situation_steps.proofs.ways.act_among.Goals as goal

pub returns : goal.returns
returns c = sym (option_map_id c.nth.result) ∙ nth_from_yields_List c.nth.result c.nth.new.self c.args.acts c.nth.ensures.ran
    (YieldsList-from_filter _ is_act
    (YieldsList-at c.filter.ensures.source (YieldsList-from_copied (YieldsList-at c.copied.ensures.source (YieldsList-from_slice c.args.steps.now cc))))
    c.filter.ensures.closure (λ x b q k. search (rules, tests)))
