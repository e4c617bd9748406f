use Rattle.list_laws.specs.Lists.{holds_of}
use Rattle.std.proofs.Common.{rules, tests}
use Rattle.std.proofs.lemmas.Iterator.{YieldsList-from_slice}
use Rattle.std.proofs.lemmas.Iterator.Search.{any_from_yields_List}
use Rattle.std.specs.Prelude.{◌==◌}
use Rattle.task_base.specs.Runners.{seat_of_kind}
use Rattle.pool_core.proofs.lanes.is_stated.Goals as goal

pub returns : goal.returns
returns c = any_from_yields_List (λ r. holds_of (λ only. only == c.args.seat) (seat_of_kind r.kind)) _ _ c.any.result c.any.ensures.ran
    (YieldsList-from_slice c.args.script.now.runners cc) (λ x b q k. search (rules, tests))
