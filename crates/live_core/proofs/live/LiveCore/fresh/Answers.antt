use Rattle.hist_model.proofs.Laws.Legal.{nothing_is_legal}
use Rattle.live_core.proofs.AtStart.{cells_at_start, main_script, pool_opened}
use Rattle.std.proofs.Common.{ap, refl, ◌+◌, ◌≡◌}
use Rattle.task_base.specs.Plan.{Plan, opened}
use Rattle.live_core.proofs.live.LiveCore.fresh.Goals as goal

pub open-requires : goal.open-requires
open-requires c = main_script c.args.script c.requires

pub returns : goal.returns
returns c =
    let workers : c.script.inside.workers ≡ c.args.script.workers = ap (λ (s : Plan). s.workers) c.script.view_is in
    record {
      opened = refl;
      legal = nothing_is_legal (opened c.args.script);
      pool = pool_opened c.args.script c.in_ok-pool.pool c.in_ok-pool.ensures;
      main = c.in_ok-main.ensures;
      books = c.in_ok-books.ensures.stands;
      cells = rw (c.in_ok-cells.ensures, workers) (cells_at_start (c.args.script.workers + 1));
    }
