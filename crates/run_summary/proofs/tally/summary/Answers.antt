-- A legal log of a sound script is short, and the four figures are those of its summary.
use Rattle.std.proofs.Common.{arith}
use Rattle.hist_model.proofs.Laws.Entries.Bound.{entries_within_limit}
use Rattle.run_summary.proofs.CellTable.{figures}
use Rattle.run_summary.proofs.tally.summary.Goals as goal

pub ended_tasks-requires : goal.ended_tasks-requires
ended_tasks-requires c = rw c.as_slice-entries.ensures
    (omega (arith, entries_within_limit c.args.script.now c.args.log.now.items c.requires.plan c.requires.legal))

pub ended_items-requires : goal.ended_items-requires
ended_items-requires c = rw c.as_slice-entries.ensures
    (omega (arith, entries_within_limit c.args.script.now c.args.log.now.items c.requires.plan c.requires.legal))

pub returns : goal.returns
returns c = rw (← c.as_slice-entries.ensures) (figures c.args.script.now c.as_slice-entries.result.now c.cells_behind-cells.result c.ended_tasks.result
    c.ended_items.result c.sum.result c.sum_of_values.result c.cells_behind-cells.ensures c.ended_tasks.ensures c.ended_items.ensures c.sum.ensures
    c.sum_of_values.ensures)
