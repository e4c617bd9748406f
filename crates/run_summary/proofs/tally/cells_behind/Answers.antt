-- One more entry of the log is entered.
use Rattle.run_summary.proofs.CellTable.{cells_more}
use Rattle.run_summary.proofs.tally.cells_behind.Goals as goal

pub loop-entry-preserved : goal.loop-entry-preserved
loop-entry-preserved c = cells_more c.args.script.now c.args.log.now c.loop-entry.entry-index _ c.loop-entry.cells c.enter.new.self c.requires.legal
    c.loop-entry-test.true c.loop-entry.invariant c.enter.ensures.homes c.enter.ensures.sequences c.enter.ensures.queues
