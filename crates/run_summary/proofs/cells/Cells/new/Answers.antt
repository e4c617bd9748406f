-- The three lists are as long as the script says, and what the script is seen as has those lengths.
use Rattle.std.proofs.Common.{◌+◌, ap, ◌∙◌, length, replicate}
use Rattle.task_base.specs.Plan.{Plan}
use Rattle.task_base.specs.Runners.{sequence_count}
use Rattle.run_summary.specs.declared.cells.Home.TheVariants.{Nothing}
use Rattle.run_summary.proofs.CellTable.{no_cells}
use Rattle.run_summary.proofs.cells.Cells.new.Goals as goal

pub returns : goal.returns
returns c = no_cells c.args.script.now
    (record { homes = c.in_ok-homes.homes; sequences = c.in_ok-sequences.sequences; queues = c.in_ok-queues.queues })
    (c.in_ok-homes.ensures.items_if_clones_equal (λ y is. is) ∙ ap (λ (s : Plan). replicate (s.workers + 1) Nothing) c.script.view_is)
    (c.in_ok-sequences.ensures.items_if_clones_equal (λ y is. is)
    ∙ rw (c.len.ensures.count, c.len-2.ensures.count) (ap (λ (s : Plan). replicate (sequence_count s) 0) c.script.view_is))
    (c.in_ok-queues.ensures.items_if_clones_equal (λ y is. is)
    ∙ rw (c.len-3.ensures.count) (ap (λ (s : Plan). replicate (length s.queues) 0) c.script.view_is))
