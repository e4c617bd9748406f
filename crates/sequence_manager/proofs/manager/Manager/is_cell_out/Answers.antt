use Rattle.std.proofs.Common.{◌≡◌, ℕ, Bool, true, false, cond, not, refl, sym, ap, ◌∙◌, Some, None}
use Rattle.std.specs.Prelude.{is_some}
use Rattle.list_laws.proofs.Values.{some-injective}
use Rattle.sequence_manager.specs.Queues.{is_out, queue_of}
use Rattle.sequence_manager.specs.declared.task_queue.TaskQueue.{TaskQueue}
use Rattle.sequence_manager.proofs.manager.Manager.is_cell_out.Goals as goal

-- a cell that is not at home is out
out : (none home : Bool) (value : ℕ) → is_some (cond home None (Some value)) ≡ not none → none ≡ home
out true true value is = refl
out true false value is = absurd cc
out false true value is = absurd cc
out false false value is = refl

pub returns : goal.returns
unfolding queue_of
returns c script past has =
    let is : c.at.result.now ≡ queue_of script past _ _ c.args.queue
    = some-injective (sym c.at.ensures ∙ has.stands.parts.queues.each c.args.queue has.declared) in
    out c.is_none.result (is_out past c.args.queue) _ (ap (λ (q : TaskQueue). is_some q.cell) (sym is) ∙ c.is_none.ensures)
