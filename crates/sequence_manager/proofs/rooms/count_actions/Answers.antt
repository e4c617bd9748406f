use Rattle.sequence_manager.proofs.Counting.{all_counted, counted_more, counted_same, posting_fits, posting_there}
use Rattle.sequence_manager.specs.Postings.{posting_of_action}
use Rattle.std.proofs.Common.{None, ap, arith, length, refl, ℕ, ◌+◌, ◌<◌, ◌≡◌, ◌^◌}
use Rattle.task_base.specs.declared.script.Action.{Action}
use Rattle.task_base.specs.declared.script.Action.TheVariants.{Main}
use Rattle.sequence_manager.proofs.rooms.count_actions.Goals.{in-Main, in_default}
use Rattle.sequence_manager.proofs.rooms.count_actions.Goals as goal

-- another action posts nothing to a main queue
posts_nothing : (action : Action) → ((task queue delay : ℕ) → action ≡ Main task queue delay → ⊥) → posting_of_action action ≡ None
posts_nothing (Main task queue delay) other = absurd (other task queue delay refl)
posts_nothing action other = refl

pub index_mut-requires : goal.index_mut-requires
index_mut-requires c =
    let there : c.in-Main.queue < length c.loop-action.counts.items = posting_there posting_of_action _ _ _ _ _ _ c.requires c.loop-action.invariant
    c.loop-action-test.true (ap posting_of_action c.in-Main.is) in
    omega (arith, c.loop-action.counts.ok.0)

pub overflow_add-index_mut : goal.overflow_add-index_mut
overflow_add-index_mut c =
    let fits : c.index_mut.result.now + 1 < 2 ^ 32 = posting_fits posting_of_action _ _ _ _ _ _ _ c.requires c.loop-action.invariant
    c.loop-action-test.true (ap posting_of_action c.in-Main.is) c.index_mut.ensures.value in
    omega arith

pub loop-action-preserved : goal.loop-action-preserved
loop-action-preserved c = elim c.match-action.branch [
  | in-Main w ↦ rw w.counts-is (counted_more posting_of_action _ _ _ _ _ _ _ c.requires c.loop-action.invariant c.loop-action-test.true
      (ap posting_of_action w.in-Main.is) w.index_mut.ensures.value)
  | in_default w ↦ rw w.counts-is (counted_same posting_of_action _ _ _ _ _ c.loop-action.invariant c.loop-action-test.true
      (posts_nothing _ w.in_default.not-Main))
]

pub returns : goal.returns
returns c = all_counted posting_of_action _ _ _ _ c.loop-action.invariant c.loop-action-test.false
