use Rattle.sequence_manager.proofs.Counting.{all_counted, counted_more, counted_same, posting_fits, posting_there}
use Rattle.sequence_manager.specs.Postings.{posting_of_step}
use Rattle.std.proofs.Common.{None, ap, arith, length, refl, ℕ, ◌+◌, ◌<◌, ◌≡◌, ◌^◌}
use Rattle.task_base.specs.declared.step.Step.{Step}
use Rattle.task_base.specs.declared.step.Step.TheVariants.{Main}
use Rattle.sequence_manager.proofs.rooms.count_steps.Goals.{in-Main, in_default}
use Rattle.sequence_manager.proofs.rooms.count_steps.Goals as goal

-- another step posts nothing to a main queue
posts_nothing : (step : Step) → ((task queue delay : ℕ) → step ≡ Main task queue delay → ⊥) → posting_of_step step ≡ None
posts_nothing (Main task queue delay) other = absurd (other task queue delay refl)
posts_nothing step other = refl

pub index_mut-requires : goal.index_mut-requires
index_mut-requires c =
    let there : c.in-Main.queue < length c.loop-step.counts.items = posting_there posting_of_step _ _ _ _ _ _ c.requires c.loop-step.invariant
    c.loop-step-test.true (ap posting_of_step c.in-Main.is) in
    omega (arith, c.loop-step.counts.ok.0)

pub overflow_add-index_mut : goal.overflow_add-index_mut
overflow_add-index_mut c =
    let fits : c.index_mut.result.now + 1 < 2 ^ 32 = posting_fits posting_of_step _ _ _ _ _ _ _ c.requires c.loop-step.invariant
    c.loop-step-test.true (ap posting_of_step c.in-Main.is) c.index_mut.ensures.value in
    omega arith

pub loop-step-preserved : goal.loop-step-preserved
loop-step-preserved c = elim c.match-step.branch [
  | in-Main w ↦ rw w.counts-is (counted_more posting_of_step _ _ _ _ _ _ _ c.requires c.loop-step.invariant c.loop-step-test.true
      (ap posting_of_step w.in-Main.is) w.index_mut.ensures.value)
  | in_default w ↦ rw w.counts-is (counted_same posting_of_step _ _ _ _ _ c.loop-step.invariant c.loop-step-test.true
      (posts_nothing _ w.in_default.not-Main))
]

pub returns : goal.returns
returns c = all_counted posting_of_step _ _ _ _ c.loop-step.invariant c.loop-step-test.false
