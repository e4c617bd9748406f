use Rattle.pool_core.proofs.Sources.Places.{next_refreshed, place_at, read_at}
use Rattle.pool_core.proofs.pool.Pool.refresh_all.Goals.{in-Some, in_default}
use Rattle.pool_core.specs.Refreshes.{posted_at, refreshed_below}
use Rattle.pool_core.specs.State.{refreshed}
use Rattle.pool_core.specs.declared.posting.Posting.{Posting}
use Rattle.std.proofs.Common.{None, Option, Some, ap, arith, length, refl, sym, ◌<◌, ◌∙◌, ◌≡◌}
use Rattle.pool_core.proofs.pool.Pool.refresh_all.Goals as goal

none_by : (o : Option Posting) → ((x : Posting) → o ≡ Some x → ⊥) → o ≡ None
none_by None not_some = refl
none_by (Some x) not_some = absurd (not_some x refl)

pub loop-task-init : goal.loop-task-init
loop-task-init c = refl

pub seq_at-seq-requires : goal.seq_at-seq-requires
seq_at-seq-requires c =
    let below : c.loop-task.task < length c.args.self.now.postings.items =
    omega (arith, c.loop-task-test.true, c.loop-task.auto.task-end, c.len-task-end.ensures, c.args.self.now.postings.ok.0) in
    place_at c.args.self.now c.loop-task.self c.loop-task.task c.in-Some.posting c.requires c.loop-task.invariant
    (sym (read_at c.args.self.now c.loop-task.self c.loop-task.task c.index.result.now c.loop-task.invariant below c.index.ensures) ∙ c.in-Some.is)

pub refresh-requires : goal.refresh-requires
refresh-requires c =
    let below : c.loop-task.task < length c.args.self.now.postings.items =
    omega (arith, c.loop-task-test.true, c.loop-task.auto.task-end, c.len-task-end.ensures, c.args.self.now.postings.ok.0) in
    rw c.seq_at-seq.ensures (place_at c.args.self.now c.loop-task.self c.loop-task.task c.in-Some.posting c.requires c.loop-task.invariant
    (sym (read_at c.args.self.now c.loop-task.self c.loop-task.task c.index.result.now c.loop-task.invariant below c.index.ensures) ∙ c.in-Some.is)).1

pub loop-task-preserved : goal.loop-task-preserved
loop-task-preserved c =
    let below : c.loop-task.task < length c.args.self.now.postings.items =
    omega (arith, c.loop-task-test.true, c.loop-task.auto.task-end, c.len-task-end.ensures, c.args.self.now.postings.ok.0) in
    let read : c.index.result.now ≡ posted_at c.loop-task.self.postings.items c.loop-task.task =
    read_at c.args.self.now c.loop-task.self c.loop-task.task c.index.result.now c.loop-task.invariant below c.index.ensures in elim c.match-index.branch [
      | in-Some w ↦ next_refreshed c.args.self.now c.loop-task.self c.match-index.self c.loop-task.task (Some w.in-Some.posting)
          c.loop-task.invariant (sym w.in-Some.is ∙ read)
          (w.self-is ∙ w.refresh.ensures ∙ ap (λ s. refreshed c.loop-task.self s w.in-Some.posting.runner) w.seq_at-seq.ensures)
      | in_default w ↦ next_refreshed c.args.self.now c.loop-task.self c.match-index.self c.loop-task.task None c.loop-task.invariant
          (sym (none_by c.index.result.now w.in_default.not-Some) ∙ read) w.self-is
    ]

pub returns : goal.returns
returns c = c.loop-task.invariant ∙ ap (refreshed_below c.args.self.now) (omega (arith, c.args.self.now.postings.ok.0))
