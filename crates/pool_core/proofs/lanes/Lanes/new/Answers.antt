use Rattle.std.proofs.Common.{◌≡◌, ◌+◌, ℕ, List, [], ◌∷◌, ◌++◌, ap, ◌∙◌, sym, arith}
use Rattle.std.specs.Prelude.{map}
use Rattle.std.specs.List.{range_with_len}
use Rattle.std.proofs.lemmas.List.{map_push}
use Rattle.list_laws.proofs.Ranges.{range_split}
use Rattle.task_base.specs.Plan.{Plan}
use Rattle.pool_core.specs.Queues.{empty_lane}
use Rattle.pool_core.specs.declared.lanes.Lane.{Lane}
use Rattle.pool_core.proofs.lanes.Lanes.new.Goals.{else-loop-seat-test, then-loop-seat-test+in_ok-new+in_ok-push+else-seat-seat-end}
use Rattle.pool_core.proofs.lanes.Lanes.new.Goals as goal

-- the empty lanes of one more seat
one_more : (script : Plan) (lanes : List Lane) (lane : Lane) (n m : ℕ) → lanes ≡ map (empty_lane script) (range_with_len 0 n) → lane ≡ empty_lane script n
    → m ≡ n + 1 → lanes ++ lane ∷ [] ≡ map (empty_lane script) (range_with_len 0 m)
one_more script lanes lane n m are is next = rw (are, is, range_split 0 n 0 m n (omega (arith, next)) (omega arith))
    (sym (map_push (empty_lane script) (range_with_len 0 n) n))

pub loop-seat-init : goal.loop-seat-init
loop-seat-init c = c.in_ok-lanes.ensures.items

pub loop-seat-preserved : goal.loop-seat-preserved
loop-seat-preserved c = c.in_ok-push.ensures.items
    ∙ one_more c.args.script.now c.loop-seat.lanes.items c.in_ok-new.field-0 c.loop-seat.seat (c.loop-seat.seat + 1) c.loop-seat.invariant
    c.in_ok-new.ensures (omega arith)

pub returns : goal.returns
returns c = elim c.loop-seat-test.branch [
  | else-loop-seat-test w ↦ absurd (omega arith)
  | then-loop-seat-test+in_ok-new+in_ok-push+else-seat-seat-end w ↦ ap (λ v. v.items) w.lanes-is ∙ w.in_ok-push.ensures.items
      ∙ one_more c.args.script.now c.loop-seat.lanes.items w.in_ok-new.field-0 c.loop-seat.seat (c.args.script.now.workers + 1) c.loop-seat.invariant
      w.in_ok-new.ensures (omega (arith, ap (λ (s : Plan). s.workers) c.script.view_is))
]
