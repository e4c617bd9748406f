use Rattle.list_laws.proofs.Ranges.{range_split}
use Rattle.std.proofs.Common.{Bool, List, [], ap, arith, cond, false, refl, sym, true, ℕ, ◌++◌, ◌+◌, ◌-◌, ◌∙◌, ◌∷◌, ◌≡◌, ◌≤◌}
use Rattle.std.proofs.lemmas.List.{append-nil}
use Rattle.std.proofs.lemmas.List.Elements.{filter-append}
use Rattle.std.specs.List.{range_with_len}
use Rattle.std.specs.Prelude.{filter}
use Rattle.task_base.specs.Plan.{Plan}
use Rattle.pool_core.specs.Queues.{is_representative}
use Rattle.pool_core.proofs.lanes.representatives.Goals.{then-is_representative+in_ok-push, else-is_representative}
use Rattle.pool_core.proofs.lanes.representatives.Goals as goal

-- with one more worker, or without it
one_more : (script : Plan) (seats : List ℕ) (seat : ℕ) (b : Bool) → 1 ≤ seat → seats ≡ filter (is_representative script) (range_with_len 1 (seat - 1))
    → is_representative script seat ≡ b
    → cond b (seats ++ seat ∷ []) seats ≡ filter (is_representative script) (range_with_len 1 (seat + 1 - 1))
one_more script seats seat b from are is = by_test b ∙ sym (
    ap (filter (is_representative script)) (range_split 1 (seat - 1) 0 (seat + 1 - 1) seat (omega (arith, from)) (omega (arith, from)))
    ∙ filter-append (is_representative script) (range_with_len 1 (seat - 1)) (seat ∷ [])
    ∙ rw (are, is) refl)
  where
    by_test : (c : Bool) → cond c (seats ++ seat ∷ []) seats ≡ seats ++ cond c (seat ∷ []) []
    by_test true = refl
    by_test false = sym (append-nil seats)

pub loop-seat-preserved : goal.loop-seat-preserved
loop-seat-preserved c = elim c.if-is_representative.branch [
  | then-is_representative+in_ok-push w ↦ ap (λ v. v.items) w.seats-is ∙ w.in_ok-push.ensures.items
      ∙ one_more c.args.script.now c.loop-seat.seats.items c.loop-seat.seat true c.loop-seat.auto.seat c.loop-seat.invariant
      (sym c.is_representative.ensures ∙ w.if-is_representative.true)
  | else-is_representative w ↦ ap (λ v. v.items) w.seats-is
      ∙ one_more c.args.script.now c.loop-seat.seats.items c.loop-seat.seat false c.loop-seat.auto.seat c.loop-seat.invariant
      (sym c.is_representative.ensures ∙ w.if-is_representative.false)
]
