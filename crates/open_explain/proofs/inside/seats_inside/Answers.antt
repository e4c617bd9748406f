use Rattle.std.proofs.Common.{◌≡◌, ℕ, ◌+◌, Bool, true, false, cond, [], ◌∷◌, arith, refl, sym, ◌∙◌}
use Rattle.std.specs.List.{range_with_len}
use Rattle.std.specs.Prelude.{◌==◌}
use Rattle.list_laws.proofs.Counts.{count-append}
use Rattle.list_laws.proofs.Ranges.{range_split}
use Rattle.list_laws.specs.Lists.{count, holds_of}
use Rattle.task_model.specs.Seats.{holding}
use Rattle.open_explain.proofs.inside.seats_inside.Goals.{then-is_inside, else-is_inside}
use Rattle.open_explain.proofs.inside.seats_inside.Goals as goal

-- one seat more, which passes or does not
count_more : (test : ℕ → Bool) (n now next : ℕ) (passes : Bool) → now ≡ count test (range_with_len 0 n) → test n ≡ passes → next ≡ now + cond passes 1 0
    → next ≡ count test (range_with_len 0 (n + 1))
count_more test n now next true is tested goes =
    rw (goes, range_split 0 n 0 (n + 1) n (omega arith) (omega arith), count-append test (range_with_len 0 n) (n ∷ []), is, tested) refl
count_more test n now next false is tested goes =
    rw (goes, range_split 0 n 0 (n + 1) n (omega arith) (omega arith), count-append test (range_with_len 0 n) (n ∷ []), is, tested) refl

pub loop-seat-preserved : goal.loop-seat-preserved
loop-seat-preserved c =
    let now = c.loop-seat.invariant in
    let test : ℕ → Bool = λ seat. holds_of (λ h. h.job == c.args.job) (holding c.args.past.now seat) in
    elim c.if-is_inside.branch [
      | then-is_inside w ↦ record {
        so_far = count_more test c.loop-seat.seat c.loop-seat.seats _ true now.so_far (sym c.is_inside.ensures ∙ w.if-is_inside.true) w.seats-is;
        few = omega (arith, now.few, w.seats-is);
      }
      | else-is_inside w ↦ record {
        so_far = count_more test c.loop-seat.seat c.loop-seat.seats _ false now.so_far (sym c.is_inside.ensures ∙ w.if-is_inside.false)
            (w.seats-is ∙ omega arith);
        few = omega (arith, now.few, w.seats-is);
      }
    ]
