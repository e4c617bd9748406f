use Rattle.std.proofs.Common.{◌≡◌, ℕ, ◌+◌, ◌∙◌, ◌++◌, ◌∷◌, [], List, ap, append-nil, append_assoc, arith, flat_map, refl}
use Rattle.std.proofs.lemmas.Grind.{flat_map-append}
use Rattle.std.specs.List.{range_with_len}
use Rattle.list_laws.proofs.Ranges.{range_split}
use Rattle.task_base.specs.declared.entry.Entry.{Entry}
use Rattle.log_context.specs.Context.{works_on}
use Rattle.log_context.specs.declared.fact.Fact.{Fact}
use Rattle.log_context.proofs.context.add_at_work.Goals as goal

-- one seat more
one_more : (past : List Entry) (seat : ℕ) → flat_map (works_on past) (range_with_len 0 (seat + 1))
    ≡ flat_map (works_on past) (range_with_len 0 seat) ++ works_on past seat
one_more past seat = rw (range_split 0 seat 0 (seat + 1) seat (omega arith) (omega arith))
    (flat_map-append (works_on past) (range_with_len 0 seat) (seat ∷ [])
    ∙ ap (λ (l : List Fact). flat_map (works_on past) (range_with_len 0 seat) ++ l) (append-nil (works_on past seat)))

pub loop-seat-preserved : goal.loop-seat-preserved
loop-seat-preserved c =
    let past = c.args.past.now in
    let seat = c.loop-seat.seat in
    record {
      so_far = c.in_ok-push_some.ensures
          ∙ rw (c.loop-seat.invariant.so_far, c.busy.ensures, one_more past seat, append_assoc) refl;
    }
