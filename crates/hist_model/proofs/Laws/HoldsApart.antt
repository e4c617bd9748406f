-- In every legal history no two seats hold one item of a job, or one number in it.
-- Cited by `Laws/LegalPast`, `Laws/Progress/Quiet`, `Laws/Progress/Tasks`, `Laws/Shutdown/Places`, `Laws/Whole/Rest`, `jobs.rt`,
-- `live_core`, `log_count`, `run_summary`, `situation`.
use Rattle.std.proofs.Common.{◌≡◌, ℕ, ◌+◌, ◌<◌, ◌≤◌, Bool, true, false, cond, eqb, List, [], ◌∷◌}
use Rattle.std.proofs.Common.{◌++◌, length, refl, sym, subst, ◌∙◌, Some, None, inl, inr, arith}
use Rattle.std.specs.Prelude.{not}
use Rattle.std.specs.List.{range_with_len}
use Rattle.std.proofs.lemmas.Bool.{eq-eqb, both_ways, not-true}
use Rattle.std.proofs.lemmas.Option.{none-some, same_Some}
use Rattle.task_base.specs.Plan.{Plan}
use Rattle.task_base.specs.declared.entry.Entry.{Entry}
use Rattle.task_base.specs.declared.entry.Kind.{Kind}
use Rattle.task_base.specs.declared.entry.Kind.TheVariants as kinds
use Rattle.list_laws.proofs.Ranges.{range_all_at}
use Rattle.list_laws.proofs.Finds.{find_passes}
use Rattle.task_model.specs.Seats.{Holding, holding, holding_after, inside}
use Rattle.task_model.specs.Jobs.{claimed, holds_id, is_free_id}
use Rattle.task_model.specs.Sources.{leaves}
use Rattle.task_model.proofs.Growth.{claimed_push}
use Rattle.hist_model.specs.Allowed.{may_come}
use Rattle.hist_model.specs.Legal.{IsLegal}
use Rattle.hist_model.specs.Laws.Consistent.{HoldsApart}
use Rattle.hist_model.proofs.Laws.Legal.{entry_induction}
use Rattle.pool_laws.proofs.Seats.Whose.{HoldsBehind, holds_behind}
use Rattle.hist_model.proofs.Laws.OneThing.{job_step_holds}
use Rattle.hist_model.proofs.Laws.JobEntries.{entering_is, job_step_is}

-- what is known of an item that a seat is to hold: it is claimed behind the entry, and no other seat holds it, or its number
record IsNewlyHeld (past later : List Entry) (seat : ℕ) (h : Holding) : Type 0 where
  is_claimed : h.item < claimed later h.job
  apart : (s : ℕ) (k : Holding) → holding past s ≡ Some k → eqb seat s ≡ false → k.job ≡ h.job → (k.id ≡ h.id → ⊥) × (k.item ≡ h.item → ⊥)

-- an entry behind which its seat holds what no other does
apart_next : (script : Plan) (past : List Entry) (e : Entry) → e.seat ≤ script.workers
    → ((h : Holding) → holding_after (holding past e.seat) e.kind ≡ Some h → IsNewlyHeld past (past ++ e ∷ []) e.seat h)
    → HoldsApart script past → HoldsApart script (past ++ e ∷ [])
apart_next script past e seat_known new c = record {
  known = λ s h is. known s h (holds_behind past e s h is);
  is_claimed = λ s h is. is_claimed s h (holds_behind past e s h is);
  one_number = λ a b h k x y job id. one a b h k (holds_behind past e a h x) (holds_behind past e b k y) job
      (λ p q. c.one_number a b h k p q job id) (λ differ. differ.0 id) (λ differ. differ.0 (sym id));
  one_item = λ a b h k x y job item. one a b h k (holds_behind past e a h x) (holds_behind past e b k y) job
      (λ p q. c.one_item a b h k p q job item) (λ differ. differ.1 item) (λ differ. differ.1 (sym item));
}
  where
    known : (s : ℕ) (h : Holding) → HoldsBehind past e s h → s ≤ script.workers
    known s h (inl x) = c.known s h x.0
    known s h (inr x) = omega (arith, x.0, seat_known)

    is_claimed : (s : ℕ) (h : Holding) → HoldsBehind past e s h → h.item < claimed (past ++ e ∷ []) h.job
    is_claimed s h (inl x) = omega (arith, c.is_claimed s h x.0, claimed_push past e h.job)
    is_claimed s h (inr x) = (new h x.1).is_claimed

    one : (a b : ℕ) (h k : Holding) → HoldsBehind past e a h → HoldsBehind past e b k → h.job ≡ k.job
        → (holding past a ≡ Some h → holding past b ≡ Some k → a ≡ b)
        → ((h.id ≡ k.id → ⊥) × (h.item ≡ k.item → ⊥) → ⊥) → ((k.id ≡ h.id → ⊥) × (k.item ≡ h.item → ⊥) → ⊥) → a ≡ b
    one a b h k (inl x) (inl y) job both first second = both x.0 y.0
    one a b h k (inl x) (inr y) job both first second = absurd (first ((new k y.1).apart a h x.0 x.1 job))
    one a b h k (inr x) (inl y) job both first second = absurd (second ((new h x.1).apart b k y.0 y.1 (sym job)))
    one a b h k (inr x) (inr y) job both first second = x.0 ∙ sym y.0

-- an item that is the least unclaimed one is held by nobody
unclaimed : (script : Plan) (past : List Entry) (item : ℕ) (s : ℕ) (k : Holding) (job : ℕ) → HoldsApart script past → holding past s ≡ Some k → k.job ≡ job
    → item ≡ claimed past job → k.item ≡ item → ⊥
unclaimed script past item s k job c holds of_job least same =
    let below : k.item < claimed past job = subst (λ j. k.item < claimed past j) of_job (c.is_claimed s k holds) in
    omega (arith, below, least, same)

-- a number that is free is nobody's
free_number : (script : Plan) (past : List Entry) (id : ℕ) (s : ℕ) (k : Holding) (job : ℕ) → HoldsApart script past → holding past s ≡ Some k → k.job ≡ job
    → is_free_id script past job id ≡ true → k.id ≡ id → ⊥
free_number script past id s k job c holds of_job free same =
    both_ways (holds_id job id (holding past s))
    (not-true (holds_id job id (holding past s))
    (range_all_at (λ seat. not (holds_id job id (holding past seat))) 0 (script.workers + 1) s free (omega arith) (omega (arith, c.known s k holds))))
    (rw (holds, of_job, same, eq-eqb job job refl, eq-eqb id id refl) refl)

-- the seat takes a free number and the least unclaimed item
take_apart : (script : Plan) (past : List Entry) (seat job id item : ℕ) → may_come script past seat (kinds.JobTake job id item) ≡ true → HoldsApart script past
    → (h : Holding) → record { job = job; id = id; item = item } ≡ h
    → IsNewlyHeld past (past ++ record { seat = seat; kind = kinds.JobTake job id item } ∷ []) seat h
take_apart script past seat job id item may c h is =
    let entering = entering_is script past seat job id item may in
    let free : is_free_id script past job id ≡ true = find_passes (is_free_id script past job) (range_with_len 0 (length (inside script past job) + 1)) id
    entering.number_is in
    subst (IsNewlyHeld past (past ++ record { seat = seat; kind = kinds.JobTake job id item } ∷ []) seat) is (record {
      is_claimed = rw (claimed_push past (record { seat = seat; kind = kinds.JobTake job id item }) job, eq-eqb job job refl)
          (omega (arith, entering.item_is));
      apart = λ s k holds other of_job.
          (free_number script past id s k job c holds of_job free, unclaimed script past item s k job c holds of_job entering.item_is);
    })

-- the seat goes on under its number with the least unclaimed item
step_apart : (script : Plan) (past : List Entry) (seat job id item value next : ℕ)
    → may_come script past seat (kinds.JobStep job id item value (Some next)) ≡ true
    → HoldsApart script past → (h : Holding) → record { job = job; id = id; item = next } ≡ h
    → IsNewlyHeld past (past ++ record { seat = seat; kind = kinds.JobStep job id item value (Some next) } ∷ []) seat h
step_apart script past seat job id item value next may c h is =
    subst (IsNewlyHeld past (past ++ record { seat = seat; kind = kinds.JobStep job id item value (Some next) } ∷ []) seat) is (record {
      is_claimed = rw (claimed_push past (record { seat = seat; kind = kinds.JobStep job id item value (Some next) }) job, eq-eqb job job refl)
          (omega (arith, least));
      apart = λ s k holds other of_job. (not_mine s k holds other of_job, unclaimed script past next s k job c holds of_job least);
    })
  where
    least : next ≡ claimed past job
    least = at (leaves script past seat job) (job_step_is script past seat job id item value (Some next) may).next_is
      where
        at : (b : Bool) → Some next ≡ cond b None (Some (claimed past job)) → next ≡ claimed past job
        at true is = absurd cc
        at false is = same_Some next (claimed past job) is

    not_mine : (s : ℕ) (k : Holding) → holding past s ≡ Some k → eqb seat s ≡ false → k.job ≡ job → k.id ≡ id → ⊥
    not_mine s k holds other of_job same = let (mine, mine_is, mine_job, mine_id, mine_item) = job_step_holds script past seat job id item value
        (Some next) may in
        both_ways (eqb seat s) other (eq-eqb seat s (c.one_number seat s mine k mine_is holds (mine_job ∙ sym of_job) (mine_id ∙ sym same)))

-- a seat that goes on with what it holds
same_apart : (script : Plan) (past : List Entry) (e : Entry) → HoldsApart script past → (h : Holding) → holding past e.seat ≡ Some h
    → IsNewlyHeld past (past ++ e ∷ []) e.seat h
same_apart script past e c h is = record {
  is_claimed = omega (arith, c.is_claimed e.seat h is, claimed_push past e h.job);
  apart = λ s k holds other of_job. (
    λ same. both_ways (eqb e.seat s) other (eq-eqb e.seat s (c.one_number e.seat s h k is holds (sym of_job) (sym same))),
    λ same. both_ways (eqb e.seat s) other (eq-eqb e.seat s (c.one_item e.seat s h k is holds (sym of_job) (sym same))),
  );
}

step : (script : Plan) (past : List Entry) (seat : ℕ) (kind : Kind) → seat ≤ script.workers → may_come script past seat kind ≡ true
    → HoldsApart script past → HoldsApart script (past ++ record { seat = seat; kind = kind } ∷ [])
step script past seat (kinds.JobTake job id item) known may c = apart_next script past (record { seat = seat; kind = kinds.JobTake job id item }) known
    (λ h is. take_apart script past seat job id item may c h (same_Some _ h is)) c
step script past seat (kinds.JobStep job id item value (Some next)) known may c =
    apart_next script past (record { seat = seat; kind = kinds.JobStep job id item value (Some next) }) known
    (λ h is. step_apart script past seat job id item value next may c h (same_Some _ h is)) c
step script past seat (kinds.JobStep job id item value None) known may c =
    apart_next script past (record { seat = seat; kind = kinds.JobStep job id item value None }) known (λ h is. absurd (none-some h is)) c
step script past seat kind known may c = apart_next script past (record { seat = seat; kind = kind }) known
    (λ h is. same_apart script past (record { seat = seat; kind = kind }) c h is) c

nothing_held : (script : Plan) → HoldsApart script []
unfolding holding
nothing_held script = record {
  known = λ seat h is. absurd (none-some h is);
  is_claimed = λ seat h is. absurd (none-some h is);
  one_number = λ a b h k is. absurd (none-some h is);
  one_item = λ a b h k is. absurd (none-some h is);
}

-- in every legal history what seats hold is claimed, and no two hold one item of a job, or one number in it
pub legal_holds_apart : (script : Plan) (past : List Entry) → IsLegal script past → HoldsApart script past
legal_holds_apart script = entry_induction script (HoldsApart script) (nothing_held script)
    (λ past e known may c. step script past e.seat e.kind known may c)
