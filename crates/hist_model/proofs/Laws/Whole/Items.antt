-- In a whole log each claimed item of a job has its step.
-- Cited by `Laws/Whole/Losing`.
use Rattle.std.proofs.Common.{◌≡◌, ℕ, ◌+◌, ◌<◌, ◌≤◌, Bool, true, false, cond, eqb, List, [], ◌∷◌, ◌++◌}
use Rattle.std.proofs.Common.{refl, sym, ap, subst, ◌∙◌, Option, Some, None, inl, inr, arith}
use Rattle.std.specs.Prelude.{◌⊎◌, ◌&&◌, ◌||◌, nat_lt}
use Rattle.std.proofs.Math.Bool.{or-false}
use Rattle.std.proofs.lemmas.List.Folds.{list_any-append}
use Rattle.std.proofs.lemmas.Bool.{and_parts, or_left, or_right, eq-eqb, eqb-true, true≢false}
use Rattle.std.proofs.lemmas.Bool.{ltb-true, ltb-false}
use Rattle.std.proofs.lemmas.Option.{none-some, same_Some}
use Rattle.task_base.specs.Plan.{Plan}
use Rattle.task_base.specs.declared.entry.Entry.{Entry}
use Rattle.task_base.specs.declared.entry.Kind.{Kind}
use Rattle.task_base.specs.declared.entry.Kind.TheVariants as kinds
use Rattle.task_model.specs.Seats.{Holding, holding, holding_after}
use Rattle.task_model.specs.Jobs.{claimed, claims}
use Rattle.task_model.specs.Sources.{leaves}
use Rattle.task_model.proofs.Growth.{claimed_push}
use Rattle.pool_laws.proofs.Seats.Running.{holding_here, holding_other}
use Rattle.hist_model.specs.Script.{IsWhole}
use Rattle.hist_model.specs.Allowed.{may_come}
use Rattle.hist_model.specs.Legal.{IsLegal}
use Rattle.hist_model.specs.Laws.Whole.{steps_item, has_step}
use Rattle.hist_model.proofs.Laws.Legal.{entry_induction}
use Rattle.hist_model.proofs.Laws.JobEntries.{entering_is, job_step_is}
use Rattle.hist_model.proofs.Laws.Whole.Rest.{nobody_holds, not_none_some}

-- a seat holds the item
record SomeSeatHolds (past : List Entry) (j item : ℕ) : Type 0 where
  seat : ℕ
  held : Holding
  holding_is : holding past seat ≡ Some held
  job_is : held.job ≡ j
  item_is : held.item ≡ item

-- each claimed item has its step, or a seat holds it
abbrev AllGoOn : List Entry → Type 0
AllGoOn past = (j item : ℕ) → item < claimed past j → (has_step past j item ≡ true) ⊎ SomeSeatHolds past j item

has_step_push : (past : List Entry) (e : Entry) (j item : ℕ) → has_step (past ++ e ∷ []) j item ≡ (has_step past j item || steps_item j item e.kind)
has_step_push past e j item = list_any-append (λ (x : Entry). steps_item j item x.kind) past (e ∷ [])
    ∙ ap (λ b. has_step past j item || b) (or-false (steps_item j item e.kind))

-- what the entry's seat holds has its step at the entry, or is held on
own_goes_on : (script : Plan) (past : List Entry) (seat : ℕ) (kind : Kind) (h : Holding) → may_come script past seat kind ≡ true → holding past seat ≡ Some h
    → (steps_item h.job h.item kind ≡ true) ⊎ (holding_after (Some h) kind ≡ Some h)
own_goes_on script past seat (kinds.JobTake job id item) h may holds =
    absurd (not_none_some (holding past seat) h (entering_is script past seat job id item may).holds_nothing holds)
own_goes_on script past seat (kinds.JobStep job id item value next) h may holds =
    inl (subst (λ (x : Holding). (eqb job x.job && eqb item x.item) ≡ true)
    (same_Some (record { job = job; id = id; item = item }) h (sym (job_step_is script past seat job id item value next may).held ∙ holds))
    (rw (eq-eqb job job refl, eq-eqb item item refl) refl))
own_goes_on script past seat kind h may holds = inr refl

-- a seat that claims an item holds it: the least unclaimed one
claims_it : (script : Plan) (past : List Entry) (seat j : ℕ) (kind : Kind) (now : Option Holding) → may_come script past seat kind ≡ true
    → claims j kind ≡ true → (h : Holding) × (holding_after now kind ≡ Some h) × (h.job ≡ j) × (h.item ≡ claimed past j)
claims_it script past seat j (kinds.JobTake job id item) now may claims_one =
    let same : job ≡ j = eqb-true job j claims_one in
    (record { job = job; id = id; item = item }, refl, same, (entering_is script past seat job id item may).item_is ∙ ap (claimed past) same)
claims_it script past seat j (kinds.JobStep job id item value (Some next)) now may claims_one =
    let same : job ≡ j = eqb-true job j (and_parts (eqb job j) true claims_one).0 in (
      record { job = job; id = id; item = next },
      refl,
      same,
      least (leaves script past seat job)
          (job_step_is script past seat job id item value (Some next) may).next_is ∙ ap (claimed past) same,
    )
  where
    least : (b : Bool) → Some next ≡ cond b None (Some (claimed past job)) → next ≡ claimed past job
    least true is = absurd (none-some next (sym is))
    least false is = same_Some next (claimed past job) is
claims_it script past seat j (kinds.JobStep job id item value None) now may claims_one =
    absurd (true≢false (sym (and_parts (eqb job j) false claims_one).1))
claims_it script past seat j kind now may claims_one = absurd (true≢false (sym claims_one))

items_next : (script : Plan) (past : List Entry) (e : Entry) → may_come script past e.seat e.kind ≡ true → AllGoOn past → AllGoOn (past ++ e ∷ [])
items_next script past e may all j item below = by_order (nat_lt item (claimed past j)) refl
  where
    stepped : (has_step past j item || steps_item j item e.kind) ≡ true
        → (has_step (past ++ e ∷ []) j item ≡ true) ⊎ SomeSeatHolds (past ++ e ∷ []) j item
    stepped is = inl (has_step_push past e j item ∙ is)

    own : (h : SomeSeatHolds past j item) → eqb e.seat h.seat ≡ true
        → (steps_item h.held.job h.held.item e.kind ≡ true) ⊎ (holding_after (Some h.held) e.kind ≡ Some h.held)
        → (has_step (past ++ e ∷ []) j item ≡ true) ⊎ SomeSeatHolds (past ++ e ∷ []) j item
    own h here (inl is) = stepped (or_right (has_step past j item) (steps_item j item e.kind)
        (ap (λ n. steps_item n item e.kind) (sym h.job_is) ∙ ap (λ n. steps_item h.held.job n e.kind) (sym h.item_is) ∙ is))
    own h here (inr is) = inr (record {
      seat = h.seat;
      held = h.held;
      holding_is = holding_here past e h.seat here
          ∙ ap (λ o. holding_after o e.kind) (ap (holding past) (eqb-true e.seat h.seat here) ∙ h.holding_is) ∙ is;
      job_is = h.job_is;
      item_is = h.item_is;
    })

    held_on : (h : SomeSeatHolds past j item) → (b : Bool) → eqb e.seat h.seat ≡ b
        → (has_step (past ++ e ∷ []) j item ≡ true) ⊎ SomeSeatHolds (past ++ e ∷ []) j item
    held_on h true here = own h here (own_goes_on script past e.seat e.kind h.held may (ap (holding past) (eqb-true e.seat h.seat here) ∙ h.holding_is))
    held_on h false other = inr (record {
      seat = h.seat;
      held = h.held;
      holding_is = holding_other past e h.seat other ∙ h.holding_is;
      job_is = h.job_is;
      item_is = h.item_is;
    })

    before : (has_step past j item ≡ true) ⊎ SomeSeatHolds past j item
        → (has_step (past ++ e ∷ []) j item ≡ true) ⊎ SomeSeatHolds (past ++ e ∷ []) j item
    before (inl is) = stepped (or_left (has_step past j item) (steps_item j item e.kind) is)
    before (inr h) = held_on h (eqb e.seat h.seat) refl

    now : (b : Bool) → claims j e.kind ≡ b → nat_lt item (claimed past j) ≡ false
        → (has_step (past ++ e ∷ []) j item ≡ true) ⊎ SomeSeatHolds (past ++ e ∷ []) j item
    now true claims_one more =
        let (h, is, job_is, item_is) = claims_it script past e.seat j e.kind (holding past e.seat) may claims_one in
        let longer : claimed (past ++ e ∷ []) j ≡ claimed past j + 1 = claimed_push past e j ∙ ap (λ (b : Bool). claimed past j + cond b 1 0) claims_one in
        let least : claimed past j ≤ item = ltb-false item (claimed past j) more in
        inr (record {
          seat = e.seat;
          held = h;
          holding_is = holding_here past e e.seat (eq-eqb e.seat e.seat refl) ∙ is;
          job_is = job_is;
          item_is = omega (arith, item_is, below, longer, least);
        })
    now false claims_none more =
        let as_long : claimed (past ++ e ∷ []) j ≡ claimed past j + 0 = claimed_push past e j ∙ ap (λ (b : Bool). claimed past j + cond b 1 0) claims_none in
        absurd (omega (arith, below, as_long, ltb-false item (claimed past j) more))

    by_order : (b : Bool) → nat_lt item (claimed past j) ≡ b → (has_step (past ++ e ∷ []) j item ≡ true) ⊎ SomeSeatHolds (past ++ e ∷ []) j item
    by_order true less = before (all j item (ltb-true item (claimed past j) less))
    by_order false more = now (claims j e.kind) refl more

nothing_claimed : AllGoOn []
unfolding claimed
nothing_claimed j item below = absurd (omega (arith, below))

pub items_stepped : (script : Plan) (log : List Entry) → IsLegal script log → IsWhole script log → (j item : ℕ) → item < claimed log j
    → has_step log j item ≡ true
items_stepped script log legal whole j item below =
    by_side (entry_induction script AllGoOn nothing_claimed (λ past e known may all. items_next script past e may all)
    log legal j item below)
  where
    by_side : (has_step log j item ≡ true) ⊎ SomeSeatHolds log j item → has_step log j item ≡ true
    by_side (inl is) = is
    by_side (inr h) = absurd (not_none_some (holding log h.seat) h.held (nobody_holds script log legal whole h.seat) h.holding_is)
