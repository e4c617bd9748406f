-- The items of the job of a generated script: all of them are done in each whole log, and what they give.
-- Cited by `Items`.
use Rattle.std.proofs.Common.{◌≡◌, ℕ, zero, suc, ◌+◌, ◌<◌, ◌≤◌, Bool, true, false, cond, eqb, List, [], ◌∷◌, ◌++◌, refl}
use Rattle.std.proofs.Common.{sym, ap, ◌∙◌, Option, Some, None, ◌⊎◌, inl, inr, arith, add-one, add-zero, leb}
use Rattle.std.specs.Prelude.{◌&&◌, is_some, sum_by}
use Rattle.std.specs.List.{range_with_len}
use Rattle.std.specs.Option.{option_map_or}
use Rattle.std.proofs.lemmas.Bool.{eq-eqb, and_parts, cases_eq, ne_eqb, leb-true}
use Rattle.std.proofs.lemmas.Option.{none-some, same_Some}
use Rattle.std.proofs.lemmas.List.Sums.{sum_by-cons, sum_by_push}
use Rattle.task_base.specs.Plan.{Plan}
use Rattle.task_base.specs.declared.entry.Entry.{Entry}
use Rattle.task_base.specs.declared.entry.Kind.{Kind}
use Rattle.task_base.specs.declared.entry.Kind.TheVariants as kinds
use Rattle.list_laws.specs.Lists.{count}
use Rattle.list_laws.proofs.Places.{count-push}
use Rattle.task_model.specs.Seats.{Holding, holding, holding_after, all_seats}
use Rattle.task_model.specs.Jobs.{claimed, claims, done, value_by, items_of, item_value}
use Rattle.task_model.specs.Sources.{leaves, next_item}
use Rattle.task_model.proofs.Growth.{claimed_push, done_push}
use Rattle.pool_laws.proofs.Seats.Running.{holding_here, holding_other}
use Rattle.hist_model.specs.Laws.Jobs.{IsJobStep}
use Rattle.hist_model.specs.Allowed.{may_come, IsAllowed}
use Rattle.hist_model.specs.Legal.{IsLegal}
use Rattle.hist_model.proofs.Laws.Legal.{legal_induction, legal_next}
use Rattle.hist_model.proofs.Laws.HoldsApart.{legal_holds_apart}
use Rattle.hist_model.proofs.Laws.JobEntries.{entering_is, job_step_is}
use Rattle.hist_model.proofs.Laws.Entries.Jobs.{claimed_within}
use Rattle.run_summary.specs.Summary.{ends_item, value_in}

-- no job but the first has an item
abbrev pub HasOneJob : Plan → Type 0
HasOneJob script = (j : ℕ) → 1 ≤ items_of script j → j ≡ 0

-- only the first job is entered, and only items of it end
enters_first : (script : Plan) (past : List Entry) (seat job id item : ℕ) → HasOneJob script
    → IsLegal script (past ++ record { seat = seat; kind = kinds.JobTake job id item } ∷ []) → job ≡ 0
enters_first script past seat job id item one legal = one job (omega (arith, some, claimed_within script (past ++ e ∷ []) job legal))
  where
    e : Entry
    e = record { seat = seat; kind = kinds.JobTake job id item }

    some : claimed (past ++ e ∷ []) job ≡ claimed past job + 1
    some = claimed_push past e job ∙ rw (eq-eqb job job refl) refl

-- and only its items end
steps_first : (script : Plan) (past : List Entry) (seat job id item value : ℕ) (next : Option ℕ) → HasOneJob script → IsLegal script past
    → may_come script past seat (kinds.JobStep job id item value next) ≡ true → job ≡ 0
steps_first script past seat job id item value next one legal may =
    let step = job_step_is script past seat job id item value next may in
    let claims_it : item < claimed past job =
    (legal_holds_apart script past legal).is_claimed seat (record { job = job; id = id; item = item }) step.held in
    one job (omega (arith, claims_it, claimed_within script past job legal))

-- the items that are done are those of the first job
ends_one : (script : Plan) (past : List Entry) (seat : ℕ) (kind : Kind) → HasOneJob script → IsLegal script past → may_come script past seat kind ≡ true
    → ends_item kind ≡ is_some (value_by 0 kind)
ends_one script past seat (kinds.JobStep job id item value next) one legal may =
    rw (steps_first script past seat job id item value next one legal may) refl
ends_one script past seat kind one legal may = refl

-- so the entries that end an item are as many as the items of the first job that are done
pub done_items : (script : Plan) → HasOneJob script → (past : List Entry) → IsLegal script past → count (λ e. ends_item e.kind) past ≡ done past 0
unfolding done
done_items script one = legal_induction script (λ past. count (λ e. ends_item e.kind) past ≡ done past 0) refl (λ past e legal allowed all.
    let may = (and_parts _ (may_come script past e.seat e.kind) allowed).1 in
    count-push (λ x. ends_item x.kind) past e
    ∙ rw (all, ends_one script past e.seat e.kind one legal may) (sym (done_push past e 0)))

-- the value of what a seat holds, as an item of the first job
abbrev pub value_held : Plan → Option Holding → ℕ
value_held script held = option_map_or (λ h. item_value script 0 h.item) held 0

-- the values of what the seats hold, added up
abbrev pub values_held : Plan → List Entry → ℕ
values_held script past = sum_by (λ s. value_held script (holding past s)) (all_seats script)

-- the first values, added up
unfoldable pub values_below : (ℕ → ℕ) → ℕ → ℕ
values_below value zero = 0
values_below value (suc n) = values_below value n + value n

-- one more value
values_more : (value : ℕ → ℕ) (n : ℕ) → values_below value (n + 1) ≡ values_below value n + value n
unfolding values_below
values_more value n = rw (add-one n) refl

-- numbers of a row that give the same add up to the same
sum_same : (f g : ℕ → ℕ) (a n : ℕ) → ((k : ℕ) → a ≤ k → g k ≡ f k) → sum_by g (range_with_len a n) ≡ sum_by f (range_with_len a n)
sum_same f g a zero same = refl
sum_same f g a (suc n) same = omega (
  arith,
  sum_by-cons f a (range_with_len (a + 1) n),
  sum_by-cons g a (range_with_len (a + 1) n),
  same a (omega arith),
  sum_same f g (a + 1) n (λ k le. same k (omega (arith, le))),
)

-- one number of a row that gives another value than before
sum_changes : (f g : ℕ → ℕ) (s a n : ℕ) → a ≤ s → s < a + n → ((k : ℕ) → (s ≡ k → ⊥) → g k ≡ f k)
    → sum_by g (range_with_len a n) + f s ≡ sum_by f (range_with_len a n) + g s
sum_changes f g s a zero from to same = absurd (omega (arith, from, to))
sum_changes f g s a (suc n) from to same = at (cases_eq s a) (sum_changes f g s (a + 1) n)
  where
    rest : (s ≡ a → ⊥) → a + 1 ≤ s
    rest other = grind (arith, from, other)

    at : (s ≡ a) ⊎ (s ≡ a → ⊥)
        → (a + 1 ≤ s → s < a + 1 + n → ((k : ℕ) → (s ≡ k → ⊥) → g k ≡ f k)
        → sum_by g (range_with_len (a + 1) n) + f s ≡ sum_by f (range_with_len (a + 1) n) + g s)
        → sum_by g (range_with_len a (suc n)) + f s ≡ sum_by f (range_with_len a (suc n)) + g s
    at (inl is) next = rw is (omega (
      arith,
      sum_by-cons f a (range_with_len (a + 1) n),
      sum_by-cons g a (range_with_len (a + 1) n),
      sum_same f g (a + 1) n (λ k le. same k (λ here. omega (arith, is, here, le))),
    ))
    at (inr other) next = omega (
      arith,
      sum_by-cons f a (range_with_len (a + 1) n),
      sum_by-cons g a (range_with_len (a + 1) n),
      same a other,
      next (rest other) (omega (arith, to)) same,
    )

-- what the values of an entry, of its seat's item before it and behind it, and of a claimed item have in common
Balances : Plan → List Entry → ℕ → Kind → Type 0
Balances script past seat kind =
    value_in kind + value_held script (holding_after (holding past seat) kind)
    ≡ value_held script (holding past seat) + cond (claims 0 kind) (item_value script 0 (claimed past 0)) 0

-- the entering of a job claims an item that its seat holds then
take_balances : (script : Plan) (past : List Entry) (seat job id item : ℕ) → job ≡ 0 → may_come script past seat (kinds.JobTake job id item) ≡ true
    → Balances script past seat (kinds.JobTake job id item)
unfolding Balances
take_balances script past seat job id item first may =
    let enter = entering_is script past seat job id item may in
    rw (enter.holds_nothing, enter.item_is, first) refl

-- a step of a job ends the item that its seat held, and claims the one that it holds then, if there is one
step_balances : (script : Plan) (past : List Entry) (seat job id item value : ℕ) (next : Option ℕ) → job ≡ 0
    → may_come script past seat (kinds.JobStep job id item value next) ≡ true → Balances script past seat (kinds.JobStep job id item value next)
unfolding Balances
step_balances script past seat job id item value next first may = at next step.next_is
  where
    step : IsJobStep script past seat job id item value next
    step = job_step_is script past seat job id item value next may

    value_is : value ≡ item_value script 0 item
    value_is = step.value_is ∙ ap (λ j. item_value script j item) first

    least : (n : ℕ) (b : Bool) → Some n ≡ cond b None (Some (claimed past job)) → n ≡ claimed past 0
    least n true is = absurd (none-some n (sym is))
    least n false is = same_Some n (claimed past job) is ∙ ap (claimed past) first

    at : (o : Option ℕ) → o ≡ next_item script past seat job
        → value + value_held script (holding_after (holding past seat) (kinds.JobStep job id item value o))
        ≡ value_held script (holding past seat) + cond (eqb job 0 && is_some o) (item_value script 0 (claimed past 0)) 0
    at None is = rw (step.held, first) (omega (arith, value_is))
    at (Some n) is = rw (step.held, first, least n (leaves script past seat job) is) (omega (arith, value_is))

-- any other entry leaves what its seat holds
balances : (script : Plan) (past : List Entry) (e : Entry) → HasOneJob script → IsLegal script past → IsAllowed script past e
    → Balances script past e.seat e.kind
unfolding Balances
balances script past e one legal allowed = at e.seat e.kind (legal_next script past e legal allowed)
    (and_parts _ (may_come script past e.seat e.kind) allowed).1
  where
    at : (seat : ℕ) (kind : Kind) → IsLegal script (past ++ record { seat = seat; kind = kind } ∷ []) → may_come script past seat kind ≡ true
        → Balances script past seat kind
    at seat (kinds.JobTake job id item) later may =
        take_balances script past seat job id item (enters_first script past seat job id item one later) may
    at seat (kinds.JobStep job id item value next) later may = step_balances script past seat job id item value next
        (steps_first script past seat job id item value next one legal may) may
    at seat kind later may = omega arith

-- one more entry adds to what the seats hold what its own seat then holds in place of what it held
held_next : (script : Plan) (past : List Entry) (e : Entry) → e.seat ≤ script.workers
    → values_held script (past ++ e ∷ []) + value_held script (holding past e.seat)
    ≡ values_held script past + value_held script (holding_after (holding past e.seat) e.kind)
held_next script past e known = sum_changes (λ s. value_held script (holding past s)) (λ s. value_held script (holding (past ++ e ∷ []) s)) e.seat 0
    (script.workers + 1) (omega arith) (omega (arith, known))
    (λ k other. ap (value_held script) (holding_other past e k (ne_eqb e.seat k other)))
    ∙ ap (λ h. values_held script past + value_held script h) (holding_here past e e.seat (eq-eqb e.seat e.seat refl))

-- the values of the items that are done or held are those of the claimed items
unfoldable pub AddsUp : Plan → List Entry → Type 0
AddsUp script past = sum_by (λ e. value_in e.kind) past + values_held script past ≡ values_below (item_value script 0) (claimed past 0)

-- a claim adds the value of the least unclaimed item
claims_more : (script : Plan) (past : List Entry) (e : Entry)
    → values_below (item_value script 0) (claimed (past ++ e ∷ []) 0)
    ≡ values_below (item_value script 0) (claimed past 0) + cond (claims 0 e.kind) (item_value script 0 (claimed past 0)) 0
claims_more script past e = rw (claimed_push past e 0) (at (claims 0 e.kind))
  where
    at : (b : Bool) → values_below (item_value script 0) (claimed past 0 + cond b 1 0)
        ≡ values_below (item_value script 0) (claimed past 0) + cond b (item_value script 0 (claimed past 0)) 0
    at true = values_more (item_value script 0) (claimed past 0)
    at false = rw (add-zero (claimed past 0)) (omega arith)

-- one more entry keeps that
adds_up_next : (script : Plan) (past : List Entry) (e : Entry) → HasOneJob script → IsLegal script past → IsAllowed script past e → AddsUp script past
    → AddsUp script (past ++ e ∷ [])
unfolding AddsUp Balances
adds_up_next script past e one legal allowed up = omega (
  arith,
  up,
  sum_by_push (λ x. value_in x.kind) past e,
  claims_more script past e,
  balances script past e one legal allowed,
  held_next script past e
      (leb-true e.seat script.workers (and_parts (leb e.seat script.workers) _ allowed).0),
)

-- it holds before the first entry
nothing_adds_up : (script : Plan) → AddsUp script []
unfolding AddsUp claimed holding values_below
nothing_adds_up script = omega (arith, none)
  where
    sum_nothing : (a n : ℕ) → sum_by (λ s. 0) (range_with_len a n) ≡ 0
    sum_nothing a zero = refl
    sum_nothing a (suc n) = omega (arith, sum_by-cons (λ (s : ℕ). 0) a (range_with_len (a + 1) n), sum_nothing (a + 1) n)

    none : values_held script [] ≡ 0
    none = sum_nothing 0 (script.workers + 1)

-- and so in every legal log of a script with one job
pub adds_up : (script : Plan) → HasOneJob script → (past : List Entry) → IsLegal script past → AddsUp script past
adds_up script one = legal_induction script (AddsUp script) (nothing_adds_up script)
    (λ past e legal allowed up. adds_up_next script past e one legal allowed up)
