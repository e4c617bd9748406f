-- In a whole log nobody is at anything, and what was begun is done.
-- Cited by `Laws/Whole/Items`, `Laws/Whole/Losing`, `Laws/Whole/MainTasks`, `Laws/Whole/Waiting`, `env_step`.
use Rattle.std.proofs.Common.{◌≡◌, ℕ, ◌≤◌, true, eqb, List, [], length}
use Rattle.std.proofs.Common.{refl, sym, ap, ◌∙◌, Option, Some, None, arith}
use Rattle.std.specs.Prelude.{is_none}
use Rattle.std.proofs.lemmas.Bool.{and_parts}
use Rattle.std.proofs.lemmas.Bool.{true_from_ne_false, both_ways}
use Rattle.std.proofs.lemmas.Option.{none-some}
use Rattle.task_base.specs.Plan.{Plan}
use Rattle.task_base.specs.declared.entry.Entry.{Entry}
use Rattle.list_laws.specs.Lists.{holds_of}
use Rattle.task_model.specs.Posts.{is_taken, is_ended, is_main_taken}
use Rattle.pool_laws.specs.Posts.{is_main_ended}
use Rattle.task_model.specs.Seats.{running, holding, inside, all_seats, is_quiet}
use Rattle.task_model.specs.Jobs.{claimed, done}
use Rattle.list_laws.proofs.Filters.{filter_never}
use Rattle.pool_laws.proofs.Seats.Running.{quiet_is_free}
use Rattle.hist_model.specs.Script.{is_finished, IsWhole}
use Rattle.hist_model.specs.Legal.{IsLegal}
use Rattle.hist_model.proofs.Laws.Claims.{claimed_is}
use Rattle.hist_model.proofs.Laws.HoldsApart.{legal_holds_apart}
use Rattle.hist_model.proofs.Laws.Consistent.{legal_is_consistent}
use Rattle.hist_model.proofs.Laws.OneSeat.{runs_at_one_seat, runs_at_driver}

-- what is no value is none
pub none_of : {A : Type 0} (o : Option A) → ((x : A) → o ≡ Some x → ⊥) → o ≡ None
none_of None h = refl
none_of (Some x) h = absurd (h x refl)

whole_is_quiet : (script : Plan) (log : List Entry) → IsWhole script log → is_quiet script log ≡ true
whole_is_quiet script log whole = (and_parts (is_finished script log) (is_quiet script log) whole).1

free_seat : (script : Plan) (log : List Entry) (seat : ℕ) → IsWhole script log → seat ≤ script.workers
    → (is_none (running log seat) ≡ true) × (is_none (holding log seat) ≡ true)
free_seat script log seat whole known = and_parts (is_none (running log seat)) (is_none (holding log seat))
    (quiet_is_free script log seat (whole_is_quiet script log whole) (omega (arith, known)))

pub nobody_runs : (script : Plan) (log : List Entry) → IsLegal script log → IsWhole script log → (seat : ℕ) → running log seat ≡ None
nobody_runs script log legal whole seat = none_of (running log seat) (λ w runs. both_ways (is_none (running log seat)) (ap is_none runs)
    (free_seat script log seat whole ((legal_is_consistent script log legal w.is_main).runs seat w runs refl).can.known).0)

pub nobody_holds : (script : Plan) (log : List Entry) → IsLegal script log → IsWhole script log → (seat : ℕ) → holding log seat ≡ None
nobody_holds script log legal whole seat = none_of (holding log seat) (λ h holds. both_ways (is_none (holding log seat)) (ap is_none holds)
    (free_seat script log seat whole ((legal_holds_apart script log legal).known seat h holds)).1)

-- What was begun is done.

pub not_none_some : {A : Type 0} (o : Option A) (x : A) → o ≡ None → o ≡ Some x → ⊥
not_none_some o x none some = none-some x (sym none ∙ some)

pub tasks_ended : (script : Plan) (log : List Entry) → IsLegal script log → IsWhole script log → (t : ℕ) → is_taken log t ≡ true → is_ended log t ≡ true
tasks_ended script log legal whole t taken = true_from_ne_false (is_ended log t) (λ open_still.
    let r = runs_at_one_seat script log t legal taken open_still in
    not_none_some (running log r.seat) r.now (nobody_runs script log legal whole r.seat) r.running_is)

pub main_tasks_ended : (script : Plan) (log : List Entry) → IsLegal script log → IsWhole script log → (t : ℕ) → is_main_taken log t ≡ true
    → is_main_ended log t ≡ true
main_tasks_ended script log legal whole t taken = true_from_ne_false (is_main_ended log t) (λ open_still.
    let r = runs_at_driver script log t legal taken open_still in
    not_none_some (running log 0) r.now (nobody_runs script log legal whole 0) r.running_is)

pub items_done : (script : Plan) (log : List Entry) → IsLegal script log → IsWhole script log → (j : ℕ) → claimed log j ≡ done log j
unfolding inside
items_done script log legal whole j =
    let nobody : inside script log j ≡ [] = filter_never (λ seat. holds_of (λ h. eqb h.job j) (holding log seat)) (all_seats script)
    (λ seat. ap (holds_of (λ h. eqb h.job j)) (nobody_holds script log legal whole seat)) in
    omega (arith, claimed_is script log j legal, ap length nobody)
