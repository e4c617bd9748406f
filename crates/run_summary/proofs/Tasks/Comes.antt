-- How an entry of a calm script comes, and what the driver does at an action.
-- Cited by `Tasks/Posted`, `Tasks/Pumped`, `Tasks/Rest`.
use Rattle.std.proofs.Common.{◌≡◌, ℕ, Bool, true, eqb, List, [], ◌∷◌, refl, sym, ap, subst, ◌∙◌, Some, inl, inr, ⊎_elim, arith}
use Rattle.std.specs.Prelude.{◌⊎◌, ◌||◌, filter}
use Rattle.std.proofs.lemmas.Bool.{and_parts, eqb-true, or_cases, true≢false, both_ways}
use Rattle.std.proofs.lemmas.Option.{same_Some}
use Rattle.task_base.specs.Plan.{Plan}
use Rattle.task_base.specs.Steps.{is_act}
use Rattle.task_base.specs.declared.entry.Entry.{Entry}
use Rattle.task_base.specs.declared.entry.Kind.{Kind}
use Rattle.task_base.specs.declared.entry.Kind.TheVariants as kinds
use Rattle.task_base.specs.declared.script.Action.{Action}
use Rattle.list_laws.specs.Lists.{holds_of}
use Rattle.task_model.specs.Seats.{Running, Holding, running, holding, steps_of}
use Rattle.hist_model.specs.Views.{own_entries}
use Rattle.hist_model.specs.Script.{Current, current, wants, is_wanted}
use Rattle.hist_model.specs.Allowed.{by_script, by_task, may_come}
use Rattle.hist_model.specs.Legal.{IsLegal}
use Rattle.hist_model.specs.Open.{IsClosed}
use Rattle.hist_model.specs.Laws.Agenda.{Agenda, first_of, current_of}
use Rattle.hist_model.specs.Laws.Consistent.{is_pump, is_join}
use Rattle.hist_model.proofs.Laws.Agenda.{current_is_first}
use Rattle.hist_model.proofs.Laws.OneThing.{legal_does_one_thing, job_step_holds}
use Rattle.hist_model.proofs.Laws.Open.{closed_enters, closed_leaves, closed_main, closed_post, closed_wanted}
use Rattle.hist_model.proofs.Laws.Takes.{IsReadyWorker, ready_worker, end_is, main_end_is, job_take_is}
use Rattle.run_summary.proofs.Calm.{IsCalmScript, none_by_task}
use Rattle.run_summary.proofs.Tasks.Driver.{plan_of}

-- how an entry comes: by the script, by a free worker, or by a seat that runs a task or holds an item
pub data Comes (script : Plan) (past : List Entry) (seat : ℕ) (kind : Kind) : Type 0 where
  Wanted : by_script script past seat kind ≡ true → Comes script past seat kind
  Taken : IsReadyWorker script past seat → Comes script past seat kind
  Ran : (w : Running) → running past seat ≡ Some w → Comes script past seat kind
  Held : (h : Holding) → holding past seat ≡ Some h → Comes script past seat kind

-- a post comes by the script, where no task has an act step
posted : (script : Plan) (past : List Entry) (seat : ℕ) (kind : Kind) → ((t : ℕ) → filter is_act (steps_of script t) ≡ [])
    → (by_script script past seat kind || by_task script past seat kind) ≡ true → by_script script past seat kind ≡ true
posted script past seat kind no_acts h = ⊎_elim (λ wanted. wanted)
    (λ acts. absurd (both_ways (by_task script past seat kind) (none_by_task script past seat kind no_acts) acts))
    (or_cases (by_script script past seat kind) (by_task script past seat kind) h)

-- so does a post of a calm script to the pool that may come, and one to a main queue
pub post_comes : (script : Plan) (past : List Entry) (seat task runner delay : ℕ) (ok : Bool) → IsCalmScript script
    → may_come script past seat (kinds.Post task runner delay ok) ≡ true → by_script script past seat (kinds.Post task runner delay ok) ≡ true
unfolding may_come
post_comes script past seat task runner delay ok calm h = posted script past seat (kinds.Post task runner delay ok) calm.no_acts
    (and_parts _ _ (sym (closed_post script past seat task runner delay ok calm.closed) ∙ h)).0

pub main_comes : (script : Plan) (past : List Entry) (seat task queue delay : ℕ) (ok : Bool) → IsCalmScript script
    → may_come script past seat (kinds.Main task queue delay ok) ≡ true → by_script script past seat (kinds.Main task queue delay ok) ≡ true
unfolding may_come
main_comes script past seat task queue delay ok calm h = posted script past seat (kinds.Main task queue delay ok) calm.no_acts
    (and_parts _ _ (sym (closed_main script past seat task queue delay ok calm.closed) ∙ h)).0

-- each entry comes in one of these ways
pub comes : (script : Plan) (past : List Entry) (seat : ℕ) (kind : Kind) → IsCalmScript script → may_come script past seat kind ≡ true
    → Comes script past seat kind
unfolding may_come
comes script past seat (kinds.Post task runner delay ok) calm h =
    Comes.Wanted (post_comes script past seat task runner delay ok calm h)
comes script past seat (kinds.Main task queue delay ok) calm h =
    Comes.Wanted (main_comes script past seat task queue delay ok calm h)
comes script past seat (kinds.Tick now) calm h = Comes.Wanted (and_parts _ _ (and_parts _ _ h).0).0
comes script past seat (kinds.Take task runner found) calm h = Comes.Taken (ready_worker script past seat (and_parts _ _ h).0)
comes script past seat (kinds.End task left) calm h = let (w, is, pool, same) = end_is script past seat task left h in Comes.Ran w is
comes script past seat (kinds.Enter task scope) calm h =
    absurd (both_ways (by_task script past seat (kinds.Enter task scope)) (none_by_task script past seat (kinds.Enter task scope) calm.no_acts)
    (sym (closed_enters script past seat task scope calm.closed) ∙ h))
comes script past seat (kinds.Leave task) calm h =
    absurd (both_ways (by_task script past seat (kinds.Leave task)) (none_by_task script past seat (kinds.Leave task) calm.no_acts)
    (sym (closed_leaves script past seat task calm.closed) ∙ h))
comes script past seat (kinds.MainTake task queue found) calm h = Comes.Wanted (and_parts _ _ (and_parts _ _ h).0).0
comes script past seat (kinds.MainEnd task left) calm h = let (w, is, main, same) = main_end_is script past seat task left h in Comes.Ran w is
comes script past seat kinds.MainNone calm h = Comes.Wanted (and_parts _ _ h).0
comes script past seat (kinds.JobPost job ok) calm h = Comes.Wanted (and_parts _ _ h).0
comes script past seat (kinds.JobTake job id item) calm h =
    ⊎_elim (λ k. Comes.Taken k.0) (λ k. Comes.Wanted k.0) (job_take_is script past seat job id item h)
comes script past seat (kinds.JobStep job id item value next) calm h =
    let (held, is, job_is, id_is, item_is) = job_step_holds script past seat job id item value next h in Comes.Held held is
comes script past seat (kinds.Cancelled job) calm h = Comes.Wanted (and_parts _ _ (and_parts _ _ h).0).0
comes script past seat (kinds.Joined job reply) calm h = Comes.Wanted (and_parts _ _ (and_parts _ _ h).0).0
comes script past seat kinds.Idle calm h = Comes.Wanted (and_parts _ _ (and_parts _ _ h).0).0
comes script past seat kinds.Done calm h = Comes.Wanted (and_parts _ _ (and_parts _ _ h).0).0
comes script past seat kind calm h = Comes.Wanted h

-- ---- what the driver is at

-- the action that the driver is at wants the entry
pub record WantedAt (script : Plan) (past : List Entry) (kind : Kind) : Type 0 where
  pub action : Action
  pub rest : List Action
  pub made : List Entry
  pub plan_is : plan_of script past ≡ record { actions = action ∷ rest; made = made }
  pub wants_it : wants (own_entries 0 past) action made kind ≡ true

-- what comes by the script is wanted by the first action that is left
pub wanted_at : (script : Plan) (past : List Entry) (seat : ℕ) (kind : Kind) → IsClosed script → by_script script past seat kind ≡ true
    → (seat ≡ 0) × WantedAt script past kind
unfolding by_script
wanted_at script past seat kind closed h =
    let parts = and_parts (eqb seat 0) (is_wanted script (own_entries 0 past) kind) h in (
      eqb-true seat 0 parts.0,
      at (plan_of script past) refl
          (ap (holds_of (λ c. wants (own_entries 0 past) c.action c.made kind)) (sym (current_is_first script (own_entries 0 past)))
          ∙ (sym (closed_wanted script (own_entries 0 past) kind closed) ∙ parts.1)),
    )
  where
    at : (a : Agenda) → plan_of script past ≡ a → holds_of (λ c. wants (own_entries 0 past) c.action c.made kind) (current_of a) ≡ true
        → WantedAt script past kind
    at a is k = by_actions a.actions refl k
      where
        by_actions : (xs : List Action) → a.actions ≡ xs → holds_of (λ c. wants (own_entries 0 past) c.action c.made kind) (first_of xs a.made) ≡ true
            → WantedAt script past kind
        by_actions [] same none = absurd (true≢false (sym none))
        by_actions (x ∷ rest) same wants_it = record {
          action = x;
          rest = rest;
          made = a.made;
          plan_is = is ∙ ap (λ ys. record { actions = ys; made = a.made }) same;
          wants_it = wants_it;
        }

-- what the driver enters at an action is wanted by it, or the action is a pump or a join
pub driver_does : (script : Plan) (past : List Entry) (kind : Kind) (x : Action) (rest : List Action) (made : List Entry)
    → IsCalmScript script → IsLegal script past → may_come script past 0 kind ≡ true
    → plan_of script past ≡ record { actions = x ∷ rest; made = made }
    → (wants (own_entries 0 past) x made kind ≡ true) ⊎ ((is_pump x ≡ true) ⊎ (is_join x ≡ true))
driver_does script past kind x rest made calm legal may plan_is = by_comes (comes script past 0 kind calm may)
  where
    current_is : current script (own_entries 0 past) ≡ Some (record { action = x; made = made })
    current_is = current_is_first script (own_entries 0 past) ∙ ap current_of plan_is

    by_comes : Comes script past 0 kind → (wants (own_entries 0 past) x made kind ≡ true) ⊎ ((is_pump x ≡ true) ⊎ (is_join x ≡ true))
    by_comes (Comes.Wanted wanted) =
        let w : WantedAt script past kind = (wanted_at script past 0 kind calm.closed wanted).1 in
        inl (subst (λ (a : Agenda). holds_of (λ c. wants (own_entries 0 past) c.action c.made kind) (current_of a) ≡ true) (sym w.plan_is ∙ plan_is) w.wants_it)
    by_comes (Comes.Taken worker) = absurd (omega (arith, worker.worker))
    by_comes (Comes.Ran w runs) =
        let (c, is, pump) = (legal_does_one_thing script past legal).pumps calm.closed w runs in
        inr (inl (ap (λ (d : Current). is_pump d.action) (same_Some _ c (sym current_is ∙ is)) ∙ pump))
    by_comes (Comes.Held h holds) =
        let (c, is, join) = (legal_does_one_thing script past legal).joins calm.closed h holds in
        inr (inr (ap (λ (d : Current). is_join d.action) (same_Some _ c (sym current_is ∙ is)) ∙ join))
