-- What the script wants of the driver, and what a task enters by its next act step.
-- Cited by `Laws/Ways`, `env_core`, `situation`.
use Rattle.std.proofs.Common.{◌≡◌, ℕ, Bool, true, eqb, List, refl, sym, ap, subst, ◌∙◌, Option, Some, None}
use Rattle.std.proofs.lemmas.Bool.{and_parts, eqb-true, true≢false}
use Rattle.std.proofs.lemmas.Option.{same_Some}
use Rattle.std.specs.Prelude.{◌&&◌, is_none, filter, slice_get}
use Rattle.task_base.specs.Plan.{Plan}
use Rattle.task_base.specs.Steps.{is_act}
use Rattle.task_base.specs.declared.entry.Entry.{Entry}
use Rattle.task_base.specs.declared.entry.Kind.{Kind}
use Rattle.task_base.specs.declared.entry.Kind.TheVariants as kinds
use Rattle.task_base.specs.declared.script.Action.{Action}
use Rattle.task_base.specs.declared.script.Action.TheVariants as actions
use Rattle.task_base.specs.declared.step.Step.{Step}
use Rattle.task_base.specs.declared.step.Step.TheVariants as steps
use Rattle.list_laws.specs.Lists.{holds_of}
use Rattle.task_model.specs.Seats.{Holding, Running, acts_done, holding, next_act, running, steps_of}
use Rattle.hist_model.specs.Allowed.{by_script, by_task, enters}
use Rattle.hist_model.specs.Laws.Consistent.{is_join, is_pump}
use Rattle.hist_model.specs.Legal.{IsLegal}
use Rattle.hist_model.specs.Open.{IsClosed}
use Rattle.hist_model.specs.Script.{Current, current, wants}
use Rattle.hist_model.specs.Views.{own_entries}
use Rattle.hist_model.proofs.Laws.Choice.{Found, found}
use Rattle.hist_model.proofs.Laws.OneThing.{legal_does_one_thing, wanted_by}
use Rattle.hist_model.proofs.Laws.Own.{holding_own, running_own}

-- an action that wants a post is that post
pub wants_post : (own : List Entry) (action : Action) (made : List Entry) (task runner delay : ℕ) (ok : Bool)
    → wants own action made (kinds.Post task runner delay ok) ≡ true → action ≡ actions.Post task runner delay
wants_post own (actions.Post t r d) made task runner delay ok h =
    let outer = and_parts (eqb task t && eqb runner r) (eqb delay d) h in
    let inner = and_parts (eqb task t) (eqb runner r) outer.0 in
    rw (eqb-true task t inner.0, eqb-true runner r inner.1, eqb-true delay d outer.1) refl
wants_post own action made task runner delay ok h = absurd cc

-- so is one that wants a post to a main queue
pub wants_main : (own : List Entry) (action : Action) (made : List Entry) (task queue delay : ℕ) (ok : Bool)
    → wants own action made (kinds.Main task queue delay ok) ≡ true → action ≡ actions.Main task queue delay
wants_main own (actions.Main t q d) made task queue delay ok h =
    let outer = and_parts (eqb task t && eqb queue q) (eqb delay d) h in
    let inner = and_parts (eqb task t) (eqb queue q) outer.0 in
    rw (eqb-true task t inner.0, eqb-true queue q inner.1, eqb-true delay d outer.1) refl
wants_main own action made task queue delay ok h = absurd cc

-- a step that enters a post is that post
pub enters_post : (t : ℕ) (step : Step) (task runner delay : ℕ) (ok : Bool) → enters t step (kinds.Post task runner delay ok) ≡ true
    → step ≡ steps.Post task runner delay
enters_post t (steps.Post u r d) task runner delay ok h =
    let outer = and_parts (eqb task u && eqb runner r) (eqb delay d) h in
    let inner = and_parts (eqb task u) (eqb runner r) outer.0 in
    rw (eqb-true task u inner.0, eqb-true runner r inner.1, eqb-true delay d outer.1) refl
enters_post t step task runner delay ok h = absurd cc

-- a step that enters a post to a main queue is that post
pub enters_main : (t : ℕ) (step : Step) (task queue delay : ℕ) (ok : Bool) → enters t step (kinds.Main task queue delay ok) ≡ true
    → step ≡ steps.Main task queue delay
enters_main t (steps.Main u q d) task queue delay ok h =
    let outer = and_parts (eqb task u && eqb queue q) (eqb delay d) h in
    let inner = and_parts (eqb task u) (eqb queue q) outer.0 in
    rw (eqb-true task u inner.0, eqb-true queue q inner.1, eqb-true delay d outer.1) refl
enters_main t step task queue delay ok h = absurd cc

-- a seat enters the next act step of the task that it runs
pub record EntersStep (script : Plan) (past : List Entry) (seat : ℕ) (kind : Kind) : Type 0 where
  pub now : Running
  pub runs : running past seat ≡ Some now
  pub step : Step
  pub is_next : slice_get (filter is_act (steps_of script now.task)) (acts_done past seat) ≡ Some step
  pub enters : enters now.task step kind ≡ true

-- the next act step is one of the task that the seat runs
pub next_is_of : (script : Plan) (past : List Entry) (seat : ℕ) (w : Running) (step : Step) → running past seat ≡ Some w
    → next_act script past seat ≡ Some step → slice_get (filter is_act (steps_of script w.task)) (acts_done past seat) ≡ Some step
next_is_of script past seat w step runs next = sym here ∙ next
  where
    here : next_act script past seat ≡ slice_get (filter is_act (steps_of script w.task)) (acts_done past seat)
    here = rw runs refl

-- the entry of a task is of its next act step
pub entered_by : (script : Plan) (past : List Entry) (seat : ℕ) (kind : Kind) → by_task script past seat kind ≡ true → EntersStep script past seat kind
unfolding by_task
entered_by script past seat kind h =
    let w = found (λ (w : Running). holds_of (λ step. enters w.task step kind) (next_act script past seat)) (running past seat) h in
    let s = found (λ step. enters w.value.task step kind) (next_act script past seat) w.passes in
    record {
      now = w.value;
      runs = w.is;
      step = s.value;
      is_next = next_is_of script past seat w.value s.value w.is s.is;
      enters = s.passes;
    }

-- the entry of the next act step of a task is one of the task
pub by_next : (script : Plan) (past : List Entry) (seat : ℕ) (kind : Kind) (w : Running) (step : Step) → running past seat ≡ Some w
    → next_act script past seat ≡ Some step → enters w.task step kind ≡ true → by_task script past seat kind ≡ true
unfolding by_task
by_next script past seat kind w step runs next same = rw (next, runs) same

-- what a pump wants, it wants while the driver runs nothing
pump_wants : (own : List Entry) (action : Action) (made : List Entry) (kind : Kind) → is_pump action ≡ true → wants own action made kind ≡ true
    → is_none (running own 0) ≡ true
pump_wants own (actions.Pump n) made (kinds.MainTake task queue value) pump h = h
pump_wants own (actions.Pump n) made kinds.MainNone pump h = h
pump_wants own (actions.Pump n) made kind pump h = absurd cc
pump_wants own action made kind pump h = absurd cc

-- where a closed plan wants an entry of the driver, the driver runs nothing
pub driver_runs_nothing : (script : Plan) (past : List Entry) (seat : ℕ) (kind : Kind) → IsClosed script → IsLegal script past
    → by_script script past seat kind ≡ true
    → running past 0 ≡ None
driver_runs_nothing script past seat kind closed legal wanted = at (running past 0) refl
  where
    c : Found Current (λ c. wants (own_entries 0 past) c.action c.made kind) (current script (own_entries 0 past))
    c = wanted_by script past seat kind closed wanted

    at : (o : Option Running) → running past 0 ≡ o → o ≡ None
    at None is = refl
    at (Some w) is =
        let (d, now, pump) = (legal_does_one_thing script past legal).pumps closed w is in
        let same : d ≡ c.value = same_Some d c.value (sym now ∙ c.is) in
        absurd (true≢false (sym (pump_wants (own_entries 0 past) c.value.action c.value.made kind
        (subst (λ (x : Current). is_pump x.action ≡ true) same pump) c.passes)
        ∙ ap is_none (running_own past 0 ∙ is)))

-- what a join wants, it wants while the driver holds nothing
join_wants : (own : List Entry) (action : Action) (made : List Entry) (kind : Kind) → is_join action ≡ true → wants own action made kind ≡ true
    → is_none (holding own 0) ≡ true
join_wants own (actions.Join j) made (kinds.JobTake job id item) join h = (and_parts (eqb job j) (is_none (holding own 0)) h).1
join_wants own (actions.Join j) made (kinds.Joined job reply) join h = (and_parts (eqb job j) (is_none (holding own 0)) h).1
join_wants own (actions.Join j) made kind join h = absurd cc
join_wants own action made kind join h = absurd cc

-- where a closed plan wants an entry of the driver, the driver holds nothing
pub driver_holds_nothing : (script : Plan) (past : List Entry) (seat : ℕ) (kind : Kind) → IsClosed script → IsLegal script past
    → by_script script past seat kind ≡ true
    → holding past 0 ≡ None
driver_holds_nothing script past seat kind closed legal wanted = at (holding past 0) refl
  where
    c : Found Current (λ c. wants (own_entries 0 past) c.action c.made kind) (current script (own_entries 0 past))
    c = wanted_by script past seat kind closed wanted

    at : (o : Option Holding) → holding past 0 ≡ o → o ≡ None
    at None is = refl
    at (Some h) is =
        let (d, now, join) = (legal_does_one_thing script past legal).joins closed h is in
        let same : d ≡ c.value = same_Some d c.value (sym now ∙ c.is) in
        absurd (true≢false (sym (join_wants (own_entries 0 past) c.value.action c.value.made kind
        (subst (λ (x : Current). is_join x.action ≡ true) same join) c.passes)
        ∙ ap is_none (holding_own past 0 ∙ is)))
