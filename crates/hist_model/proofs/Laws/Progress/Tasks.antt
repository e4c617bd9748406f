-- A seat that runs a task may make its next entry, and a seat that holds an item its step.
-- Cited by `Laws/Due`, `Laws/Progress/Quiet`, `Laws/Progress/Ways`, `log_count`, `situation`.
use Rattle.std.proofs.Common.{◌≡◌, ℕ, ◌≤◌, ◌<◌, Bool, true, false, cond, eqb, List, [], ◌∷◌, ◌++◌, length}
use Rattle.std.proofs.Common.{refl, sym, ap, subst, ◌∙◌, Option, Some, None, ⊎_elim, arith}
use Rattle.std.specs.Prelude.{not, ◌||◌, filter, slice_get, option_and_then}
use Rattle.std.specs.Option.{IfSome}
use Rattle.std.proofs.lemmas.Bool.{and_from, and_parts, or_cases, or_right, eq-eqb, eqb-true, cases_lt}
use Rattle.std.proofs.lemmas.Option.{none-some, same_Some, slice_get_within, slice_get-get_or}
use Rattle.task_base.specs.Plan.{Plan}
use Rattle.task_base.specs.Steps.{after, is_act}
use Rattle.task_base.specs.declared.step.Step.{Step}
use Rattle.task_base.specs.declared.step.Step.TheVariants as steps
use Rattle.task_base.specs.declared.step.Scope.{Scope}
use Rattle.task_base.specs.declared.step.Scope.TheVariants.{May, Will}
use Rattle.task_base.specs.declared.entry.Entry.{Entry}
use Rattle.task_base.specs.declared.entry.Kind.{Kind}
use Rattle.task_base.specs.declared.entry.Kind.TheVariants as kinds
use Rattle.task_base.specs.declared.script.Action.{Action}
use Rattle.task_base.specs.declared.script.Action.TheVariants as actions
use Rattle.list_laws.specs.Lists.{holds_of}
use Rattle.list_laws.proofs.Elements.{slice_get_all}
use Rattle.list_laws.proofs.Filters.{filter_passes}
use Rattle.task_model.specs.Refusal.{is_refused, is_closed}
use Rattle.task_model.specs.Seats.{Running, Holding, running, running_after, holding, acts_done, acts_after, steps_of, next_act}
use Rattle.task_model.specs.Jobs.{item_value}
use Rattle.task_model.specs.Sources.{next_item}
use Rattle.task_model.proofs.Growth.{acts_done_push}
use Rattle.pool_laws.proofs.Seats.Running.{running_here, running_other, acts_other}
use Rattle.hist_model.specs.Views.{own_entries}
use Rattle.hist_model.specs.Open.{IsClosed}
use Rattle.hist_model.specs.Script.{wants}
use Rattle.hist_model.specs.Allowed.{enters, same_scope, by_script, by_task, has_done, same_number, may_come}
use Rattle.hist_model.specs.Legal.{IsLegal}
use Rattle.pool_laws.specs.Runs.{RunsAs}
use Rattle.hist_model.specs.Laws.Consistent.{is_pump, DoesOneThing}
use Rattle.hist_model.specs.Laws.Progress.{MayMake, end_of, step_of, TaskGoesOn}
use Rattle.hist_model.specs.Laws.Progress.TaskGoesOn.{ByStep, Ends}
use Rattle.hist_model.proofs.Laws.Open.{closed_enters, closed_leaves, closed_main, closed_post}
use Rattle.hist_model.proofs.Laws.Legal.{legal_induction}
use Rattle.hist_model.proofs.Laws.Choice.{found}
use Rattle.hist_model.proofs.Laws.Consistent.{legal_is_consistent}
use Rattle.hist_model.proofs.Laws.HoldsApart.{legal_holds_apart}
use Rattle.hist_model.proofs.Laws.OneThing.{wanted_by, legal_does_one_thing}
use Rattle.hist_model.proofs.Laws.Takes.{by_driver}
use Rattle.hist_model.proofs.Laws.Progress.Made.{may_make, entered_now, replies}

-- ---- no seat enters more act steps than its task has

-- the act steps of a task
abbrev acts_of : Plan → ℕ → List Step
acts_of script task = filter is_act (steps_of script task)

-- the step at which the seat is
act_is : (script : Plan) (past : List Entry) (seat : ℕ) (w : Running) → running past seat ≡ Some w
    → next_act script past seat ≡ slice_get (acts_of script w.task) (acts_done past seat)
act_is script past seat w runs = ap (option_and_then (λ x. slice_get (acts_of script x.task) (acts_done past seat))) runs

-- an entry by the task is one of its act steps
acts_left : (script : Plan) (past : List Entry) (seat : ℕ) (w : Running) (kind : Kind) → running past seat ≡ Some w → by_task script past seat kind ≡ true
    → acts_done past seat < length (acts_of script w.task)
unfolding by_task
acts_left script past seat w kind runs h =
    let v = found (λ (x : Running). holds_of (λ step. enters x.task step kind) (next_act script past seat)) (running past seat) h in
    let step = found (λ s. enters v.value.task s kind) (next_act script past seat) v.passes in
    slice_get_within (acts_of script w.task) (acts_done past seat) step.value (sym (act_is script past seat w runs) ∙ step.is)

-- the entry is a post
abbrev is_post : Kind → Bool
is_post (kinds.Post task runner delay ok) = true
is_post (kinds.Main task queue delay ok) = true
is_post kind = false

-- a pump wants no post
pump_posts_nothing : (own : List Entry) (action : Action) (made : List Entry) (kind : Kind) → is_pump action ≡ true → is_post kind ≡ true
    → wants own action made kind ≡ true → ⊥
pump_posts_nothing own (actions.Pump n) made (kinds.Post task runner delay ok) pump post h = absurd cc
pump_posts_nothing own (actions.Pump n) made (kinds.Main task queue delay ok) pump post h = absurd cc
pump_posts_nothing own (actions.Pump n) made kind pump post h = absurd cc
pump_posts_nothing own action made kind pump post h = absurd cc

-- while a seat runs a task the script wants no post of it
runs_posts_nothing : (script : Plan) (past : List Entry) (seat : ℕ) (w : Running) (kind : Kind) → IsClosed script → DoesOneThing script past
    → running past seat ≡ Some w
    → is_post kind ≡ true → by_script script past seat kind ≡ true → ⊥
runs_posts_nothing script past seat w kind closed d runs post wanted =
    let (c, is, pump) = d.pumps closed w (ap (running past) (sym (by_driver script past seat kind wanted)) ∙ runs) in
    let v = wanted_by script past seat kind closed wanted in
    pump_posts_nothing (own_entries 0 past) c.action c.made kind pump post
    (subst (λ x. wants (own_entries 0 past) x.action x.made kind ≡ true) (same_Some v.value c (sym v.is ∙ is)) v.passes)

post_acts : (script : Plan) (past : List Entry) (seat : ℕ) (w : Running) (kind : Kind) → IsClosed script → DoesOneThing script past → running past seat ≡ Some w
    → is_post kind ≡ true → (by_script script past seat kind || by_task script past seat kind) ≡ true → acts_done past seat < length (acts_of script w.task)
post_acts script past seat w kind closed d runs post h = ⊎_elim (λ k. absurd (runs_posts_nothing script past seat w kind closed d runs post k))
    (λ k. acts_left script past seat w kind runs k) (or_cases (by_script script past seat kind) (by_task script past seat kind) h)

-- no seat has entered more act steps than the task that it runs has
abbrev ActsWithin : Plan → List Entry → Type 0
ActsWithin script past = (seat : ℕ) (w : Running) → running past seat ≡ Some w → acts_done past seat ≤ length (acts_of script w.task)

own_acts : (script : Plan) (past : List Entry) (seat : ℕ) (kind : Kind) (w : Running) → IsClosed script → may_come script past seat kind ≡ true
    → DoesOneThing script past
    → ActsWithin script past → running_after (running past seat) kind ≡ Some w → acts_after (acts_done past seat) kind ≤ length (acts_of script w.task)
unfolding may_come
own_acts script past seat (kinds.Take task runner value) w closed may d all runs = omega arith
own_acts script past seat (kinds.MainTake task queue value) w closed may d all runs = omega arith
own_acts script past seat (kinds.End task left) w closed may d all runs = absurd (none-some w runs)
own_acts script past seat (kinds.MainEnd task left) w closed may d all runs = absurd (none-some w runs)
own_acts script past seat (kinds.Post task runner delay ok) w closed may d all runs = let less = post_acts script past seat w
    (kinds.Post task runner delay ok) closed d runs
    refl (and_parts _ (cond (is_refused script past runner delay) (not ok) ok) (sym (closed_post script past seat task runner delay ok closed) ∙ may)).0 in
    omega (arith, less)
own_acts script past seat (kinds.Main task queue delay ok) w closed may d all runs = let less = post_acts script past seat w
    (kinds.Main task queue delay ok) closed d runs
    refl (and_parts _ (cond (is_closed past queue) (not ok) ok) (sym (closed_main script past seat task queue delay ok closed) ∙ may)).0 in
    omega (arith, less)
own_acts script past seat (kinds.Enter task scope) w closed may d all runs =
    let less = acts_left script past seat w (kinds.Enter task scope) runs (sym (closed_enters script past seat task scope closed) ∙ may) in omega (arith, less)
own_acts script past seat (kinds.Leave task) w closed may d all runs =
    let less = acts_left script past seat w (kinds.Leave task) runs (sym (closed_leaves script past seat task closed) ∙ may) in omega (arith, less)
own_acts script past seat kind w closed may d all runs = all seat w runs

acts_next : (script : Plan) (past : List Entry) (e : Entry) → IsClosed script → may_come script past e.seat e.kind ≡ true → DoesOneThing script past
    → ActsWithin script past
    → ActsWithin script (past ++ e ∷ [])
acts_next script past e closed may d all seat w runs = by_seat (eqb e.seat seat) refl
  where
    by_seat : (b : Bool) → eqb e.seat seat ≡ b → acts_done (past ++ e ∷ []) seat ≤ length (acts_of script w.task)
    by_seat true here = rw (acts_done_push past e seat, here) (subst (λ s. acts_after (acts_done past s) e.kind ≤ length (acts_of script w.task))
        (eqb-true e.seat seat here) (own_acts script past e.seat e.kind w closed may d all (sym (running_here past e seat here) ∙ runs)))
    by_seat false other = rw (acts_other past e seat other) (all seat w (sym (running_other past e seat other) ∙ runs))

nothing_acted : (script : Plan) → ActsWithin script []
unfolding running
nothing_acted script seat w runs = absurd (none-some w runs)

acts_within : (script : Plan) (past : List Entry) → IsClosed script → IsLegal script past → ActsWithin script past
acts_within script past closed = legal_induction script (ActsWithin script) (nothing_acted script) (λ past e legal allowed all.
    acts_next script past e closed (and_parts _ (may_come script past e.seat e.kind) allowed).1 (legal_does_one_thing script past legal) all) past

-- ---- tasks

pub runner_known : (script : Plan) (past : List Entry) (seat : ℕ) (w : Running) → IsLegal script past → running past seat ≡ Some w → seat ≤ script.workers
runner_known script past seat w legal runs = ((legal_is_consistent script past legal w.is_main).runs seat w runs refl).can.known

-- the next act step may make its entry
step_goes_on : (script : Plan) (past : List Entry) (seat : ℕ) (w : Running) (step : Step) → IsClosed script → seat ≤ script.workers → running past seat ≡ Some w
    → next_act script past seat ≡ Some step → is_act step ≡ true → TaskGoesOn script past seat w
unfolding may_come
step_goes_on script past seat w (steps.Post t r d) closed known runs next act = ByStep (steps.Post t r d) kind next is
    (may_make script past seat kind known (closed_post script past seat t r d (not (is_refused script past r d)) closed ∙ and_from _ _
    (or_right (by_script script past seat kind) (by_task script past seat kind) (entered_now script past seat w (steps.Post t r d) kind runs next is))
    (replies (is_refused script past r d))))
  where
    kind : Kind
    kind = kinds.Post t r d (not (is_refused script past r d))

    is : enters w.task (steps.Post t r d) kind ≡ true
    is = rw (eq-eqb t t refl, eq-eqb r r refl, eq-eqb d d refl) refl
step_goes_on script past seat w (steps.Main t q d) closed known runs next act = ByStep (steps.Main t q d) kind next is
    (may_make script past seat kind known (closed_main script past seat t q d (not (is_closed past q)) closed ∙ and_from _ _
    (or_right (by_script script past seat kind) (by_task script past seat kind) (entered_now script past seat w (steps.Main t q d) kind runs next is))
    (replies (is_closed past q))))
  where
    kind : Kind
    kind = kinds.Main t q d (not (is_closed past q))

    is : enters w.task (steps.Main t q d) kind ≡ true
    is = rw (eq-eqb t t refl, eq-eqb q q refl, eq-eqb d d refl) refl
step_goes_on script past seat w (steps.Block scope) closed known runs next act = ByStep (steps.Block scope) (kinds.Enter w.task scope) next is
    (may_make script past seat (kinds.Enter w.task scope) known (closed_enters script past seat w.task scope closed
    ∙ entered_now script past seat w (steps.Block scope) (kinds.Enter w.task scope) runs next is))
  where
    same : (s : Scope) → same_scope s s ≡ true
    same May = refl
    same Will = refl

    is : enters w.task (steps.Block scope) (kinds.Enter w.task scope) ≡ true
    is = rw (eq-eqb w.task w.task refl) (same scope)
step_goes_on script past seat w steps.Unblock closed known runs next act = ByStep steps.Unblock (kinds.Leave w.task) next (eq-eqb w.task w.task refl)
    (may_make script past seat (kinds.Leave w.task) known (closed_leaves script past seat w.task closed
    ∙ entered_now script past seat w steps.Unblock (kinds.Leave w.task) runs next (eq-eqb w.task w.task refl)))
step_goes_on script past seat w step closed known runs next act = absurd cc

-- the end of the task may come
end_may_come : (script : Plan) (past : List Entry) (seat : ℕ) (w : Running) (main : Bool) → IsClosed script → w.is_main ≡ main → RunsAs script past seat w main
    → running past seat ≡ Some w → acts_done past seat ≡ length (acts_of script w.task)
    → may_come script past seat (cond main (kinds.MainEnd w.task (after (steps_of script w.task) w.found))
    (kinds.End w.task (after (steps_of script w.task) w.found))) ≡ true
unfolding may_come
end_may_come script past seat w main closed is r runs done = by_main main is r
  where
    left : ℕ
    left = after (steps_of script w.task) w.found

    all_done : has_done script past seat left w ≡ true
    all_done = rw (closed, eq-eqb (acts_done past seat) (length (acts_of script w.task)) done, eq-eqb left left refl) refl

    by_main : (b : Bool) → w.is_main ≡ b → RunsAs script past seat w b
        → may_come script past seat (cond b (kinds.MainEnd w.task left) (kinds.End w.task left)) ≡ true
    by_main true is_main as_main = rw (eq-eqb seat 0 (as_main.can.driver refl), runs) (rw (is_main, eq-eqb w.task w.task refl, all_done) refl)
    by_main false is_pool as_pool = rw (runs) (rw (is_pool, eq-eqb w.task w.task refl, all_done) refl)

-- a list has no element at a place past its end alone
past_the_end : (xs : List Step) (n : ℕ) → slice_get xs n ≡ None → n ≤ length xs → n ≡ length xs
past_the_end xs n none within = ⊎_elim (λ less. absurd (none-some _ (sym none ∙ slice_get-get_or xs n (steps.Unblock) less)))
    (λ more. omega (arith, more, within)) (cases_lt n (length xs))

pub task_goes_on : (script : Plan) (past : List Entry) (seat : ℕ) (w : Running) → IsClosed script → IsLegal script past → running past seat ≡ Some w
    → TaskGoesOn script past seat w
task_goes_on script past seat w closed legal runs = by_next_act (next_act script past seat) refl
  where
    known : seat ≤ script.workers
    known = runner_known script past seat w legal runs

    act : (step : Step) → next_act script past seat ≡ Some step → is_act step ≡ true
    act step next = subst (λ o. IfSome o (λ s. is_act s ≡ true)) (sym (act_is script past seat w runs) ∙ next)
        (slice_get_all (λ s. is_act s ≡ true) (acts_of script w.task) (acts_done past seat) (filter_passes is_act (steps_of script w.task)))

    by_next_act : (o : Option Step) → next_act script past seat ≡ o → TaskGoesOn script past seat w
    by_next_act (Some step) next = step_goes_on script past seat w step closed known runs next (act step next)
    by_next_act None none = Ends none (may_make script past seat (end_of script w) known (end_may_come script past seat w w.is_main closed refl
        ((legal_is_consistent script past legal w.is_main).runs seat w runs refl) runs
        (past_the_end (acts_of script w.task) (acts_done past seat) (sym (act_is script past seat w runs) ∙ none)
        (acts_within script past closed legal seat w runs))))

-- ---- items

pub item_goes_on : (script : Plan) (past : List Entry) (seat : ℕ) (h : Holding) → IsLegal script past → holding past seat ≡ Some h
    → MayMake script past seat (step_of script past seat h)
unfolding may_come
item_goes_on script past seat h legal holds = may_make script past seat (step_of script past seat h) ((legal_holds_apart script past legal).known seat h holds)
    (rw (
      holds,
      eq-eqb h.job h.job refl,
      eq-eqb h.id h.id refl,
      eq-eqb h.item h.item refl,
      eq-eqb (item_value script h.job h.item)
          (item_value script h.job h.item) refl,
    ) (same (next_item script past seat h.job)))
  where
    same : (o : Option ℕ) → same_number o o ≡ true
    same None = refl
    same (Some n) = eq-eqb n n refl
