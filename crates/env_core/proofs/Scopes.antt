-- In a legal history the scopes of a task open and close in turn, as its steps say.
-- Cited by `Acts`.
use Rattle.script_model.specs.Laws.Sound.{IsSound}
use Rattle.env_core.specs.Scopes.{is_open_after}
use Rattle.env_core.proofs.Plans.{runs_as}
use Rattle.hist_model.proofs.Laws.Wants.{EntersStep, entered_by, next_is_of}
use Rattle.hist_model.specs.Allowed.{IsAllowed, by_script, by_task, enters, is_reply, may_come, same_scope}
use Rattle.hist_model.specs.Legal.{IsLegal}
use Rattle.hist_model.specs.Open.{IsClosed}
use Rattle.hist_model.proofs.Laws.AtPlaces.{take_at}
use Rattle.hist_model.proofs.Laws.Legal.{is_legal_push, legal_induction}
use Rattle.hist_model.proofs.Laws.LegalPast.{legal_past}
use Rattle.hist_model.proofs.Laws.Open.{closed_enters, closed_leaves, closed_main, closed_post}
use Rattle.hist_model.proofs.Laws.Postings.Counts.{counted, posted_at_most_once}
use Rattle.hist_model.proofs.Laws.Takes.{by_driver, take_is}
use Rattle.list_laws.proofs.Finds.{contained_counts}
use Rattle.pool_laws.proofs.Seats.Whose.{runs_behind}
use Rattle.list_laws.proofs.Values.{eqb-same}
use Rattle.pool_laws.proofs.Room.Capacity.{scope_kept}
use Rattle.pool_laws.proofs.Seats.Running.{acts_other}
use Rattle.pool_laws.specs.Room.{scopes}
use Rattle.script_model.specs.Draft.{has_bad_scopes}
use Rattle.std.proofs.Common.{Bool, List, None, Option, Some, [], drop, eqb, false, leb, length, take, true, zero, suc, ℕ, ◌+◌, ◌++◌, ◌∙◌, ◌∷◌, ◌≡◌}
use Rattle.std.proofs.Common.{◌≤◌, add-one, ap, arith, inl, refl, subst, sym, ⊎_elim}
use Rattle.std.proofs.lemmas.Bool.{and_from, and_parts, eqb-false, eqb-true, false_from_ne_true, not-false, or_cases, or_parts, true≢false}
use Rattle.std.proofs.lemmas.List.{drop_all}
use Rattle.std.proofs.lemmas.Option.{none-some, same_Some}
use Rattle.std.specs.Option.{option_map_or}
use Rattle.std.specs.Prelude.{Contains, filter, is_some, not, ◌&&◌, ◌||◌, slice_get}
use Rattle.task_base.specs.Plan.{Plan}
use Rattle.task_base.specs.Steps.{is_act}
use Rattle.task_base.specs.declared.entry.Entry.{Entry}
use Rattle.task_base.specs.declared.entry.Kind.{Kind}
use Rattle.task_base.specs.declared.entry.Kind.TheVariants as kinds
use Rattle.task_base.specs.declared.step.Scope.{Scope}
use Rattle.task_base.specs.declared.step.Step.{Step}
use Rattle.task_base.specs.declared.step.Step.TheVariants as steps
use Rattle.task_body.proofs.Progress.{drop-slice_get}
use Rattle.task_model.proofs.Growth.{acts_done_push, open_scope_push}
use Rattle.task_model.specs.Capacity.{OpenScope, open_scope, scope_after}
use Rattle.task_model.specs.Posts.{Posted, is_main_taken, posts}
use Rattle.task_model.specs.Seats.{Running, acts_after, acts_done, next_act, running, running_after, steps_of}

-- ---- steps

-- the act steps of a task
abbrev acts_of : Plan → ℕ → List Step
acts_of script t = filter is_act (steps_of script t)

-- whether a scope is open behind some steps and more
open_after-append : (b : Bool) (xs ys : List Step) → is_open_after b (xs ++ ys) ≡ is_open_after (is_open_after b xs) ys
open_after-append b [] ys = refl
open_after-append b (steps.Block scope ∷ xs) ys = open_after-append true xs ys
open_after-append b (steps.Unblock ∷ xs) ys = open_after-append false xs ys
open_after-append b (step ∷ xs) ys = open_after-append b xs ys

-- scopes that open and close in turn do so among the act steps, and behind any of them
acts_in_turn : (b : Bool) (xs : List Step) → has_bad_scopes b (filter is_act xs) ≡ has_bad_scopes b xs
acts_in_turn b [] = refl
acts_in_turn b (steps.Block scope ∷ xs) = ap (λ c. b || c) (acts_in_turn true xs)
acts_in_turn b (steps.Unblock ∷ xs) = ap (λ c. not b || c) (acts_in_turn false xs)
acts_in_turn b (step ∷ xs) = acts_in_turn b xs

-- scopes that open and close in turn do so behind the first n steps
rest_in_turn : (b : Bool) (xs : List Step) (n : ℕ) → has_bad_scopes b xs ≡ false → has_bad_scopes (is_open_after b (take n xs)) (drop n xs) ≡ false
rest_in_turn b xs zero h = h
rest_in_turn b [] (suc n) h = h
rest_in_turn b (steps.Block scope ∷ xs) (suc n) h = rest_in_turn true xs n (or_parts b (has_bad_scopes true xs) h).1
rest_in_turn b (steps.Unblock ∷ xs) (suc n) h = rest_in_turn false xs n (or_parts (not b) (has_bad_scopes false xs) h).1
rest_in_turn b (step ∷ xs) (suc n) h = rest_in_turn b xs n h

-- so do those of each task
task_in_turn : (script : Plan) (t : ℕ) → IsSound script → has_bad_scopes false (acts_of script t) ≡ false
task_in_turn script t plan = acts_in_turn false (steps_of script t) ∙ by_task (slice_get script.tasks t) refl
  where
    by_task : (o : Option (List Step)) → slice_get script.tasks t ≡ o → has_bad_scopes false (option_map_or (λ steps. steps) o []) ≡ false
    by_task None is = refl
    by_task (Some steps) is = (plan.declarations.tasks_sound t steps is).scopes_in_turn

-- ---- entries

-- what is taken of the pool was not taken as a main task
no_main_taken : (script : Plan) (past : List Entry) (p : Posted) → IsSound script → IsLegal script past → Contains (posts past) p
    → is_main_taken past p.task ≡ false
no_main_taken script past p plan legal accepted =
    let once = plan.once.posted_once in
    let known = counted script once past legal in
    false_from_ne_true (is_main_taken past p.task) (λ k. omega (
      arith,
      contained_counts (λ (q : Posted). eqb q.task p.task) (posts past) p accepted (eqb-same p.task),
      known.taken true p.task k,
      known.accepted p.task,
      posted_at_most_once script past p.task once legal,
    ))

-- no task of the pool that runs is a main task that runs
pool_or_main : (script : Plan) (past : List Entry) (a b : ℕ) (v w : Running) → IsSound script → IsLegal script past → running past a ≡ Some v
    → running past b ≡ Some w → v.is_main ≡ true → w.is_main ≡ false → v.task ≡ w.task → ⊥
pool_or_main script past a b v w plan legal runs_v runs_w main pool same =
    let m = runs_as script past a v true legal runs_v main in
    let can = (runs_as script past b w false legal runs_w pool).can in
    true≢false (sym m.taken ∙ ap (is_main_taken past) (same ∙ sym can.task_is) ∙ no_main_taken script past can.accepted plan legal can.posted)

-- the entry of an act step opens and closes the scope of its task, as the step does
scope_moves : (t n : ℕ) (past : List Entry) (now : Option OpenScope) (step : Step) (kind : Kind) → enters t step kind ≡ true
    → (acts_after n kind ≡ n + 1) × (is_some (scope_after t past now kind) ≡ is_open_after (is_some now) (step ∷ []))
scope_moves t n past now (steps.Post u r d) (kinds.Post task runner delay ok) h = (refl, refl)
scope_moves t n past now (steps.Main u q d) (kinds.Main task queue delay ok) h = (refl, refl)
scope_moves t n past now (steps.Block s) (kinds.Enter task scope) h = let same = (and_parts (eqb task t) (same_scope scope s) h).0 in (refl, rw same refl)
scope_moves t n past now steps.Unblock (kinds.Leave task) h = (refl, rw h refl)
scope_moves t n past now step kind h = absurd cc

-- an entry that opens or closes the scope of a task is of the seat that runs it
scoped_task : (t u : ℕ) (step : Step) (kind : Kind) → enters t step kind ≡ true → scopes u kind ≡ true → t ≡ u
scoped_task t u (steps.Block s) (kinds.Enter task scope) h k = sym (eqb-true task t (and_parts (eqb task t) (same_scope scope s) h).0) ∙ eqb-true task u k
scoped_task t u steps.Unblock (kinds.Leave task) h k = sym (eqb-true task t h) ∙ eqb-true task u k
scoped_task t u (steps.Post a r d) (kinds.Post task runner delay ok) h k = absurd cc
scoped_task t u (steps.Main a q d) (kinds.Main task queue delay ok) h k = absurd cc
scoped_task t u step kind h k = absurd cc

-- an entry that opens or closes a scope is one of a task
scopes_by_task : (script : Plan) (past : List Entry) (seat u : ℕ) (kind : Kind) → IsClosed script → may_come script past seat kind ≡ true
    → scopes u kind ≡ true → by_task script past seat kind ≡ true
unfolding may_come
scopes_by_task script past seat u (kinds.Enter task scope) closed may k = sym (closed_enters script past seat task scope closed) ∙ may
scopes_by_task script past seat u (kinds.Leave task) closed may k = sym (closed_leaves script past seat task closed) ∙ may
scopes_by_task script past seat u kind closed may k = absurd cc

-- what the task of the pool that a seat runs has open, by the act steps that were entered
abbrev ScopeIs : Plan → List Entry → Type 0
ScopeIs script past = (seat : ℕ) (w : Running) → running past seat ≡ Some w → w.is_main ≡ false
    → is_some (open_scope past w.task) ≡ is_open_after false (take (acts_done past seat) (acts_of script w.task))

-- one more entry leaves it so
scope_step : (script : Plan) (past : List Entry) (e : Entry) → IsSound script → IsLegal script past → IsAllowed script past e → ScopeIs script past
    → ScopeIs script (past ++ e ∷ [])
unfolding may_come
scope_step script past e plan legal allowed before seat w runs pool = ⊎_elim other own (runs_behind past e seat w runs)
  where
    may : may_come script past e.seat e.kind ≡ true
    may = (and_parts (leb e.seat script.workers) (may_come script past e.seat e.kind) allowed).1

    worker : 1 ≤ seat
    worker = (runs_as script (past ++ e ∷ []) seat w false (is_legal_push script past e ∙ and_from _ _ legal allowed) runs pool).can.worker refl

    -- an entry of another seat opens and closes no scope of this task
    other : (running past seat ≡ Some w) × (eqb e.seat seat ≡ false)
        → is_some (open_scope (past ++ e ∷ []) w.task) ≡ is_open_after false (take (acts_done (past ++ e ∷ []) seat) (acts_of script w.task))
    other (now, elsewhere) = rw (scope_kept past e w.task (false_from_ne_true _ untouched), acts_other past e seat elsewhere) (before seat w now pool)
      where
        untouched : scopes w.task e.kind ≡ true → ⊥
        untouched k =
            let n : EntersStep script past e.seat e.kind =
            entered_by script past e.seat e.kind (scopes_by_task script past e.seat w.task e.kind plan.closed may k) in
            let same : n.now.task ≡ w.task = scoped_task n.now.task w.task n.step e.kind n.enters k in
            apart n.now n.runs same n.now.is_main refl
          where
            apart : (v : Running) → running past e.seat ≡ Some v → v.task ≡ w.task → (main : Bool) → v.is_main ≡ main → ⊥
            apart v runs_v same true is = pool_or_main script past e.seat seat v w plan legal runs_v now is pool same
            apart v runs_v same false is =
                eqb-false e.seat seat elsewhere (((legal_past script past legal).consistent false).alone e.seat seat v w runs_v now is pool (inl same))

    -- the scope and the act steps after an entry of the seat's own
    IsNow : Kind → Type 0
    IsNow kind = is_some (scope_after w.task past (open_scope past w.task) kind)
        ≡ is_open_after false (take (acts_after (acts_done past e.seat) kind) (acts_of script w.task))

    own : (seat ≡ e.seat) × (running_after (running past e.seat) e.kind ≡ Some w)
        → is_some (open_scope (past ++ e ∷ []) w.task) ≡ is_open_after false (take (acts_done (past ++ e ∷ []) seat) (acts_of script w.task))
    own (here, after) = rw (here, open_scope_push past e w.task, acts_done_push past e e.seat, eqb-same e.seat) (by_kind e.kind may after)
      where
        act : (kind : Kind) → running past e.seat ≡ Some w → by_task script past e.seat kind ≡ true → IsNow kind
        act kind now h =
            let n : EntersStep script past e.seat kind = entered_by script past e.seat kind h in
            let same : n.now ≡ w = same_Some n.now w (sym n.runs ∙ now) in
            let moves = scope_moves w.task (acts_done past e.seat) past (open_scope past w.task) n.step kind (rw same at n.enters) in
            rw (
              moves.0,
              add-one,
              take_at (acts_of script w.task) (acts_done past e.seat) n.step (rw same at n.is_next),
              open_after-append false (take (acts_done past e.seat) (acts_of script w.task)) (n.step ∷ []),
              ← before e.seat w now pool,
            ) moves.1

        post : (kind : Kind) (refused ok : Bool) → running past e.seat ≡ Some w
            → ((by_script script past e.seat kind || by_task script past e.seat kind) && is_reply refused ok) ≡ true → IsNow kind
        post kind refused ok now h = act kind now (⊎_elim (λ s. absurd (omega (arith, by_driver script past e.seat kind s, here, worker))) (λ t. t)
            (or_cases (by_script script past e.seat kind) (by_task script past e.seat kind) (and_parts _ (is_reply refused ok) h).0))

        by_kind : (kind : Kind) → may_come script past e.seat kind ≡ true → running_after (running past e.seat) kind ≡ Some w → IsNow kind
        by_kind (kinds.Take task runner value) m k =
            let taken = take_is script past e.seat task runner value m in
            let other = subst (λ t. is_main_taken past t ≡ false) taken.task_is (no_main_taken script past taken.head.posted plan legal
            taken.is_head.accepted) in
            let none = (legal_past script past legal).rises.scopes_of_taken task taken.not_taken other in
            let same : task ≡ w.task = cc in rw (← same, none) refl
        by_kind (kinds.MainTake task queue value) m k = absurd (true≢false (ap (λ (v : Running). v.is_main) (same_Some _ w k) ∙ pool))
        by_kind (kinds.End task left) m k = absurd (none-some w k)
        by_kind (kinds.MainEnd task left) m k = absurd (none-some w k)
        by_kind (kinds.Post task runner delay ok) m k = post (kinds.Post task runner delay ok) _ ok k
            (sym (closed_post script past e.seat task runner delay ok plan.closed) ∙ m)
        by_kind (kinds.Main task queue delay ok) m k = post (kinds.Main task queue delay ok) _ ok k
            (sym (closed_main script past e.seat task queue delay ok plan.closed) ∙ m)
        by_kind (kinds.Enter task scope) m k = act (kinds.Enter task scope) k (sym (closed_enters script past e.seat task scope plan.closed) ∙ m)
        by_kind (kinds.Leave task) m k = act (kinds.Leave task) k (sym (closed_leaves script past e.seat task plan.closed) ∙ m)
        by_kind kind m k = before e.seat w k pool

-- the task that a seat runs of the pool has a scope open exactly where the last scope step among the act steps that it has
-- entered opened one
pub scope_is : (script : Plan) (past : List Entry) (seat : ℕ) (w : Running) → IsSound script → IsLegal script past → running past seat ≡ Some w
    → w.is_main ≡ false → is_some (open_scope past w.task) ≡ is_open_after false (take (acts_done past seat) (filter is_act (steps_of script w.task)))
unfolding running
scope_is script past seat w plan legal runs pool = legal_induction script (ScopeIs script) (λ s v h other. absurd (none-some v h))
    (λ past e legal allowed before. scope_step script past e plan legal allowed before) past legal seat w runs pool

-- what is left of the act steps closes and opens its scopes in turn, as one is open now
left_in_turn : (script : Plan) (past : List Entry) (seat : ℕ) (w : Running) → IsSound script → IsLegal script past → running past seat ≡ Some w
    → w.is_main ≡ false → has_bad_scopes (is_some (open_scope past w.task)) (drop (acts_done past seat) (acts_of script w.task)) ≡ false
left_in_turn script past seat w plan legal runs pool =
    rw (scope_is script past seat w plan legal runs pool) (rest_in_turn false (acts_of script w.task) (acts_done past seat) (task_in_turn script w.task plan))

-- where a scope is not open there is none
none_open : (o : Option OpenScope) → is_some o ≡ false → o ≡ None
none_open None h = refl
none_open (Some x) h = absurd cc

-- where a scope is open there is one
some_open : (o : Option OpenScope) → is_some o ≡ true → (opened : OpenScope) × (o ≡ Some opened)
some_open None h = absurd cc
some_open (Some x) h = (x, refl)

-- so none is open where its next step opens one, one is where its next step closes it, and none is at its end
pub closed_at_block : (script : Plan) (past : List Entry) (seat : ℕ) (w : Running) (scope : Scope) → IsSound script → IsLegal script past
    → running past seat ≡ Some w → w.is_main ≡ false → next_act script past seat ≡ Some (steps.Block scope) → open_scope past w.task ≡ None
closed_at_block script past seat w scope plan legal runs pool is =
    let next = next_is_of script past seat w (steps.Block scope) runs is in
    let left = rw (drop-slice_get (acts_of script w.task) (acts_done past seat) (steps.Block scope) (sym next)) at
    (left_in_turn script past seat w plan legal runs pool) in
    none_open (open_scope past w.task) (or_parts _ _ left).0

-- one is open where the next step closes it
pub open_at_unblock : (script : Plan) (past : List Entry) (seat : ℕ) (w : Running) → IsSound script → IsLegal script past
    → running past seat ≡ Some w → w.is_main ≡ false → next_act script past seat ≡ Some steps.Unblock
    → (opened : OpenScope) × (open_scope past w.task ≡ Some opened)
open_at_unblock script past seat w plan legal runs pool is =
    let next = next_is_of script past seat w steps.Unblock runs is in
    let left = rw (drop-slice_get (acts_of script w.task) (acts_done past seat) steps.Unblock (sym next)) at
    (left_in_turn script past seat w plan legal runs pool) in
    some_open (open_scope past w.task) (not-false (is_some (open_scope past w.task)) (or_parts _ _ left).0)

-- none is open where all act steps were entered
pub closed_at_end : (script : Plan) (past : List Entry) (seat : ℕ) (w : Running) → IsSound script → IsLegal script past
    → running past seat ≡ Some w → w.is_main ≡ false → acts_done past seat ≡ length (filter is_act (steps_of script w.task)) → open_scope past w.task ≡ None
closed_at_end script past seat w plan legal runs pool all =
    none_open (open_scope past w.task) (rw (drop_all (acts_done past seat) (acts_of script w.task) (omega (arith, all))) at
    (left_in_turn script past seat w plan legal runs pool))
