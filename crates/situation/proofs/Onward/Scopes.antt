-- One more entry after two pasts in the same situation: open scopes count from the same moments.
-- Cited by `Onward/Tasks`, `Onward/Whole`, `log_count`.
use Rattle.std.proofs.Common.{◌≡◌, ℕ, ◌+◌, ◌≤◌, Bool, true, false, cond, eqb, List, [], ◌∷◌, ◌++◌, refl, sym, ap, subst, ◌∙◌, Option, Some, None, arith}
use Rattle.std.specs.Prelude.{◌||◌, nat_le}
use Rattle.std.specs.Option.{option_map}
use Rattle.std.proofs.lemmas.Bool.{and_parts, leb-true, le-leb}
use Rattle.std.proofs.lemmas.Option.{none-some, same_Some}
use Rattle.task_base.specs.Plan.{Plan}
use Rattle.task_base.specs.Groups.{has_come}
use Rattle.task_base.specs.declared.entry.Entry.{Entry}
use Rattle.task_base.specs.declared.entry.Kind.{Kind}
use Rattle.task_base.specs.declared.entry.Kind.TheVariants as kinds
use Rattle.task_base.specs.declared.script.Action.{Action}
use Rattle.task_base.specs.declared.script.Action.TheVariants as actions
use Rattle.task_base.specs.declared.step.Scope.{Scope}
use Rattle.task_base.specs.declared.step.Scope.TheVariants.{May, Will}
use Rattle.list_laws.specs.Lists.{holds_of}
use Rattle.script_model.specs.Laws.Sound.{IsSound}
use Rattle.task_model.specs.Time.{now_of, now_after}
use Rattle.task_model.specs.Posts.{is_taken, is_main_taken, main_takes, takes}
use Rattle.task_model.specs.Seats.{Running, running, running_after}
use Rattle.task_model.specs.Capacity.{OpenScope, open_scope, scope_after}
use Rattle.task_model.specs.MainQueues.{chosen_of}
use Rattle.task_model.proofs.Growth.{now_of_push, running_push, open_scope_push, is_main_taken_push}
use Rattle.hist_model.specs.Allowed.{is_front, by_script, may_come}
use Rattle.hist_model.specs.Legal.{IsLegal}
use Rattle.hist_model.specs.Script.{wants}
use Rattle.hist_model.specs.Views.{own_entries}
use Rattle.hist_model.proofs.Laws.Legal.{entry_induction}
use Rattle.hist_model.proofs.Laws.OneThing.{wanted_by}
use Rattle.hist_model.proofs.Laws.Rising.{legal_rises}
use Rattle.hist_model.proofs.Laws.Starts.{takes_fresh}
use Rattle.situation.specs.Alike.{without_items}
use Rattle.situation.specs.Situation.{counts_from, scope_now, is_pool_action, is_pool_script}
use Rattle.situation.specs.Onward.{from_after, once_come}
use Rattle.situation.specs.Same.{SameWork}
use Rattle.std.proofs.lemmas.Bool.{eq-eqb}
use Rattle.situation.proofs.Told.{same_told, by_jobs, takes_told}
use Rattle.situation.proofs.Ways.{pool_action}
use Rattle.situation.proofs.Onward.Folds.{now_on, runs_on}

-- ---- no main task is taken

pump_wants : (own : List Entry) (action : Action) (made : List Entry) (task queue value : ℕ) → wants own action made (kinds.MainTake task queue value) ≡ true
    → is_pool_action action ≡ true → ⊥
pump_wants own (actions.Pump n) made task queue value h pool = absurd cc
pump_wants own action made task queue value h pool = absurd cc

pub no_main_take : (script : Plan) (past : List Entry) → IsSound script → is_pool_script script ≡ true → (seat task queue value : ℕ)
    → may_come script past seat (kinds.MainTake task queue value) ≡ true → ⊥
unfolding may_come
no_main_take script past sound pool seat task queue value may =
    let by = (and_parts (by_script script past seat (kinds.MainTake task queue value)) (holds_of (is_front task queue) (chosen_of script past))
    (and_parts _ _ may).0).0 in
    let c = wanted_by script past seat (kinds.MainTake task queue value) sound.closed by in
    pump_wants (own_entries 0 past) c.value.action c.value.made task queue value c.passes (pool_action script pool (own_entries 0 past) c.value c.is)

pub none_main_taken : (script : Plan) (past : List Entry) → IsSound script → is_pool_script script ≡ true → IsLegal script past → (t : ℕ)
    → is_main_taken past t ≡ false
unfolding is_main_taken
none_main_taken script past sound pool = entry_induction script (λ before. (t : ℕ) → is_main_taken before t ≡ false) (λ t. refl)
    (λ before e known may none t. is_main_taken_push before e t ∙ ap (λ b. b || main_takes t e.kind) (none t) ∙ by_kind before e.seat e.kind may t) past
  where
    by_kind : (before : List Entry) (seat : ℕ) (kind : Kind) → may_come script before seat kind ≡ true → (t : ℕ) → main_takes t kind ≡ false
    by_kind before seat (kinds.MainTake task queue value) may t = absurd (no_main_take script before sound pool seat task queue value may)
    by_kind before seat kind may t = refl

-- ---- from when a scope counts

-- the moment from which the open scope of a task counts, if it has one
abbrev pub scope_from : Plan → List Entry → ℕ → Option ℕ
scope_from script past t = option_map (counts_from script past) (open_scope past t)

module _ (script : Plan) (past : List Entry) (e : Entry) (rises : now_of past ≤ now_of (past ++ e ∷ [])) where
  counts_later : (o : OpenScope) → counts_from script (past ++ e ∷ []) o ≡ once_come (now_of (past ++ e ∷ [])) (counts_from script past o)
  counts_later o = by_scope o.scope refl
    where
      due : ℕ
      due = o.since + script.threshold

      now : ℕ
      now = now_of (past ++ e ∷ [])

      by_test : (b : Bool) → nat_le due (now_of past) ≡ b → cond (nat_le due now) 0 due ≡ cond (nat_le (cond b 0 due) now) 0 (cond b 0 due)
      by_test false is = refl
      by_test true is =
          rw (le-leb due now (omega (arith, leb-true due (now_of past) is, rises)), le-leb 0 now (omega arith)) refl

      by_scope : (scope : Scope) → o.scope ≡ scope → counts_from script (past ++ e ∷ []) o ≡ once_come now (counts_from script past o)
      by_scope Will is = rw (is, le-leb 0 now (omega arith)) refl
      by_scope May is = rw is (by_test (nat_le due (now_of past)) refl)

  pub scope_push : (t : ℕ) → scope_from script (past ++ e ∷ []) t ≡ from_after script (now_of past) (now_of (past ++ e ∷ [])) t (scope_from script past t) e.kind
  scope_push t = ap (option_map (counts_from script (past ++ e ∷ []))) (open_scope_push past e t) ∙ by_kind e.kind
    where
      later : (o : Option OpenScope) → option_map (counts_from script (past ++ e ∷ [])) o
          ≡ option_map (once_come (now_of (past ++ e ∷ []))) (option_map (counts_from script past) o)
      later None = refl
      later (Some o) = ap Some (counts_later o)

      by_kind : (kind : Kind) → option_map (counts_from script (past ++ e ∷ [])) (scope_after t past (open_scope past t) kind)
          ≡ from_after script (now_of past) (now_of (past ++ e ∷ [])) t (scope_from script past t) kind
      by_kind (kinds.Enter task scope) = by_test (eqb task t)
        where
          by_test : (b : Bool) → option_map (counts_from script (past ++ e ∷ [])) (cond b (Some (record { scope = scope; since = now_of past }))
              (open_scope past t))
              ≡ cond b (Some (cond (has_come scope (now_of past + script.threshold) (now_of (past ++ e ∷ []))) 0 (now_of past + script.threshold)))
              (option_map (once_come (now_of (past ++ e ∷ []))) (scope_from script past t))
          by_test true = refl
          by_test false = later (open_scope past t)
      by_kind (kinds.Leave task) = by_test (eqb task t)
        where
          by_test : (b : Bool) → option_map (counts_from script (past ++ e ∷ [])) (cond b None (open_scope past t))
              ≡ cond b None (option_map (once_come (now_of (past ++ e ∷ []))) (scope_from script past t))
          by_test true = refl
          by_test false = later (open_scope past t)
      by_kind kind = later (open_scope past t)

-- moments never fall
pub rises_at : (script : Plan) (past : List Entry) (e : Entry) → may_come script past e.seat e.kind ≡ true → now_of past ≤ now_of (past ++ e ∷ [])
unfolding may_come
rises_at script past e may = subst (λ n. now_of past ≤ n) (sym (now_of_push past e)) (by_kind e.kind may)
  where
    by_kind : (kind : Kind) → may_come script past e.seat kind ≡ true → now_of past ≤ now_after (now_of past) kind
    by_kind (kinds.Tick now) h = leb-true (now_of past) now (and_parts (by_script script past e.seat (kinds.Tick now)) _ (and_parts _ _ h).0).1
    by_kind kind h = omega arith

-- a task that a seat takes now has no open scope
pub no_scope : (script : Plan) (past : List Entry) → IsSound script → is_pool_script script ≡ true → IsLegal script past → (t : ℕ) → is_taken past t ≡ false
    → scope_from script past t ≡ None
no_scope script past sound pool legal t untaken =
    ap (option_map (counts_from script past)) ((legal_rises script past legal).scopes_of_taken t untaken (none_main_taken script past sound pool legal t))

module _ (script : Plan) (past other : List Entry) (sound : IsSound script) (pool : is_pool_script script ≡ true) (legal : IsLegal script past)
    (legal_other : IsLegal script other) (same : SameWork script past other) (e f : Entry) (seat : e.seat ≡ f.seat)
    (alike : without_items e.kind ≡ without_items f.kind) (may : may_come script past e.seat e.kind ≡ true) (may_other : may_come script other f.seat f.kind
    ≡ true) where
  -- who runs on has the same scope in both
  same_from : (s : ℕ) (w : Running) → running past s ≡ Some w → scope_from script past w.task ≡ scope_from script other w.task
  same_from s w is = let here : scope_now script past s ≡ scope_now script other s = same.scopes s in rw (is, sym (same.runs s) ∙ is) at here

  -- and who begins has none in both
  begins : (task runner found : ℕ) (kind like : Kind) → without_items kind ≡ without_items like → kind ≡ kinds.Take task runner found
      → may_come script past e.seat kind ≡ true → may_come script other f.seat like ≡ true → scope_from script past task ≡ scope_from script other task
  begins task runner found kind like same_kind is one two =
      no_scope script past sound pool legal task (takes_fresh script past e.seat kind false task one (ap (takes task) is ∙ eq-eqb task task refl))
      ∙ sym (no_scope script other sound pool legal_other task (takes_fresh script other f.seat like false task two
      (sym (takes_told task kind like same_kind) ∙ ap (takes task) is ∙ eq-eqb task task refl)))

  before_same : (s : ℕ) (w : Running) → running (past ++ e ∷ []) s ≡ Some w → scope_from script past w.task ≡ scope_from script other w.task
  before_same s w runs = by_seat (eqb e.seat s) (sym (running_push past e s) ∙ runs)
    where
      by_kind : (kind : Kind) → e.kind ≡ kind → running_after (running past s) kind ≡ Some w → scope_from script past w.task ≡ scope_from script other w.task
      by_kind (kinds.Take task runner found) is after =
          subst (λ (v : Running). scope_from script past v.task ≡ scope_from script other v.task) (same_Some _ _ after)
          (begins task runner found e.kind f.kind alike is may may_other)
      by_kind (kinds.MainTake task queue found) is after =
          absurd (no_main_take script past sound pool e.seat task queue found (ap (may_come script past e.seat) (sym is) ∙ may))
      by_kind (kinds.End task left) is after = absurd (none-some w after)
      by_kind (kinds.MainEnd task left) is after = absurd (none-some w after)
      by_kind kind is after = same_from s w after

      by_seat : (b : Bool) → cond b (running_after (running past s) e.kind) (running past s) ≡ Some w
          → scope_from script past w.task ≡ scope_from script other w.task
      by_seat true after = by_kind e.kind refl after
      by_seat false after = same_from s w after

  pub scopes_on : (s : ℕ) → scope_now script (past ++ e ∷ []) s ≡ scope_now script (other ++ f ∷ []) s
  scopes_on s = by_running (running (past ++ e ∷ []) s) refl
    where
      from_told : (t : ℕ) → from_after script (now_of other) (now_of (other ++ f ∷ [])) t (scope_from script other t) e.kind
          ≡ from_after script (now_of other) (now_of (other ++ f ∷ [])) t (scope_from script other t) f.kind
      from_told t = same_told (from_after script (now_of other) (now_of (other ++ f ∷ [])) t (scope_from script other t))
          (by_jobs (from_after script (now_of other) (now_of (other ++ f ∷ [])) t (scope_from script other t)) (λ j i n. refl) (λ j i n v k. refl)
          (λ j n. refl))
          e.kind f.kind alike

      now : now_of (past ++ e ∷ []) ≡ now_of (other ++ f ∷ [])
      now = now_on script past other same e f seat alike

      by_running : (o : Option Running) → running (past ++ e ∷ []) s ≡ o → scope_now script (past ++ e ∷ []) s ≡ scope_now script (other ++ f ∷ []) s
      by_running None is = rw (is, sym (runs_on script past other same e f seat alike s) ∙ is) refl
      by_running (Some w) is = rw (is, sym (runs_on script past other same e f seat alike s) ∙ is)
          (scope_push script past e (rises_at script past e may) w.task
          ∙ ap (λ n. from_after script n (now_of (past ++ e ∷ [])) w.task (scope_from script past w.task) e.kind) same.now
          ∙ ap (λ n. from_after script (now_of other) n w.task (scope_from script past w.task) e.kind) now
          ∙ ap (λ o. from_after script (now_of other) (now_of (other ++ f ∷ [])) w.task o e.kind) (before_same s w is)
          ∙ from_told w.task
          ∙ sym (scope_push script other f (rises_at script other f may_other) w.task))
