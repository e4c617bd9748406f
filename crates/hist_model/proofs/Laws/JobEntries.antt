-- What is known of an allowed entry of a job: of its entering, of a step, and of a join.
-- Cited by `Laws/Claims`, `Laws/Entries/Jobs`, `Laws/Fitting/Entries`, `Laws/HoldsApart`, `Laws/OpenPlans`, `Laws/Progress/Ends`,
-- `Laws/Ways`, `Laws/Whole/Items`, `jobs.rt`, `env_core`, `env_crew`, `env_step`, `live_core`, `run_summary`, `situation`, `told_context`,
-- `trace_json`.
use Rattle.std.proofs.Common.{◌≡◌, ℕ, true, eqb, List, [], ◌∷◌, length, refl, sym, ap, subst, ◌∙◌, Option, Some, None, ⊎_elim, arith}
use Rattle.std.specs.Prelude.{◌&&◌, is_none}
use Rattle.std.proofs.lemmas.Bool.{eqb-true, and_parts}
use Rattle.task_base.specs.Plan.{Plan}
use Rattle.task_base.specs.declared.entry.Entry.{Entry}
use Rattle.task_base.specs.declared.entry.JobReply.{JobReply}
use Rattle.task_base.specs.declared.entry.JobReply.TheVariants.{Refused, Finished, Cancelled, Stopped}
use Rattle.task_base.specs.declared.entry.Kind.TheVariants as kinds
use Rattle.task_base.specs.declared.script.Action.{Action}
use Rattle.task_base.specs.declared.script.Action.TheVariants as actions
use Rattle.task_base.specs.declared.source.TaskSource.{TaskSource}
use Rattle.task_base.specs.declared.source.TaskSource.TheVariants.{Sequence, Job}
use Rattle.list_laws.specs.Lists.{holds_of}
use Rattle.task_model.specs.Seats.{Holding, holding, inside, running}
use Rattle.task_model.specs.Jobs.{claimed, item_value, free_id, is_empty, reply_of}
use Rattle.pool_laws.specs.Jobs.{MayEnter}
use Rattle.task_model.specs.Sources.{best_of, next_item}
use Rattle.hist_model.specs.Views.{own_entries}
use Rattle.hist_model.specs.Script.{wants}
use Rattle.hist_model.specs.Allowed.{is_job, by_script, enters_job, same_number, same_reply, may_come}
use Rattle.hist_model.specs.Laws.Choice.{IsWaitingSource}
use Rattle.hist_model.specs.Laws.Jobs.{IsEntering, IsJobStep, IsJoin}
use Rattle.hist_model.proofs.Laws.Choice.{found, best_is}
use Rattle.hist_model.proofs.Laws.Takes.{by_driver, job_take_is}
use Rattle.hist_model.proofs.Laws.Open.{closed_or_open}
use Rattle.hist_model.proofs.Laws.OneThing.{wanted_by, served_free, job_take_free}
use Rattle.hist_model.proofs.Laws.Own.{holding_own}

-- an optional value that is none, as a test
pub none_is : {A : Type 0} (o : Option A) → is_none o ≡ true → o ≡ None
none_is None h = refl
none_is (Some x) h = absurd cc

-- two optional numbers that are the same, as a test
pub same_number_is : (a b : Option ℕ) → same_number a b ≡ true → a ≡ b
same_number_is None None h = refl
same_number_is (Some a) (Some b) h = ap Some (eqb-true a b h)
same_number_is None (Some b) h = absurd cc
same_number_is (Some a) None h = absurd cc

-- two replies that are the same, as a test
same_reply_is : (a b : JobReply) → same_reply a b ≡ true → a ≡ b
same_reply_is Refused Refused h = refl
same_reply_is (Finished a) (Finished b) h = ap Finished (eqb-true a b h)
same_reply_is Cancelled Cancelled h = refl
same_reply_is Stopped Stopped h = refl
same_reply_is a b h = absurd cc

pub entering_is : (script : Plan) (past : List Entry) (seat job id item : ℕ) → may_come script past seat (kinds.JobTake job id item) ≡ true
    → IsEntering script past seat job id item
unfolding may_come
entering_is script past seat job id item h =
    let last = and_parts (enters_job script past seat job (kinds.JobTake job id item) && _) (eqb item (claimed past job)) h in
    record {
      holds_nothing = none_is (holding past seat) (job_take_free script past seat job id item h);
      may_be_entered = ⊎_elim
          (λ k. let best = found (λ c. is_job job c.source) (best_of script past seat) k.1 in
          of_job best.value.source best.passes (best_is script past seat best.value best.is).waits)
          (λ k. k.1) (job_take_is script past seat job id item h);
      number_is = same_number_is (free_id script past job) (Some id) (and_parts _ (same_number (free_id script past job) (Some id)) last.0).1;
      item_is = eqb-true item (claimed past job) last.1;
    }
  where
    of_job : (source : TaskSource) → is_job job source ≡ true → IsWaitingSource script past source → MayEnter script past job
    of_job (Sequence s) is waits = absurd cc
    of_job (Job j) is waits = subst (MayEnter script past) (eqb-true j job is) waits

pub job_step_is : (script : Plan) (past : List Entry) (seat job id item value : ℕ) (next : Option ℕ)
    → may_come script past seat (kinds.JobStep job id item value next) ≡ true → IsJobStep script past seat job id item value next
unfolding may_come
job_step_is script past seat job id item value next h =
    let last = and_parts _ (same_number next (next_item script past seat job)) h in
    let front = and_parts (holds_of (λ h. eqb h.job job && eqb h.id id && eqb h.item item) (holding past seat))
    (eqb value (item_value script job item)) last.0 in
    let held = found (λ h. eqb h.job job && eqb h.id id && eqb h.item item) (holding past seat) front.0 in
    record {
      held = held.is ∙ ap Some (same held.value held.passes);
      value_is = eqb-true value (item_value script job item) front.1;
      next_is = same_number_is next (next_item script past seat job) last.1;
    }
  where
    same : (h : Holding) → (eqb h.job job && eqb h.id id && eqb h.item item) ≡ true → h ≡ record { job = job; id = id; item = item }
    same h k =
        let outer = and_parts (eqb h.job job && eqb h.id id) (eqb h.item item) k in
        let inner = and_parts (eqb h.job job) (eqb h.id id) outer.0 in
        rw (← eqb-true h.job job inner.0, ← eqb-true h.id id inner.1, ← eqb-true h.item item outer.1) refl

pub join_is : (script : Plan) (past : List Entry) (seat job : ℕ) (reply : JobReply) → may_come script past seat (kinds.Joined job reply) ≡ true
    → IsJoin script past seat job reply
unfolding may_come
join_is script past seat job reply h =
    let last = and_parts _ (holds_of (same_reply reply) (reply_of script past job)) h in
    let front = and_parts (by_script script past seat (kinds.Joined job reply)) (is_empty script past job) last.0 in
    let said = found (same_reply reply) (reply_of script past job) last.1 in
    record {
      driver = by_driver script past seat (kinds.Joined job reply) front.0;
      holds_nothing = ⊎_elim
          (λ closed. let c = wanted_by script past seat (kinds.Joined job reply) closed front.0 in
          sym (holding_own past 0) ∙ none_is (holding (own_entries 0 past) 0) (wants_nothing (own_entries 0 past) c.value.action c.value.made c.passes))
          (λ opened. none_is (holding past 0) (and_parts (is_none (running past 0)) (is_none (holding past 0))
          (served_free script past seat (kinds.Joined job reply) opened refl front.0)).1)
          (closed_or_open script);
      nobody_inside = nobody (inside script past job) front.1;
      reply_is = said.is ∙ ap Some (sym (same_reply_is reply said.value said.passes));
    }
  where
    wants_nothing : (own : List Entry) (action : Action) (made : List Entry) → wants own action made (kinds.Joined job reply) ≡ true
        → is_none (holding own 0) ≡ true
    wants_nothing own (actions.Join j) made k = (and_parts (eqb job j) (is_none (holding own 0)) k).1
    wants_nothing own action made k = absurd cc

    nobody : {A : Type 0} (xs : List A) → eqb (length xs) 0 ≡ true → xs ≡ []
    nobody [] k = refl
    nobody (x ∷ xs) k = absurd (omega (arith, eqb-true (length (x ∷ xs)) 0 k))
