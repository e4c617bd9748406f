-- In a legal past of a sound script entries name what is declared, and of what is not declared nothing is known.
-- Cited by `Cells`, `Same`, `log_count`.
use Rattle.std.proofs.Common.{◌≡◌, ℕ, ◌+◌, ◌<◌, ◌≤◌, Bool, true, false, cond, eqb, List, [], ◌∷◌, ◌++◌, length, refl, sym, ap, subst, ◌∙◌, Option, Some, None}
use Rattle.std.proofs.Common.{arith, ⊎_elim}
use Rattle.std.specs.Prelude.{◌||◌}
use Rattle.std.specs.List.{AllByRecursion}
use Rattle.std.proofs.lemmas.Bool.{and_parts, eqb-true, or_cases, true≢false, ne_eqb}
use Rattle.std.proofs.lemmas.Option.{none-some, same_Some}
use Rattle.task_base.specs.Plan.{Plan}
use Rattle.task_base.specs.declared.entry.Entry.{Entry}
use Rattle.task_base.specs.declared.entry.Kind.{Kind}
use Rattle.task_base.specs.declared.entry.Kind.TheVariants as kinds
use Rattle.task_base.specs.declared.script.Action.{Action}
use Rattle.task_base.specs.declared.script.Action.TheVariants as actions
use Rattle.task_base.specs.declared.source.TaskSource.{TaskSource}
use Rattle.task_base.specs.declared.source.TaskSource.TheVariants.{Sequence, Job}
use Rattle.task_traits.specs.declared.traits.Priority.{Priority}
use Rattle.list_laws.specs.Lists.{holds_of}
use Rattle.list_laws.proofs.Elements.{AllByRecursion-append, push_induction, AllByRecursion-front, AllByRecursion-back}
use Rattle.list_laws.proofs.Places.{AllByRecursion-push}
use Rattle.script_model.specs.Laws.Sound.{IsSound, IsActionSound}
use Rattle.task_model.specs.Past.{fold_past}
use Rattle.task_model.specs.Posts.{posts, posted_by}
use Rattle.task_model.specs.Refusal.{is_refused}
use Rattle.task_model.specs.Seats.{Holding, holding, holding_after}
use Rattle.task_model.specs.Capacity.{declared_priority, priority_of, priority_after}
use Rattle.task_model.specs.Jobs.{job_post_of, job_post_after, is_cancelled, cancels, claimed, claims}
use Rattle.task_model.specs.Sources.{Candidate, best_of}
use Rattle.task_model.proofs.Growth.{posts_push, holding_push, priority_of_push, job_post_of_push, is_cancelled_push, claimed_push}
use Rattle.pool_laws.proofs.Choice.Least.{best_is_best}
use Rattle.pool_laws.proofs.Choice.Candidates.{waiting_is_free, job_within}
use Rattle.hist_model.specs.Views.{own_entries}
use Rattle.hist_model.specs.Script.{wants}
use Rattle.hist_model.specs.Allowed.{by_script, by_task, is_job, is_reply, may_come}
use Rattle.hist_model.specs.Legal.{IsLegal}
use Rattle.hist_model.proofs.Laws.BySound.{wanted_soundly, entered_soundly}
use Rattle.hist_model.proofs.Laws.Choice.{found}
use Rattle.hist_model.proofs.Laws.JobEntries.{job_step_is}
use Rattle.hist_model.proofs.Laws.Legal.{entry_induction}
use Rattle.hist_model.proofs.Laws.Open.{closed_post}
use Rattle.hist_model.proofs.Laws.Takes.{job_take_is}
use Rattle.hist_model.proofs.Laws.Wants.{wants_post, enters_post}
use Rattle.pool_laws.specs.Choice.{source_waiting}
use Rattle.situation.specs.Declared.{NamesDeclared}

abbrev pub AllDeclared : Plan → List Entry → Type 0
AllDeclared script past = AllByRecursion (λ e. NamesDeclared script e.kind) past

-- ---- what the driver's actions name

reprio_declared : (script : Plan) (own : List Entry) (action : Action) (made : List Entry) (runner : ℕ) (priority : Priority) → IsActionSound script action
    → wants own action made (kinds.Reprio runner priority) ≡ true → runner < length script.runners
reprio_declared script own (actions.Reprio r p) made runner priority sound h = subst (λ n. n < length script.runners) (sym (eqb-true runner r (and_parts
    (eqb runner r) _ h).0)) sound
reprio_declared script own action made runner priority sound h = absurd cc

job_post_declared : (script : Plan) (own : List Entry) (action : Action) (made : List Entry) (job : ℕ) (ok : Bool) → IsActionSound script action
    → wants own action made (kinds.JobPost job ok) ≡ true → job < length script.jobs
job_post_declared script own (actions.StartJob j) made job ok sound h = subst (λ n. n < length script.jobs) (sym (eqb-true job j h)) sound
job_post_declared script own action made job ok sound h = absurd cc

job_cancel_declared : (script : Plan) (own : List Entry) (action : Action) (made : List Entry) (job : ℕ) → IsActionSound script action
    → wants own action made (kinds.JobCancel job) ≡ true → job < length script.jobs
job_cancel_declared script own (actions.Cancel j) made job sound h = subst (λ n. n < length script.jobs) (sym (eqb-true job j (and_parts
    (eqb job j) _ h).0)) sound
job_cancel_declared script own action made job sound h = absurd cc

job_take_declared : (script : Plan) (own : List Entry) (action : Action) (made : List Entry) (job id item : ℕ) → IsActionSound script action
    → wants own action made (kinds.JobTake job id item) ≡ true → job < length script.jobs
job_take_declared script own (actions.Join j) made job id item sound h = subst (λ n. n < length script.jobs) (sym (eqb-true job j (and_parts
    (eqb job j) _ h).0)) sound
job_take_declared script own action made job id item sound h = absurd cc

-- who holds an item holds one of a declared job
holding_declared : (script : Plan) (past : List Entry) → AllDeclared script past → (seat : ℕ) (h : Holding) → holding past seat ≡ Some h
    → h.job < length script.jobs
unfolding holding
holding_declared script = push_induction (λ past. AllDeclared script past → (seat : ℕ) (h : Holding) → holding past seat ≡ Some h → h.job < length script.jobs)
    (λ all seat h is. absurd (none-some h is))
    (λ past e before all seat h is. at past e seat (before (AllByRecursion-front (λ x. NamesDeclared script x.kind) past (e ∷ []) all) seat)
    (AllByRecursion-back (λ x. NamesDeclared script x.kind) past (e ∷ []) all).0 (eqb e.seat seat) h (sym (holding_push past e seat) ∙ is))
  where
    by_kind : (kind : Kind) (o : Option Holding) → ((h : Holding) → o ≡ Some h → h.job < length script.jobs) → NamesDeclared script kind → (h : Holding)
        → holding_after o kind ≡ Some h → h.job < length script.jobs
    by_kind (kinds.JobTake job id item) o before named h is = subst (λ (k : Holding). k.job < length script.jobs) (same_Some _ _ is) named
    by_kind (kinds.JobStep job id item value (Some next)) o before named h is = subst (λ (k : Holding). k.job < length script.jobs) (same_Some _ _ is) named
    by_kind (kinds.JobStep job id item value None) o before named h is = absurd (none-some h is)
    by_kind kind o before named h is = before h is

    at : (past : List Entry) (e : Entry) (seat : ℕ) → ((h : Holding) → holding past seat ≡ Some h → h.job < length script.jobs) → NamesDeclared script e.kind
        → (b : Bool) (h : Holding) → cond b (holding_after (holding past seat) e.kind) (holding past seat) ≡ Some h → h.job < length script.jobs
    at past e seat before named true h is = by_kind e.kind (holding past seat) before named h is
    at past e seat before named false h is = before h is

-- ---- what an entry names that may come

module _ (script : Plan) (past : List Entry) (sound : IsSound script) (all : AllDeclared script past) where
  post_declared : (seat task runner delay : ℕ) (ok : Bool) → may_come script past seat (kinds.Post task runner delay ok) ≡ true → runner < length script.runners
  unfolding may_come
  post_declared seat task runner delay ok may =
      let kind : Kind = kinds.Post task runner delay ok in
      let parts = and_parts (by_script script past seat kind || by_task script past seat kind) (is_reply (is_refused script past runner delay) ok)
      (sym (closed_post script past seat task runner delay ok sound.closed) ∙ may) in
      ⊎_elim by_action by_step (or_cases (by_script script past seat kind) (by_task script past seat kind) parts.0)
    where
      by_action : by_script script past seat (kinds.Post task runner delay ok) ≡ true → runner < length script.runners
      by_action by =
          let w = wanted_soundly script past seat (kinds.Post task runner delay ok) sound by in
          (rw (wants_post (own_entries 0 past) w.action w.made task runner delay ok w.wanted) at w.sound).0.runner_declared

      by_step : by_task script past seat (kinds.Post task runner delay ok) ≡ true → runner < length script.runners
      by_step by =
          let w = entered_soundly script past seat (kinds.Post task runner delay ok) sound by in
          (rw (enters_post w.now.task w.step task runner delay ok w.entered) at w.sound).1.runner_declared

  worker_job_declared : (seat job : ℕ) → holds_of (λ (c : Candidate). is_job job c.source) (best_of script past seat) ≡ true → job < length script.jobs
  worker_job_declared seat job h =
      let c = found (λ (x : Candidate). is_job job x.source) (best_of script past seat) h in
      by_source c.value c.value.source refl (waiting_is_free script past c.value (best_is_best script past seat c.value c.is).takeable.0).candidate c.passes
    where
      by_source : (c : Candidate) (source : TaskSource) → c.source ≡ source → source_waiting script past c.source ≡ Some c → is_job job c.source ≡ true
          → job < length script.jobs
      by_source c (Sequence s) is waits passes = absurd (true≢false (sym passes ∙ ap (is_job job) is))
      by_source c (Job j) is waits passes =
          subst (λ n. n < length script.jobs) (eqb-true j job (sym (ap (is_job job) is) ∙ passes))
          (job_within script past j c (sym (ap (source_waiting script past) is) ∙ waits)).0

  entry_declared : (seat : ℕ) (kind : Kind) → may_come script past seat kind ≡ true → NamesDeclared script kind
  unfolding may_come
  entry_declared seat (kinds.Post task runner delay ok) may = post_declared seat task runner delay ok may
  entry_declared seat (kinds.Reprio runner priority) may =
      let w = wanted_soundly script past seat (kinds.Reprio runner priority) sound may in
      reprio_declared script (own_entries 0 past) w.action w.made runner priority w.sound w.wanted
  entry_declared seat (kinds.JobPost job ok) may =
      let w = wanted_soundly script past seat (kinds.JobPost job ok) sound (and_parts (by_script script past seat (kinds.JobPost job ok)) _ may).0 in
      job_post_declared script (own_entries 0 past) w.action w.made job ok w.sound w.wanted
  entry_declared seat (kinds.JobCancel job) may =
      let w = wanted_soundly script past seat (kinds.JobCancel job) sound may in
      job_cancel_declared script (own_entries 0 past) w.action w.made job w.sound w.wanted
  entry_declared seat (kinds.JobTake job id item) may = ⊎_elim (λ k. worker_job_declared seat job k.1)
      (λ k. let w = wanted_soundly script past seat (kinds.JobTake job id item) sound k.0 in
      job_take_declared script (own_entries 0 past) w.action w.made job id item w.sound w.wanted) (job_take_is script past seat job id item may)
  entry_declared seat (kinds.JobStep job id item value next) may =
      let s = job_step_is script past seat job id item value next may in
      holding_declared script past all seat (record { job = job; id = id; item = item }) s.held
  entry_declared seat kind may = tt

-- so all entries of a legal past name what is declared
pub all_declared : (script : Plan) (past : List Entry) → IsSound script → IsLegal script past → AllDeclared script past
all_declared script past sound = entry_induction script (AllDeclared script) tt
    (λ before e known may all. AllByRecursion-push (λ x. NamesDeclared script x.kind) before e all
    (entry_declared script before sound all e.seat e.kind may)) past

-- ---- of what is not declared nothing is known

declared_push : {A : Type 0} (script : Plan) (notion : List Entry → A) (step : List Entry → A → Kind → A) (start : A)
    → ((past : List Entry) (e : Entry) → notion (past ++ e ∷ []) ≡ step past (notion past) e.kind)
    → ((past : List Entry) (kind : Kind) → NamesDeclared script kind → step past start kind ≡ start)
    → notion [] ≡ start → (past : List Entry) → AllDeclared script past → notion past ≡ start
declared_push script notion step start push still begins = push_induction (λ past. AllDeclared script past → notion past ≡ start) (λ all. begins)
    (λ past e before all. push past e ∙ ap (λ v. step past v e.kind) (before (AllByRecursion-front (λ x. NamesDeclared script x.kind) past (e ∷ []) all))
    ∙ still past e.kind (AllByRecursion-back (λ x. NamesDeclared script x.kind) past (e ∷ []) all).0)

no_other : (i n m : ℕ) → n ≤ i → m < n → eqb m i ≡ false
no_other i n m past less = ne_eqb m i (λ same. absurd (omega (arith, past, less, same)))

pub priority_undeclared : (script : Plan) (runner : ℕ) → length script.runners ≤ runner → (past : List Entry) → AllDeclared script past
    → priority_of script past runner ≡ declared_priority script runner
unfolding priority_of
priority_undeclared script runner beyond = declared_push script (λ past. priority_of script past runner) (λ past now kind. priority_after runner now kind)
    (declared_priority script runner) (λ past e. priority_of_push script past e runner) still refl
  where
    still : (past : List Entry) (kind : Kind) → NamesDeclared script kind
        → priority_after runner (declared_priority script runner) kind ≡ declared_priority script runner
    still past (kinds.Reprio changed priority) named = rw (no_other runner (length script.runners) changed beyond named) refl
    still past kind named = refl

pub job_post_undeclared : (script : Plan) (j : ℕ) → length script.jobs ≤ j → (past : List Entry) → AllDeclared script past → job_post_of past j ≡ None
unfolding job_post_of fold_past
job_post_undeclared script j beyond = declared_push script (λ past. job_post_of past j) (λ past now kind. job_post_after j past now kind)
    None (λ past e. job_post_of_push past e j) still refl
  where
    still : (past : List Entry) (kind : Kind) → NamesDeclared script kind → job_post_after j past None kind ≡ None
    still past (kinds.JobPost job ok) named = rw (no_other j (length script.jobs) job beyond named) refl
    still past kind named = refl

pub cancelled_undeclared : (script : Plan) (j : ℕ) → length script.jobs ≤ j → (past : List Entry) → AllDeclared script past → is_cancelled past j ≡ false
unfolding is_cancelled
cancelled_undeclared script j beyond = declared_push script (λ past. is_cancelled past j) (λ past now kind. now || cancels j kind)
    false (λ past e. is_cancelled_push past e j) still refl
  where
    still : (past : List Entry) (kind : Kind) → NamesDeclared script kind → cancels j kind ≡ false
    still past (kinds.JobCancel job) named = no_other j (length script.jobs) job beyond named
    still past kind named = refl

pub claimed_undeclared : (script : Plan) (j : ℕ) → length script.jobs ≤ j → (past : List Entry) → AllDeclared script past → claimed past j ≡ 0
unfolding claimed
claimed_undeclared script j beyond = declared_push script (λ past. claimed past j) (λ past now kind. now + cond (claims j kind) 1 0)
    0 (λ past e. claimed_push past e j) still refl
  where
    still : (past : List Entry) (kind : Kind) → NamesDeclared script kind → 0 + cond (claims j kind) 1 0 ≡ 0
    still past (kinds.JobTake job id item) named = rw (no_other j (length script.jobs) job beyond named) refl
    still past (kinds.JobStep job id item value next) named = rw (no_other j (length script.jobs) job beyond named) refl
    still past kind named = refl

-- ---- accepted tasks, and cells

pub posts_declared : (script : Plan) (past : List Entry) → AllDeclared script past → AllByRecursion (λ p. p.home < length script.runners) (posts past)
unfolding posts fold_past
posts_declared script = push_induction (λ past. AllDeclared script past → AllByRecursion (λ p. p.home < length script.runners) (posts past)) (λ all. tt)
    (λ past e before all. subst (AllByRecursion (λ p. p.home < length script.runners)) (sym (posts_push past e))
    (AllByRecursion-append (λ p. p.home < length script.runners) (posts past) (posted_by past e.kind)
    (before (AllByRecursion-front (λ x. NamesDeclared script x.kind) past (e ∷ []) all))
    (added past e.kind (AllByRecursion-back (λ x. NamesDeclared script x.kind) past (e ∷ []) all).0)))
  where
    added : (past : List Entry) (kind : Kind) → NamesDeclared script kind → AllByRecursion (λ p. p.home < length script.runners) (posted_by past kind)
    added past (kinds.Post task runner delay true) named = (named, tt)
    added past kind named = tt
