-- Calm scripts, whose logs have no tick, no policy, no fence, no vote, no rank, no close, no cancel, no shutdown and no scope: what
-- stays as it was at first in each legal log of theirs. The generated scripts are calm.
-- Cited by `Items`, `Joins`, `Tasks/Adding`, `Tasks/Comes`, `Tasks/Numbers`, `Tasks/Posted`, `Tasks/Pumped`, `Tasks/Rest`.
use Rattle.hist_model.proofs.Laws.BySound.{current_is_one}
use Rattle.std.proofs.Common.{◌≡◌, ℕ, ◌+◌, Bool, true, false, cond, eqb, leb, List, [], ◌∷◌, ◌++◌}
use Rattle.std.proofs.Common.{length, refl, sym, ap, ◌∙◌, Option, Some, None, ⊎_elim}
use Rattle.std.specs.Prelude.{◌&&◌, ◌||◌, not, filter, slice_get, option_and_then}
use Rattle.std.specs.List.{AllByRecursion}
use Rattle.std.specs.Option.{option_map_or, option_map}
use Rattle.std.proofs.lemmas.Bool.{eqb-true, and_parts, or_cases, true≢false}
use Rattle.std.proofs.lemmas.Option.{slice_get-map}
use Rattle.task_base.specs.declared.limits.TheConstants.{LAST_MOMENT}
use Rattle.task_base.specs.Plan.{Plan}
use Rattle.task_base.specs.Steps.{is_act}
use Rattle.task_base.specs.declared.step.Step.{Step}
use Rattle.task_base.specs.declared.step.Step.TheVariants.{Add}
use Rattle.task_base.specs.declared.entry.Entry.{Entry}
use Rattle.task_base.specs.declared.entry.Kind.{Kind}
use Rattle.task_base.specs.declared.entry.Kind.TheVariants as kinds
use Rattle.task_base.specs.declared.policy.Policy.{Policy}
use Rattle.task_base.specs.declared.policy.Policy.TheVariants as policies
use Rattle.task_base.specs.declared.script.Action.{Action}
use Rattle.task_base.specs.declared.script.Action.TheVariants as actions
use Rattle.task_traits.specs.declared.phase.Phase.{Phase}
use Rattle.task_traits.specs.declared.phase.Phase.TheVariants as phases
use Rattle.task_traits.specs.Behaviour.{forbids}
use Rattle.task_traits.specs.declared.traits.Behaviour.{Behaviour}
use Rattle.list_laws.specs.Lists.{holds_of}
use Rattle.list_laws.proofs.Elements.{AllByRecursion-append}
use Rattle.list_laws.proofs.Places.{AllByRecursion-push}
use Rattle.task_model.specs.Past.{fold_past}
use Rattle.task_model.specs.Phase.{phase_of, phase_after}
use Rattle.task_model.specs.Policies.{policy_of, policy_after}
use Rattle.task_model.specs.Time.{now_of, now_after}
use Rattle.task_model.specs.Posts.{posts, posted_by, main_posts, main_posted_by}
use Rattle.task_model.specs.Refusal.{is_refused, effective_at, is_job_forbidden, behaviour_of_job, is_closed, closes}
use Rattle.task_model.specs.Seats.{Running, running, steps_of, acts_done}
use Rattle.task_model.specs.Jobs.{JobPosted, job_post_of, job_post_after, is_cancelled, cancels, is_empty}
use Rattle.task_model.specs.Blockers.{blockers_of}
use Rattle.task_model.specs.MainQueues.{fence_of, fence_after, votes_on, vote_after}
use Rattle.task_model.proofs.Growth.{phase_of_push, policy_of_push, now_of_push, posts_push, main_posts_push, is_closed_push}
use Rattle.task_model.proofs.Growth.{job_post_of_push, is_cancelled_push, fence_of_push, votes_on_push}
use Rattle.hist_model.specs.Views.{own_entries}
use Rattle.hist_model.specs.Script.{Current, wants}
use Rattle.hist_model.specs.Allowed.{by_script, by_task, enters, is_reply, may_come}
use Rattle.hist_model.specs.Legal.{IsLegal}
use Rattle.hist_model.specs.Open.{IsClosed}
use Rattle.hist_model.proofs.Laws.Legal.{entry_induction}
use Rattle.hist_model.proofs.Laws.OneThing.{wanted_by}
use Rattle.hist_model.proofs.Laws.Open.{closed_enters, closed_leaves, closed_main, closed_post}
use Rattle.task_script.specs.Generated.{numbers_behind, amount_of, goal_of, posting_of, postings_from, generated}

-- the action is of one of the kinds that a generated script has, without a delay
abbrev pub is_calm_action : Action → Bool
is_calm_action (actions.Post t r d) = eqb d 0
is_calm_action (actions.Main t q d) = eqb d 0
is_calm_action (actions.Pump n) = true
is_calm_action (actions.StartJob j) = true
is_calm_action (actions.Join j) = true
is_calm_action actions.Flush = true
is_calm_action action = false

-- the entry is of one of the kinds that such a script may have: a task that is posted without a delay, taken or ended, a pump that
-- finds no task, a job that is posted, entered, gone on with or joined, or a pool at rest
abbrev pub is_calm : Kind → Bool
is_calm (kinds.Post task runner delay ok) = eqb delay 0
is_calm (kinds.Main task queue delay ok) = eqb delay 0
is_calm (kinds.Take task runner found) = true
is_calm (kinds.End task left) = true
is_calm (kinds.MainTake task queue found) = true
is_calm (kinds.MainEnd task left) = true
is_calm kinds.MainNone = true
is_calm (kinds.JobPost job ok) = true
is_calm (kinds.JobTake job id item) = true
is_calm (kinds.JobStep job id item value next) = true
is_calm (kinds.Joined job reply) = true
is_calm kinds.Idle = true
is_calm kind = false

-- the entry is no post that is refused
abbrev pub is_accepting : Kind → Bool
is_accepting (kinds.Post task runner delay ok) = ok
is_accepting (kinds.Main task queue delay ok) = ok
is_accepting (kinds.JobPost job ok) = ok
is_accepting kind = true

-- it is no open plan, each action is calm, and no task has an act step
pub record IsCalmScript (script : Plan) : Type 0 where
  pub closed : IsClosed script
  pub actions : AllByRecursion (λ action. is_calm_action action ≡ true) script.actions
  pub no_acts : (t : ℕ) → filter is_act (steps_of script t) ≡ []

-- what a log has that is calm up to here: no entry of another kind, no refusal, and nothing that such entries change
pub record IsCalm (past : List Entry) : Type 0 where
  pub kinds : AllByRecursion (λ e. is_calm e.kind ≡ true) past
  pub accepted : AllByRecursion (λ e. is_accepting e.kind ≡ true) past
  pub phase : phase_of past ≡ phases.Running
  pub policy : policy_of past ≡ policies.All
  pub moment : now_of past ≡ 0
  pub not_closed : (q : ℕ) → is_closed past q ≡ false
  pub not_cancelled : (j : ℕ) → is_cancelled past j ≡ false
  pub no_fence : (q : ℕ) → fence_of past q ≡ None
  pub votes : (q v : ℕ) → votes_on past q v ≡ true
  pub posted : AllByRecursion (λ p. p.delay ≡ 0) (posts past)
  pub main_posted : AllByRecursion (λ p. p.delay ≡ 0) (main_posts past)
  pub no_job_refused : (j : ℕ) → holds_of (λ p. not p.ok) (job_post_of past j) ≡ false

-- an entry that the driver makes by the script is wanted by one of its actions
pub wanted_by_one : (P : Action → Type 0) (script : Plan) (past : List Entry) (seat : ℕ) (kind : Kind) → IsClosed script
    → AllByRecursion P script.actions → by_script script past seat kind ≡ true
    → (c : Current) × P c.action × (wants (own_entries 0 past) c.action c.made kind ≡ true)
wanted_by_one P script past seat kind closed all by =
    let c = wanted_by script past seat kind closed by in
    (c.value, current_is_one P script (own_entries 0 past) c.value all c.is, c.passes)

-- a calm action wants only calm entries
calm_wants : (own : List Entry) (action : Action) (made : List Entry) (kind : Kind) → is_calm_action action ≡ true → wants own action made kind ≡ true
    → is_calm kind ≡ true
calm_wants own (actions.Post u r d) made (kinds.Post task runner delay ok) calm h =
    ap (λ n. eqb n 0) (eqb-true delay d (and_parts _ (eqb delay d) h).1) ∙ calm
calm_wants own (actions.Main u q d) made (kinds.Main task queue delay ok) calm h =
    ap (λ n. eqb n 0) (eqb-true delay d (and_parts _ (eqb delay d) h).1) ∙ calm
calm_wants own action made (kinds.MainTake task queue found) calm h = refl
calm_wants own action made kinds.MainNone calm h = refl
calm_wants own action made (kinds.JobPost job ok) calm h = refl
calm_wants own action made (kinds.JobTake job id item) calm h = refl
calm_wants own action made (kinds.Joined job reply) calm h = refl
calm_wants own action made kinds.Idle calm h = refl
calm_wants own action made kind calm h = absurd cc

-- so what comes by a calm script is calm
pub calm_by_script : (script : Plan) (past : List Entry) (seat : ℕ) (kind : Kind) → IsCalmScript script → by_script script past seat kind ≡ true
    → is_calm kind ≡ true
calm_by_script script past seat kind calm by =
    let (c, is, h) = wanted_by_one (λ action. is_calm_action action ≡ true) script past seat kind calm.closed calm.actions by in
    calm_wants (own_entries 0 past) c.action c.made kind is h

-- where no task has an act step, nothing comes by a task
pub none_by_task : (script : Plan) (past : List Entry) (seat : ℕ) (kind : Kind) → ((t : ℕ) → filter is_act (steps_of script t) ≡ [])
    → by_task script past seat kind ≡ false
unfolding by_task
none_by_task script past seat kind no_acts = at (running past seat)
  where
    none : (t n : ℕ) → slice_get (filter is_act (steps_of script t)) n ≡ None
    none t n = ap (λ xs. slice_get xs n) (no_acts t)

    at : (o : Option Running) → holds_of (λ w. holds_of (λ step. enters w.task step kind)
        (option_and_then (λ v. slice_get (filter is_act (steps_of script v.task)) (acts_done past seat)) o)) o ≡ false
    at None = refl
    at (Some w) = ap (holds_of (λ step. enters w.task step kind)) (none w.task (acts_done past seat))

-- a reply to what is not refused
not_refused : (wanted refused ok : Bool) → (wanted && is_reply refused ok) ≡ true → refused ≡ false → ok ≡ true
not_refused wanted true ok h free = absurd cc
not_refused true false ok h free = h
not_refused false false ok h free = absurd cc

-- while the pool runs, no phase forbids anything
running_forbids : (past : List Entry) (b : Behaviour) → phase_of past ≡ phases.Running → forbids (phase_of past) b ≡ false
running_forbids past b is = ap (λ phase. forbids phase b) is

-- so no task is refused
pub calm_refuses_none : (script : Plan) (past : List Entry) (runner delay : ℕ) → IsCalm past → is_refused script past runner delay ≡ false
calm_refuses_none script past runner delay c = running_forbids past (effective_at script runner delay) c.phase

-- and no job is forbidden
pub calm_forbids_no_job : (script : Plan) (past : List Entry) (j : ℕ) → IsCalm past → is_job_forbidden script past j ≡ false
calm_forbids_no_job script past j c = running_forbids past (behaviour_of_job script j) c.phase

-- what comes by a calm script or by a task of it is calm
calm_by_either : (script : Plan) (past : List Entry) (seat : ℕ) (kind : Kind) → IsCalmScript script
    → (by_script script past seat kind || by_task script past seat kind) ≡ true → is_calm kind ≡ true
calm_by_either script past seat kind calm by = ⊎_elim (calm_by_script script past seat kind calm)
    (λ k. absurd (true≢false (sym k ∙ none_by_task script past seat kind calm.no_acts))) (or_cases _ _ by)

-- what may come behind a calm log of a calm script is calm
calm_comes : (script : Plan) (past : List Entry) (seat : ℕ) (kind : Kind) → IsCalmScript script → may_come script past seat kind ≡ true → is_calm kind ≡ true
unfolding may_come
calm_comes script past seat (kinds.Post task runner delay ok) calm h = calm_by_either script past seat (kinds.Post task runner delay ok) calm
    (and_parts _ (is_reply (is_refused script past runner delay) ok) (sym (closed_post script past seat task runner delay ok calm.closed) ∙ h)).0
calm_comes script past seat (kinds.Main task queue delay ok) calm h = calm_by_either script past seat (kinds.Main task queue delay ok) calm
    (and_parts _ (is_reply (is_closed past queue) ok) (sym (closed_main script past seat task queue delay ok calm.closed) ∙ h)).0
calm_comes script past seat (kinds.Take task runner found) calm h = refl
calm_comes script past seat (kinds.End task left) calm h = refl
calm_comes script past seat (kinds.MainTake task queue found) calm h = refl
calm_comes script past seat (kinds.MainEnd task left) calm h = refl
calm_comes script past seat kinds.MainNone calm h = refl
calm_comes script past seat (kinds.JobPost job ok) calm h = refl
calm_comes script past seat (kinds.JobTake job id item) calm h = refl
calm_comes script past seat (kinds.JobStep job id item value next) calm h = refl
calm_comes script past seat (kinds.Joined job reply) calm h = refl
calm_comes script past seat kinds.Idle calm h = refl
calm_comes script past seat (kinds.Enter task scope) calm h =
    absurd (true≢false (sym h ∙ closed_enters script past seat task scope calm.closed ∙ none_by_task script past seat (kinds.Enter task scope) calm.no_acts))
calm_comes script past seat (kinds.Leave task) calm h =
    absurd (true≢false (sym h ∙ closed_leaves script past seat task calm.closed ∙ none_by_task script past seat (kinds.Leave task) calm.no_acts))
calm_comes script past seat (kinds.Tick now) calm h = calm_by_script script past seat (kinds.Tick now) calm
    (and_parts (by_script script past seat (kinds.Tick now)) _ (and_parts _ (leb now LAST_MOMENT) h).0).0
calm_comes script past seat (kinds.Cancelled job) calm h = calm_by_script script past seat (kinds.Cancelled job) calm
    (and_parts (by_script script past seat (kinds.Cancelled job)) _ (and_parts _ (is_empty script past job) h).0).0
calm_comes script past seat kinds.Done calm h = calm_by_script script past seat kinds.Done calm
    (and_parts (by_script script past seat kinds.Done) _ (and_parts _ (eqb (blockers_of script past) 0) h).0).0
calm_comes script past seat kind calm h = calm_by_script script past seat kind calm h

-- and it is no refusal
accepts : (script : Plan) (past : List Entry) (seat : ℕ) (kind : Kind) → IsCalm past → may_come script past seat kind ≡ true → is_accepting kind ≡ true
unfolding may_come
accepts script past seat (kinds.Post task runner delay ok) c h =
    not_refused _ (is_refused script past runner delay) ok h (calm_refuses_none script past runner delay c)
accepts script past seat (kinds.Main task queue delay ok) c h = not_refused _ (is_closed past queue) ok h (c.not_closed queue)
accepts script past seat (kinds.JobPost job ok) c h = not_refused _ (is_job_forbidden script past job) ok h (calm_forbids_no_job script past job c)
accepts script past seat kind c h = refl

-- a calm entry leaves what was at first
calm_phase : (now : Phase) (kind : Kind) → is_calm kind ≡ true → phase_after now kind ≡ now
calm_phase now kinds.Shutdown h = absurd cc
calm_phase now kinds.Done h = absurd cc
calm_phase now kind h = refl

-- it leaves the policy
calm_policy : (now : Policy) (kind : Kind) → is_calm kind ≡ true → policy_after now kind ≡ now
calm_policy now (kinds.Policy policy) h = absurd cc
calm_policy now kind h = refl

-- and the moment
calm_now : (now : ℕ) (kind : Kind) → is_calm kind ≡ true → now_after now kind ≡ now
calm_now now (kinds.Tick moment) h = absurd cc
calm_now now kind h = refl

-- it closes no queue
calm_closes : (q : ℕ) (kind : Kind) → is_calm kind ≡ true → closes q kind ≡ false
calm_closes q (kinds.Close queue) h = absurd cc
calm_closes q kind h = refl

-- and cancels no job
calm_cancels : (j : ℕ) (kind : Kind) → is_calm kind ≡ true → cancels j kind ≡ false
calm_cancels j (kinds.JobCancel job) h = absurd cc
calm_cancels j kind h = refl

-- it sets and removes no fence
calm_fence : (q : ℕ) (past : List Entry) (now : Option ℕ) (kind : Kind) → is_calm kind ≡ true → fence_after q past now kind ≡ now
calm_fence q past now (kinds.Fence queue at) h = absurd cc
calm_fence q past now (kinds.Unfence queue) h = absurd cc
calm_fence q past now kind h = refl

-- and changes no vote
calm_vote : (q v : ℕ) (now : Bool) (kind : Kind) → is_calm kind ≡ true → vote_after q v now kind ≡ now
calm_vote q v now (kinds.Vote queue voter on) h = absurd cc
calm_vote q v now kind h = refl

-- what it posts is not delayed, to a runner
calm_posted : (past : List Entry) (kind : Kind) → is_calm kind ≡ true → AllByRecursion (λ p. p.delay ≡ 0) (posted_by past kind)
calm_posted past (kinds.Post task runner delay true) h = (eqb-true delay 0 h, tt)
calm_posted past (kinds.Post task runner delay false) h = tt
calm_posted past kind h = tt

-- and to a main queue
calm_main_posted : (past : List Entry) (kind : Kind) → is_calm kind ≡ true → AllByRecursion (λ p. p.delay ≡ 0) (main_posted_by past kind)
calm_main_posted past (kinds.Main task queue delay true) h = (eqb-true delay 0 h, tt)
calm_main_posted past (kinds.Main task queue delay false) h = tt
calm_main_posted past kind h = tt

-- an entry that is no refusal refuses no job
accepting_job : (j : ℕ) (past : List Entry) (now : Option JobPosted) (kind : Kind) → is_accepting kind ≡ true → holds_of (λ p. not p.ok) now ≡ false
    → holds_of (λ p. not p.ok) (job_post_after j past now kind) ≡ false
accepting_job j past None (kinds.JobPost job ok) h k = at (eqb job j)
  where
    at : (b : Bool) → holds_of (λ (p : JobPosted). not p.ok) (cond b (Some (record { place = length past; ok = ok })) None) ≡ false
    at true = ap not h
    at false = refl
accepting_job j past (Some p) kind h k = k
accepting_job j past None kind h k = k

-- one more calm entry keeps a log calm
calm_next : (past : List Entry) (e : Entry) → is_calm e.kind ≡ true → is_accepting e.kind ≡ true → IsCalm past → IsCalm (past ++ e ∷ [])
calm_next past e calm accepting c = record {
  kinds = AllByRecursion-push (λ x. is_calm x.kind ≡ true) past e c.kinds calm;
  accepted = AllByRecursion-push (λ x. is_accepting x.kind ≡ true) past e c.accepted accepting;
  phase = phase_of_push past e ∙ calm_phase (phase_of past) e.kind calm ∙ c.phase;
  policy = policy_of_push past e ∙ calm_policy (policy_of past) e.kind calm ∙ c.policy;
  moment = now_of_push past e ∙ calm_now (now_of past) e.kind calm ∙ c.moment;
  not_closed = λ q. is_closed_push past e q ∙ rw (c.not_closed q, calm_closes q e.kind calm) refl;
  not_cancelled = λ j. is_cancelled_push past e j ∙ rw (c.not_cancelled j, calm_cancels j e.kind calm) refl;
  no_fence = λ q. fence_of_push past e q ∙ calm_fence q past (fence_of past q) e.kind calm ∙ c.no_fence q;
  votes = λ q v. votes_on_push past e q v ∙ calm_vote q v (votes_on past q v) e.kind calm ∙ c.votes q v;
  posted = rw (posts_push past e)
      (AllByRecursion-append (λ p. p.delay ≡ 0) (posts past) (posted_by past e.kind) c.posted (calm_posted past e.kind calm));
  main_posted = rw (main_posts_push past e)
      (AllByRecursion-append (λ p. p.delay ≡ 0) (main_posts past) (main_posted_by past e.kind) c.main_posted (calm_main_posted past e.kind calm));
  no_job_refused = λ j. rw (job_post_of_push past e j) (accepting_job j past (job_post_of past j) e.kind accepting (c.no_job_refused j));
}

-- the empty log is calm
nothing_is_calm : IsCalm []
unfolding phase_of policy_of now_of is_closed is_cancelled fence_of votes_on posts main_posts job_post_of fold_past
nothing_is_calm = record {
  kinds = tt;
  accepted = tt;
  phase = refl;
  policy = refl;
  moment = refl;
  not_closed = λ q. refl;
  not_cancelled = λ j. refl;
  no_fence = λ q. refl;
  votes = λ q v. refl;
  posted = tt;
  main_posted = tt;
  no_job_refused = λ j. refl;
}

-- each legal log of a calm script is calm
pub calm_logs : (script : Plan) → IsCalmScript script → (past : List Entry) → IsLegal script past → IsCalm past
calm_logs script calm = entry_induction script IsCalm nothing_is_calm (λ past e known may c.
    calm_next past e (calm_comes script past e.seat e.kind calm may) (accepts script past e.seat e.kind c may) c)

-- the posts of a generated script are calm
calm_posting : (t x : ℕ) → is_calm_action (posting_of t x) ≡ true
calm_posting t x = at (eqb (goal_of x) 4)
  where
    at : (b : Bool) → is_calm_action (cond b (actions.Main t 0 0) (actions.Post t (goal_of x) 0)) ≡ true
    at true = refl
    at false = refl

-- what holds of each post of a generated script
pub postings_all : (P : Action → Type 0) → ((t x : ℕ) → P (posting_of t x)) → (t : ℕ) (xs : List ℕ) → AllByRecursion P (postings_from t xs)
postings_all P each t [] = tt
postings_all P each t (x ∷ xs) = (each t x, postings_all P each (t + 1) xs)

-- generated scripts are calm
pub generated_is_calm : (number size : ℕ) → IsCalmScript (generated number size)
unfolding generated
generated_is_calm number size = record {
  closed = refl;
  actions = (
    refl,
    AllByRecursion-append (λ action. is_calm_action action ≡ true) (postings_from 0 (numbers_behind number size))
        (actions.Pump size ∷ actions.Join 0 ∷ actions.Flush ∷ [])
        (postings_all (λ action. is_calm_action action ≡ true) calm_posting 0 (numbers_behind number size)) (refl, (refl, (refl, tt))),
  );
  no_acts = λ t. rw (slice_get-map steps_of_number (numbers_behind number size) t) (at (slice_get (numbers_behind number size) t));
}
  where
    steps_of_number : ℕ → List Step
    steps_of_number x = Add (amount_of x) ∷ []

    at : (o : Option ℕ) → filter is_act (option_map_or (λ steps. steps) (option_map steps_of_number o) []) ≡ []
    at None = refl
    at (Some x) = refl
