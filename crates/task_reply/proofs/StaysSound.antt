-- A sound script stays sound with one more reply against which there is no reason.
-- Cited by `Reasons`, `Standing`.
use Rattle.std.proofs.Common.{◌≡◌, ℕ, ◌+◌, ◌<◌, ◌≤◌, Bool, true, false, eqb, List, [], ◌∷◌, ◌++◌}
use Rattle.std.proofs.Common.{length, get_or, refl, sym, ap, subst, ◌∙◌, inl, inr, Some, arith}
use Rattle.std.specs.Prelude.{slice_get, not, ◌&&◌}
use Rattle.std.proofs.lemmas.Bool.{both_ways, cases_Bool, cond-true, cond-false, eqb-true, eq-eqb, ltb-true}
use Rattle.std.proofs.lemmas.List.{length-set}
use Rattle.std.proofs.lemmas.Option.{same_Some, slice_get-get_or}
use Rattle.task_base.specs.Plan.{Plan}
use Rattle.task_base.specs.declared.step.Step.{Step}
use Rattle.task_base.specs.declared.step.Step.TheVariants as steps
use Rattle.task_base.specs.declared.script.Action.{Action}
use Rattle.task_base.specs.declared.script.Action.TheVariants as actions
use Rattle.task_base.specs.declared.limits.TheConstants.{MOST_STEPS, MOST_EVENTS}
use Rattle.list_laws.proofs.Counts.{count-cons}
use Rattle.list_laws.proofs.Elements.{AllByRecursion-map}
use Rattle.list_laws.proofs.Places.{AllByRecursion-push, slice_get-set_same, slice_get-set_other}
use Rattle.script_model.specs.Bound.{events_bound_of, steps_of_plan}
use Rattle.script_model.specs.Draft.{may_block_on, opens_scope}
use Rattle.script_model.specs.Laws.Postings.{postings, times}
use Rattle.script_model.specs.Laws.Sound.{IsSound, IsActionSound, IsRunnerPost, IsQueuePost, IsStepSound, IsStepWithin, IsTaskSound}
use Rattle.task_reply.specs.declared.reply.Home.{Home}
use Rattle.task_reply.specs.declared.reply.Home.TheVariants.{Runner, Queue}
use Rattle.task_reply.specs.declared.reply.Reply.{Reply}
use Rattle.task_reply.specs.Elaborated.{reply_posting, posting_to}
use Rattle.task_reply.specs.Replies.{has_home, is_bad_block, home_takes_block}
use Rattle.task_reply.specs.Tables.{with_task_step}
use Rattle.task_reply.proofs.Growing.{scopes_stay, scopes_in_turn, steps_grow, events_grow, postings_grow}

-- ---- what stays

-- the lists are as many tasks as the script has, and open the same scopes
record SameScopes (s : Plan) (tasks : List (List Step)) : Type 0 where
  count : length tasks ≡ length s.tasks
  scopes : (t : ℕ) → opens_scope tasks t ≡ opens_scope s.tasks t

runner_post_stays : (s : Plan) (tasks : List (List Step)) (task runner : ℕ) → SameScopes s tasks → IsRunnerPost s task runner
    → IsRunnerPost (record s { tasks = tasks }) task runner
runner_post_stays s tasks task runner same h = record {
  task_declared = rw same.count h.task_declared;
  runner_declared = h.runner_declared;
  may_block = λ opens. h.may_block (sym (same.scopes task) ∙ opens);
}

queue_post_stays : (s : Plan) (tasks : List (List Step)) (task queue : ℕ) → SameScopes s tasks → IsQueuePost s task queue
    → IsQueuePost (record s { tasks = tasks }) task queue
queue_post_stays s tasks task queue same h = record {
  task_declared = rw same.count h.task_declared;
  queue_declared = h.queue_declared;
  no_scope = same.scopes task ∙ h.no_scope;
}

step_stays : (s : Plan) (tasks : List (List Step)) (t : ℕ) → SameScopes s tasks → (step : Step) → IsStepSound s t step
    → IsStepSound (record s { tasks = tasks }) t step
step_stays s tasks t same (steps.Post task runner delay) h = (h.0, runner_post_stays s tasks task runner same h.1)
step_stays s tasks t same (steps.Main task queue delay) h = (h.0, queue_post_stays s tasks task queue same h.1)
step_stays s tasks t same step h = tt

task_stays : (s : Plan) (tasks : List (List Step)) (t : ℕ) (own : List Step) → SameScopes s tasks → IsTaskSound s t own
    → IsTaskSound (record s { tasks = tasks }) t own
task_stays s tasks t own same h = record {
  steps_within = h.steps_within;
  steps_sound = AllByRecursion-map (IsStepSound s t) (IsStepSound (record s { tasks = tasks }) t) own (step_stays s tasks t same) h.steps_sound;
  scopes_in_turn = h.scopes_in_turn;
}

action_stays : (s : Plan) (tasks : List (List Step)) → SameScopes s tasks → (action : Action) → IsActionSound s action
    → IsActionSound (record s { tasks = tasks }) action
action_stays s tasks same (actions.Post task runner delay) h = (runner_post_stays s tasks task runner same h.0, h.1)
action_stays s tasks same (actions.Main task queue delay) h = (queue_post_stays s tasks task queue same h.0, h.1)
action_stays s tasks same action h = h

-- the tasks with one more posting step
same_scopes : (s : Plan) (t u : ℕ) (home : Home) → t < length s.tasks → SameScopes s (with_task_step s t (posting_to u home)).tasks
same_scopes s t u home there = record {
  count = length-set s.tasks t (get_or s.tasks t [] ++ posting_to u home ∷ []);
  scopes = λ v. scopes_stay s t u v home there;
}

-- ---- the new step

-- a reply that may stand behind the steps of its task: what the tests against it say
pub record MayStand (script : Plan) (reply : Reply) : Type 0 where
  pub task_there : reply.task < length script.tasks
  pub below : reply.reply < reply.task
  pub home_there : has_home script reply.home ≡ true
  pub no_bad_block : is_bad_block script reply ≡ false
  pub few_steps : steps_of_plan script + 1 ≤ MOST_STEPS
  pub few_events : events_bound_of script + 1 ≤ MOST_EVENTS
  pub fresh : times reply.reply (postings script) ≡ 0

blocks_there : (opens takes : Bool) → (opens && not takes) ≡ false → opens ≡ true → takes ≡ true
blocks_there true true bad is = refl
blocks_there true false bad is = absurd cc
blocks_there false takes bad is = absurd cc

opens_none : (opens : Bool) → (opens && true) ≡ false → opens ≡ false
opens_none true bad = bad
opens_none false bad = refl

post_sound : (script : Plan) (t u : ℕ) (home : Home) → t < length script.tasks → u < t → has_home script home ≡ true
    → (opens_scope script.tasks u && not (home_takes_block script home)) ≡ false → IsStepSound script t (posting_to u home)
post_sound script t u (Runner runner) there below home_there bad = (
  below,
  record {
    task_declared = omega arith;
    runner_declared = ltb-true runner (length script.runners) home_there;
    may_block = blocks_there (opens_scope script.tasks u) (may_block_on script.runners runner) bad;
  },
)
post_sound script t u (Queue queue) there below home_there bad = (
  below,
  record {
    task_declared = omega arith;
    queue_declared = ltb-true queue (length script.queues) home_there;
    no_scope = opens_none (opens_scope script.tasks u) bad;
  },
)

post_within : (u : ℕ) (home : Home) → IsStepWithin (posting_to u home)
post_within u (Runner runner) = omega arith
post_within u (Queue queue) = omega arith

-- ---- the script

task_sound : (s : Plan) (t u : ℕ) (home : Home) (own : List Step) → SameScopes s (with_task_step s t (posting_to u home)).tasks → IsTaskSound s t own
    → IsStepSound (with_task_step s t (posting_to u home)) t (posting_to u home)
    → IsTaskSound (with_task_step s t (posting_to u home)) t (own ++ posting_to u home ∷ [])
task_sound s t u home own same old new =
    let z = with_task_step s t (posting_to u home) in
    let kept = task_stays s z.tasks t own same old in
    record {
      steps_within = AllByRecursion-push IsStepWithin own (posting_to u home) kept.steps_within (post_within u home);
      steps_sound = AllByRecursion-push (IsStepSound z t) own (posting_to u home) kept.steps_sound new;
      scopes_in_turn = scopes_in_turn false own u home ∙ kept.scopes_in_turn;
    }

tasks_sound : (s : Plan) (reply : Reply) → IsSound s → MayStand s reply → (t : ℕ) (steps : List Step)
    → slice_get (with_task_step s reply.task (reply_posting reply)).tasks t ≡ Some steps
    → IsTaskSound (with_task_step s reply.task (reply_posting reply)) t steps
tasks_sound s reply sound may t steps is = elim (cases_Bool (eqb reply.task t)) [
  | inl same ↦
      let at : reply.task ≡ t = eqb-true reply.task t same in
      let there : slice_get z.tasks reply.task ≡ Some more = slice_get-set_same s.tasks reply.task more may.task_there in
      let steps_are : more ≡ steps = same_Some more steps (sym there ∙ ap (slice_get z.tasks) at ∙ is) in
      subst (λ v. IsTaskSound z v steps) at (subst (IsTaskSound z reply.task) steps_are here)
  | inr other ↦
      let was : slice_get s.tasks t ≡ Some steps =
      sym (slice_get-set_other s.tasks reply.task t more (λ at. both_ways (eqb reply.task t) other (eq-eqb reply.task t at))) ∙ is in
      task_stays s z.tasks t steps stay (sound.declarations.tasks_sound t steps was)
]
  where
    own : List Step
    own = get_or s.tasks reply.task []

    more : List Step
    more = own ++ reply_posting reply ∷ []

    z : Plan
    z = with_task_step s reply.task (reply_posting reply)

    stay : SameScopes s z.tasks
    stay = same_scopes s reply.task reply.reply reply.home may.task_there

    here : IsTaskSound z reply.task more
    here = task_sound s reply.task reply.reply reply.home own stay
        (sound.declarations.tasks_sound reply.task own (slice_get-get_or s.tasks reply.task [] may.task_there))
        (post_sound z reply.task reply.reply reply.home (rw (length-set s.tasks reply.task more) may.task_there) may.below may.home_there
        (rw (scopes_stay s reply.task reply.reply reply.reply reply.home may.task_there) may.no_bad_block))

posted_once : (s : Plan) (reply : Reply) → IsSound s → MayStand s reply → (v : ℕ) → times v (postings (with_task_step s reply.task (reply_posting reply))) ≤ 1
posted_once s reply sound may v =
    let grow = postings_grow s reply.task reply.reply v reply.home may.task_there in
    let one = count-cons (λ w. eqb w v) reply.reply [] in
    elim (cases_Bool (eqb reply.reply v)) [
      | inl same ↦
          let none : times v (postings s) ≡ 0 = subst (λ w. times w (postings s) ≡ 0) (eqb-true reply.reply v same) may.fresh in
          omega (arith, grow, one, cond-true {A = ℕ} (eqb reply.reply v) 1 0 same, none)
      | inr other ↦ omega (arith, grow, one, cond-false {A = ℕ} (eqb reply.reply v) 1 0 other, sound.once.posted_once v)
    ]

-- a sound script stays sound with the reply
pub stays_sound : (s : Plan) (reply : Reply) → IsSound s → MayStand s reply → IsSound (with_task_step s reply.task (reply_posting reply))
stays_sound s reply sound may =
    let z = with_task_step s reply.task (reply_posting reply) in
    let same = same_scopes s reply.task reply.reply reply.home may.task_there in
    let tasks = length-set s.tasks reply.task (get_or s.tasks reply.task [] ++ reply_posting reply ∷ []) in
    record {
      closed = sound.closed;
      config = assumption;
      limits = record {
        few_runners = sound.limits.few_runners;
        few_queues = sound.limits.few_queues;
        few_tasks = rw tasks sound.limits.few_tasks;
        few_jobs = sound.limits.few_jobs;
        few_items = sound.limits.few_items;
        few_steps = omega (arith, steps_grow s reply.task (reply_posting reply) may.task_there, may.few_steps);
        few_ticks = sound.limits.few_ticks;
        few_events = omega (arith, events_grow s reply.task reply.reply reply.home may.task_there, may.few_events);
      };
      declarations = record {
        seats_there = sound.declarations.seats_there;
        queues_within = sound.declarations.queues_within;
        tasks_sound = tasks_sound s reply sound may;
        jobs_sound = sound.declarations.jobs_sound;
      };
      actions = record {
        each_sound = AllByRecursion-map (IsActionSound s) (IsActionSound z) s.actions (action_stays s z.tasks same) sound.actions.each_sound;
        in_order = sound.actions.in_order;
      };
      once = record {
        posted_once = posted_once s reply sound may;
        started_once = sound.once.started_once;
        one_shutdown = sound.once.one_shutdown;
      };
    }
