-- What a configuration line adds to a sound script keeps it sound, and what a script declares stays declared with one more declaration.
-- Cited by `Laws/Declarations`, `Laws/Sound`.
use Rattle.std.proofs.Common.{◌≡◌, ℕ, ◌<◌, true, eqb, List, [], ◌∷◌, ◌++◌, length}
use Rattle.std.proofs.Common.{refl, sym, subst, ◌∙◌, Option, Some, Ok, arith}
use Rattle.std.specs.Prelude.{not, ◌&&◌, nat_lt, slice_get, is_some}
use Rattle.std.specs.List.{AllByRecursion}
use Rattle.std.proofs.lemmas.List.{length-append}
use Rattle.task_base.specs.Plan.{Plan}
use Rattle.task_base.specs.declared.step.Step.{Step}
use Rattle.task_base.specs.declared.step.Step.TheVariants.{Add, Mul, Set, Post as PostStep, Main as MainStep, Block, Unblock}
use Rattle.task_base.specs.declared.script.Runner.{Runner}
use Rattle.task_base.specs.declared.script.MainQueue.{MainQueue}
use Rattle.script_model.specs.Reasons.{◌&◌, out_of_range, declaration_late, config_twice}
use Rattle.script_model.specs.Places.{ends_at, number_at, time_at}
use Rattle.script_model.specs.Laws.Postings.{postings}
use Rattle.std.proofs.Math.ListN.{get_or-append}
use Rattle.script_model.specs.Draft.{Draft, Groups, script_of, has_no_actions, is_bare}
use Rattle.script_model.specs.Draft.{opens_scope, may_block_on}
use Rattle.task_base.specs.declared.limits.TheConstants.{MOST_WORKERS}
use Rattle.task_base.specs.declared.limits.TheConstants.{MOST_MICROSECONDS}
use Rattle.script_model.specs.Lines.{workers_line, groups_line, threshold_line}
use Rattle.script_model.specs.Laws.Sound.{IsSound, IsConfigSound, AreActionsSound, IsRunnerPost, IsQueuePost}
use Rattle.script_model.specs.Laws.Sound.{IsSeatThere, IsStepSound, IsTaskSound}
use Rattle.list_laws.proofs.Elements.{AllByRecursion-map, slice_get-front}
use Rattle.script_model.proofs.Laws.Parts.{both_ok, line_ok, number_at-within, nothing}
use Rattle.std.proofs.lemmas.Bool.{and_parts, ltb-false, not-false}

abbrev pub Keeps : Draft → Type 0
Keeps d = IsSound (script_of d)

-- ---- what is not there yet

-- a bare draft has no runners and no actions
bare_parts : (d : Draft) → is_bare d ≡ true → (d.runners ≡ []) × (d.actions ≡ [])
bare_parts d e =
    let a = and_parts (eqb (length d.runners) 0 && eqb (length d.queues) 0 && eqb (length d.tasks) 0 && eqb (length d.jobs) 0) (has_no_actions d) e in
    let b = and_parts (eqb (length d.runners) 0 && eqb (length d.queues) 0 && eqb (length d.tasks) 0) (eqb (length d.jobs) 0) a.0 in
    let c = and_parts (eqb (length d.runners) 0 && eqb (length d.queues) 0) (eqb (length d.tasks) 0) b.0 in
    let f = and_parts (eqb (length d.runners) 0) (eqb (length d.queues) 0) c.0 in
    (nothing d.runners f.0, nothing d.actions a.1)

-- where nothing is done, the actions are sound
pub no_actions : (script : Plan) → script.actions ≡ [] → AreActionsSound script
no_actions script none = record {
  each_sound = rw none tt;
  in_order = λ k action h. absurd (let e : slice_get [] k ≡ Some action = rw none at h in cc);
}

no_seats : (script : Plan) (runners : List Runner) → runners ≡ [] → AllByRecursion (λ runner. IsSeatThere script runner.kind) runners
no_seats script runners none = rw none tt

-- ---- what stays

-- what was declared in the first script is the same in the second
pub record Stays (s z : Plan) : Type 0 where
  runners : (r : ℕ) → r < length s.runners → (r < length z.runners) × (may_block_on z.runners r ≡ may_block_on s.runners r)
  queues : (q : ℕ) → q < length s.queues → q < length z.queues
  tasks : (t : ℕ) → t < length s.tasks → (t < length z.tasks) × (opens_scope z.tasks t ≡ opens_scope s.tasks t)

pub runner_post_stays : (s z : Plan) (task runner : ℕ) → Stays s z → IsRunnerPost s task runner → IsRunnerPost z task runner
runner_post_stays s z task runner stays post =
    let there = stays.tasks task post.task_declared in
    let home = stays.runners runner post.runner_declared in
    record {
      task_declared = there.0;
      runner_declared = home.0;
      may_block = λ opens. home.1 ∙ post.may_block (sym there.1 ∙ opens);
    }

pub queue_post_stays : (s z : Plan) (task queue : ℕ) → Stays s z → IsQueuePost s task queue → IsQueuePost z task queue
queue_post_stays s z task queue stays post =
    let there = stays.tasks task post.task_declared in
    record {
      task_declared = there.0;
      queue_declared = stays.queues queue post.queue_declared;
      no_scope = there.1 ∙ post.no_scope;
    }

step_stays : (s z : Plan) (t : ℕ) → Stays s z → (step : Step) → IsStepSound s t step → IsStepSound z t step
step_stays s z t stays (PostStep task runner delay) h = (h.0, runner_post_stays s z task runner stays h.1)
step_stays s z t stays (MainStep task queue delay) h = (h.0, queue_post_stays s z task queue stays h.1)
step_stays s z t stays (Add by) h = tt
step_stays s z t stays (Mul by) h = tt
step_stays s z t stays (Set to) h = tt
step_stays s z t stays (Block scope) h = tt
step_stays s z t stays Unblock h = tt

pub task_stays : (s z : Plan) (t : ℕ) (steps : List Step) → Stays s z → IsTaskSound s t steps → IsTaskSound z t steps
task_stays s z t steps stays h = record {
  steps_within = h.steps_within;
  steps_sound = AllByRecursion-map (IsStepSound s t) (IsStepSound z t) steps (step_stays s z t stays) h.steps_sound;
  scopes_in_turn = h.scopes_in_turn;
}

-- with one more runner, queue or task, what was declared stays
pub runners_stay : (d : Draft) (made : Runner) → Stays (script_of d) (script_of (record d { runners = d.runners ++ made ∷ [] }))
runners_stay d made = record {
  runners = λ r here. (omega (arith, here, length-append d.runners (made ∷ [])), rw (slice_get-front d.runners (made ∷ []) r here) refl);
  queues = λ q here. here;
  tasks = λ t here. (here, refl);
}

pub queues_stay : (d : Draft) (made : MainQueue) → Stays (script_of d) (script_of (record d { queues = d.queues ++ made ∷ [] }))
queues_stay d made = record {
  runners = λ r here. (here, refl);
  queues = λ q here. omega (arith, here, length-append d.queues (made ∷ []));
  tasks = λ t here. (here, refl);
}

pub tasks_stay : (d : Draft) (made : List Step) → Stays (script_of d) (script_of (record d { tasks = d.tasks ++ made ∷ [] }))
tasks_stay d made = record {
  runners = λ r here. (here, refl);
  queues = λ q here. here;
  tasks = λ t here. (omega (arith, here, length-append d.tasks (made ∷ [])), rw (get_or-append d.tasks (made ∷ []) [] t here) refl);
}

-- a script with the same declarations
pub same_stays : (s z : Plan) → s.runners ≡ z.runners → s.queues ≡ z.queues → s.tasks ≡ z.tasks → Stays s z
same_stays s z runners queues tasks = record {
  runners = λ r here. (rw (← runners) here, rw (← runners) refl);
  queues = λ q here. rw (← queues) here;
  tasks = λ t here. (rw (← tasks) here, rw (← tasks) refl);
}

-- ---- configuration

-- where nothing was declared and nothing is done, only the configuration can be unsound
with_config : (d : Draft) (workers : Option ℕ) (groups : Option Groups) (threshold : Option ℕ) → is_bare d ≡ true
    → IsConfigSound (script_of (record d { workers = workers; groups = groups; threshold = threshold })) → Keeps d
    → Keeps (record d { workers = workers; groups = groups; threshold = threshold })
unfolding postings
with_config d workers groups threshold bare config sound =
    let script = script_of (record d { workers = workers; groups = groups; threshold = threshold }) in
    let none = bare_parts d bare in
    let stay = same_stays (script_of d) script refl refl refl in
    record {
      closed = refl;
      config = config;
      limits = assumption;
      declarations = record {
        seats_there = no_seats script d.runners none.0;
        queues_within = sound.declarations.queues_within;
        tasks_sound = λ t steps h. task_stays (script_of d) script t steps stay (sound.declarations.tasks_sound t steps h);
        jobs_sound = sound.declarations.jobs_sound;
      };
      actions = no_actions script none.1;
      once = assumption;
    }

-- `workers N`
pub keeps_workers : (d d' : Draft) (words : List (List ℕ)) → Keeps d → workers_line d words ≡ Ok d' → Keeps d'
unfolding workers_line
keeps_workers d d' words sound e =
    let g = line_ok (number_at 1 MOST_WORKERS words 0 & ends_at words 1) (λ p. (not (is_bare d), declaration_late) ∷ (is_some d.workers, config_twice) ∷ [])
    (λ p. record d { workers = Some p.0 }) d' e in
    let n = number_at-within 1 MOST_WORKERS words 0 g.0.0 (both_ok (number_at 1 MOST_WORKERS words 0) (ends_at words 1) g.0.0 g.0.1 g.1).0 in
    subst Keeps g.3 (with_config d (Some g.0.0) d.groups d.threshold (not-false (is_bare d) g.2.0) (assumption) sound)

-- `groups F FB B`
pub keeps_groups : (d d' : Draft) (words : List (List ℕ)) → Keeps d → groups_line d words ≡ Ok d' → Keeps d'
unfolding groups_line
keeps_groups d d' words sound e =
    let f_at = number_at 1 64 words 0 in
    let fb_at = number_at 1 64 words 1 in
    let b_at = number_at 0 64 words 2 in
    let g = line_ok (f_at & fb_at & b_at & ends_at words 3) (λ p. (nat_lt p.0 p.1.0, out_of_range) ∷ (not (is_bare d), declaration_late) ∷
    (is_some d.groups, config_twice) ∷ []) (λ p. record d { groups = Some (record { foreground = p.0; foreground_best = p.1.0; background = p.1.1.0 }) })
    d' e in
    let b0 = both_ok f_at (fb_at & b_at & ends_at words 3) g.0.0 g.0.1 g.1 in
    let b1 = both_ok fb_at (b_at & ends_at words 3) g.0.1.0 g.0.1.1 b0.1 in
    let b2 = both_ok b_at (ends_at words 3) g.0.1.1.0 g.0.1.1.1 b1.1 in
    let f = number_at-within 1 64 words 0 g.0.0 b0.0 in
    let fb = number_at-within 1 64 words 1 g.0.1.0 b1.0 in
    let b = number_at-within 0 64 words 2 g.0.1.1.0 b2.0 in
    let within = ltb-false g.0.0 g.0.1.0 g.2.0 in
    let groups : Groups = record { foreground = g.0.0; foreground_best = g.0.1.0; background = g.0.1.1.0 } in
    subst Keeps g.3 (with_config d d.workers (Some groups) d.threshold (not-false (is_bare d) g.2.1.0) (assumption) sound)

-- `threshold U`
pub keeps_threshold : (d d' : Draft) (words : List (List ℕ)) → Keeps d → threshold_line d words ≡ Ok d' → Keeps d'
unfolding threshold_line
keeps_threshold d d' words sound e =
    let g = line_ok (time_at words 0 & ends_at words 1) (λ p. (not (is_bare d), declaration_late) ∷ (is_some d.threshold, config_twice) ∷ [])
    (λ p. record d { threshold = Some p.0 }) d' e in
    let u = number_at-within 0 MOST_MICROSECONDS words 0 g.0.0 (both_ok (time_at words 0) (ends_at words 1) g.0.0 g.0.1 g.1).0 in
    subst Keeps g.3 (with_config d d.workers d.groups (Some g.0.0) (not-false (is_bare d) g.2.0) (assumption) sound)
