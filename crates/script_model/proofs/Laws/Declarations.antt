-- What a declaration adds to a sound script keeps it sound.
-- Cited by `Laws/Sound`.
use Rattle.std.proofs.Common.{◌≡◌, ℕ, ◌+◌, ◌<◌, ◌≤◌, Bool, true, false, List, [], ◌∷◌, ◌++◌, length}
use Rattle.std.proofs.Common.{drop, refl, sym, subst, inl, inr, Ok, arith}
use Rattle.std.specs.Prelude.{sum_by, not, ◌&&◌, ◌==◌, nat_lt, flat_map}
use Rattle.std.specs.List.{list_any, list_all, AllByRecursion}
use Rattle.std.proofs.lemmas.List.Sums.{sum_by_push}
use Rattle.std.proofs.lemmas.List.{length-append}
use Rattle.task_traits.specs.declared.traits.Priority.{Priority}
use Rattle.task_traits.specs.declared.traits.Behaviour.{Behaviour}
use Rattle.task_base.specs.Plan.{JobPlan}
use Rattle.task_base.specs.Steps.{is_act}
use Rattle.task_base.specs.declared.step.Step.{Step}
use Rattle.task_base.specs.declared.step.Step.TheVariants.{Add, Mul, Set, Post as PostStep, Main as MainStep, Block, Unblock}
use Rattle.task_base.specs.declared.script.Runner.{Runner}
use Rattle.task_base.specs.declared.script.RunnerKind.{RunnerKind}
use Rattle.task_base.specs.declared.script.RunnerKind.TheVariants.{Parallel, Sequenced, Single}
use Rattle.task_base.specs.declared.script.MainQueue.{MainQueue}
use Rattle.script_model.specs.Reasons.{◌&◌, out_of_order, undeclared, posted_twice, declaration_late, bad_block, job_use, too_many}
use Rattle.value_words.specs.Words.{priority_named, behaviour_named}
use Rattle.script_model.specs.Places.{said_at, name_at, ends_at, number_at, id_at, kind_named, may_block_at, steps_read}
use Rattle.script_model.specs.Bound.{events_of_task, events_of_job, events_bound_of, steps_of_plan}
use Rattle.script_model.specs.Laws.Postings.{posts_of_step, postings}
use Rattle.script_model.specs.Draft.{Draft, script_of, has_no_actions, is_above_workers, is_declared, posted_in, is_any_posted}
use Rattle.script_model.specs.Draft.{has_bad_scopes, is_bad_post, items_in, steps_in, events_in, workers_in, opens_scope, may_block_on}
use Rattle.task_base.specs.declared.limits.TheConstants.{MOST_RUNNERS, MOST_QUEUES, MOST_TASKS, MOST_JOBS}
use Rattle.task_base.specs.declared.limits.TheConstants.{MOST_ITEMS, MOST_STEPS, MOST_EVENTS}
use Rattle.script_model.specs.Lines.{runner_line, queue_line, task_line, job_line}
use Rattle.script_model.specs.Laws.Sound.{IsRunnerPost, IsQueuePost}
use Rattle.script_model.specs.Laws.Sound.{IsSeatThere, IsQueueWithin, IsStepSound, IsTaskSound, IsJobSound}
use Rattle.script_model.proofs.Laws.Postings.{posts_of_task, posted_once_with_task}
use Rattle.script_model.proofs.Laws.Parts.{both_ok, line_ok, number_at-within, said_ok, IsSeatWithin, kind_named-within, steps_read-within, nothing}
use Rattle.std.proofs.lemmas.Bool.{and_parts, ltb-false, ltb-true, not-false, or_parts}
use Rattle.list_laws.proofs.Places.{AllByRecursion-push, slice_get_push}
use Rattle.script_model.proofs.Laws.Configuration.{Keeps, no_actions, task_stays, runners_stay, queues_stay, tasks_stay, same_stays}

with_runner : (d : Draft) (made : Runner) → IsSeatThere (script_of d) made.kind → d.actions ≡ [] → length d.runners + 1 ≤ MOST_RUNNERS → Keeps d
    → Keeps (record d { runners = d.runners ++ made ∷ [] })
unfolding postings
with_runner d made seat none few sound =
    let script = script_of (record d { runners = d.runners ++ made ∷ [] }) in
    let few_runners : length script.runners ≤ MOST_RUNNERS = omega (arith, few, length-append d.runners (made ∷ [])) in
    record {
      closed = refl;
      config = assumption;
      limits = assumption;
      declarations = record {
        seats_there = AllByRecursion-push (λ (runner : Runner). IsSeatThere (script_of d) runner.kind) d.runners made sound.declarations.seats_there seat;
        queues_within = sound.declarations.queues_within;
        tasks_sound = λ t steps h. task_stays (script_of d) script t steps (runners_stay d made) (sound.declarations.tasks_sound t steps h);
        jobs_sound = sound.declarations.jobs_sound;
      };
      actions = no_actions script none;
      once = assumption;
    }

-- a seat that a kind names, where it is within the workers, is there
seat_there : (d : Draft) (kind : RunnerKind) → IsSeatWithin kind → is_above_workers d kind ≡ false → IsSeatThere (script_of d) kind
seat_there d (Single seat) within e = (within.0, ltb-false (workers_in d) seat e)
seat_there d Parallel within e = tt
seat_there d Sequenced within e = tt

abbrev pub runner_made : RunnerKind → Priority → Behaviour → Bool → Runner
runner_made kind priority behaviour may_block = record { kind = kind; traits = record { priority = priority; behaviour = behaviour; may_block = may_block } }

-- `runner R KIND PRIORITY BEHAVIOUR`
pub keeps_runner : (d d' : Draft) (words : List (List ℕ)) → Keeps d → runner_line d words ≡ Ok d' → Keeps d'
unfolding runner_line
keeps_runner d d' words sound e =
    let rest2 = name_at priority_named words 2 & name_at behaviour_named words 3 & may_block_at words 4 & ends_at words 5 in
    let rest1 = said_at kind_named words 1 & rest2 in
    let g = line_ok (id_at words 0 & rest1)
    (λ p. (not (p.0 == length d.runners), out_of_order) ∷ (is_above_workers d p.1.0, undeclared) ∷ (not (has_no_actions d), declaration_late) ∷
    (nat_lt MOST_RUNNERS (length d.runners + 1), too_many) ∷ [])
    (λ p. record d { runners = d.runners ++ runner_made p.1.0 p.1.1.0 p.1.1.1.0 p.1.1.1.1.0 ∷ [] }) d' e in
    let b0 = both_ok (id_at words 0) rest1 g.0.0 g.0.1 g.1 in
    let b1 = both_ok (said_at kind_named words 1) rest2 g.0.1.0 g.0.1.1 b0.1 in
    let word = said_ok kind_named words 1 g.0.1.0 b1.0 in
    let made = runner_made g.0.1.0 g.0.1.1.0 g.0.1.1.1.0 g.0.1.1.1.1.0 in
    subst Keeps {x = record d { runners = d.runners ++ made ∷ [] }} g.3
    (with_runner d made (seat_there d g.0.1.0 (kind_named-within word.0 g.0.1.0 word.1) g.2.1.0) (nothing d.actions (not-false (has_no_actions d) g.2.1.1.0))
    (ltb-false MOST_RUNNERS (length d.runners + 1) g.2.1.1.1.0) sound)

with_queue : (d : Draft) (made : MainQueue) → IsQueueWithin made → d.actions ≡ [] → length d.queues + 1 ≤ MOST_QUEUES → Keeps d
    → Keeps (record d { queues = d.queues ++ made ∷ [] })
unfolding postings
with_queue d made within none few sound =
    let script = script_of (record d { queues = d.queues ++ made ∷ [] }) in
    let few_queues : length script.queues ≤ MOST_QUEUES = omega (arith, few, length-append d.queues (made ∷ [])) in
    record {
      closed = refl;
      config = assumption;
      limits = assumption;
      declarations = record {
        seats_there = sound.declarations.seats_there;
        queues_within = AllByRecursion-push IsQueueWithin d.queues made sound.declarations.queues_within within;
        tasks_sound = λ t steps h. task_stays (script_of d) script t steps (queues_stay d made) (sound.declarations.tasks_sound t steps h);
        jobs_sound = sound.declarations.jobs_sound;
      };
      actions = no_actions script none;
      once = assumption;
    }

-- `queue Q CLASS VOTERS`
pub keeps_queue : (d d' : Draft) (words : List (List ℕ)) → Keeps d → queue_line d words ≡ Ok d' → Keeps d'
unfolding queue_line
keeps_queue d d' words sound e =
    let class_at = number_at 0 7 words 1 in
    let voters_at = number_at 0 16 words 2 in
    let g = line_ok (id_at words 0 & class_at & voters_at & ends_at words 3)
    (λ p. (not (p.0 == length d.queues), out_of_order) ∷ (not (has_no_actions d), declaration_late) ∷ (nat_lt MOST_QUEUES (length d.queues + 1), too_many) ∷ [])
    (λ p. record d { queues = d.queues ++ record { class = p.1.0; voters = p.1.1.0 } ∷ [] }) d' e in
    let b0 = both_ok (id_at words 0) (class_at & voters_at & ends_at words 3) g.0.0 g.0.1 g.1 in
    let b1 = both_ok class_at (voters_at & ends_at words 3) g.0.1.0 g.0.1.1 b0.1 in
    let b2 = both_ok voters_at (ends_at words 3) g.0.1.1.0 g.0.1.1.1 b1.1 in
    let class = number_at-within 0 7 words 1 g.0.1.0 b1.0 in
    let voters = number_at-within 0 16 words 2 g.0.1.1.0 b2.0 in
    let made : MainQueue = record { class = g.0.1.0; voters = g.0.1.1.0 } in
    subst Keeps {x = record d { queues = d.queues ++ made ∷ [] }} g.3
    (with_queue d made (record { class_within = class.1; voters_within = voters.1 }) (nothing d.actions (not-false (has_no_actions d) g.2.1.0))
    (ltb-false MOST_QUEUES (length d.queues + 1) g.2.1.1.0) sound)

-- ---- steps and postings

-- what a step that posts says, where what it names is declared and it is no bad post
pub declared_runner_post : (d : Draft) (task runner delay : ℕ) → is_declared d (PostStep task runner delay) ≡ true
    → is_bad_post d (PostStep task runner delay) ≡ false → (task < length d.tasks) × IsRunnerPost (script_of d) task runner
declared_runner_post d task runner delay declared good =
    let both = and_parts (nat_lt task (length d.tasks)) (nat_lt runner (length d.runners)) declared in
    let here = ltb-true task (length d.tasks) both.0 in (
      here,
      record {
        task_declared = here;
        runner_declared = ltb-true runner (length d.runners) both.1;
        may_block = may (opens_scope d.tasks task) (may_block_on d.runners runner) good;
      },
    )
  where
    may : (opens takes : Bool) → (opens && not takes) ≡ false → opens ≡ true → takes ≡ true
    may true true h o = refl
    may true false h o = absurd cc
    may false takes h o = absurd cc

pub declared_queue_post : (d : Draft) (task queue delay : ℕ) → is_declared d (MainStep task queue delay) ≡ true
    → is_bad_post d (MainStep task queue delay) ≡ false → (task < length d.tasks) × IsQueuePost (script_of d) task queue
declared_queue_post d task queue delay declared good =
    let both = and_parts (nat_lt task (length d.tasks)) (nat_lt queue (length d.queues)) declared in
    let here = ltb-true task (length d.tasks) both.0 in
    (here, record { task_declared = here; queue_declared = ltb-true queue (length d.queues) both.1; no_scope = good })

step_sound : (d : Draft) (step : Step) → is_declared d step ≡ true → is_bad_post d step ≡ false → IsStepSound (script_of d) (length d.tasks) step
step_sound d (PostStep task runner delay) declared good = declared_runner_post d task runner delay declared good
step_sound d (MainStep task queue delay) declared good = declared_queue_post d task queue delay declared good
step_sound d (Add by) declared good = tt
step_sound d (Mul by) declared good = tt
step_sound d (Set to) declared good = tt
step_sound d (Block scope) declared good = tt
step_sound d Unblock declared good = tt

steps_sound : (d : Draft) (steps : List Step) → list_all (is_declared d) steps ≡ true → list_any (is_bad_post d) steps ≡ false
    → AllByRecursion (IsStepSound (script_of d) (length d.tasks)) steps
steps_sound d [] declared good = tt
steps_sound d (step ∷ steps) declared good =
    let here = and_parts (is_declared d step) (list_all (is_declared d) steps) declared in
    let bad = or_parts (is_bad_post d step) (list_any (is_bad_post d) steps) good in
    (step_sound d step here.0 bad.0, steps_sound d steps here.1 bad.1)

-- ---- tasks and jobs

with_task : (d : Draft) (steps : List Step) → IsTaskSound (script_of d) (length d.tasks) steps → is_any_posted (posted_in d) (posts_of_task steps) ≡ false
    → d.actions ≡ [] → length d.tasks + 1 ≤ MOST_TASKS → steps_in d + length steps ≤ MOST_STEPS → events_in d + events_of_task steps ≤ MOST_EVENTS → Keeps d
    → Keeps (record d { tasks = d.tasks ++ steps ∷ [] })
with_task d steps made fresh none few few_steps few_events sound =
    let script = script_of (record d { tasks = d.tasks ++ steps ∷ [] }) in
    let stay = tasks_stay d steps in
    let more_steps = sum_by_push (λ s. length s) d.tasks steps in
    let more_events = sum_by_push events_of_task d.tasks steps in
    let few_tasks : length script.tasks ≤ MOST_TASKS = omega (arith, few, length-append d.tasks (steps ∷ [])) in
    let few_steps : steps_of_plan script ≤ MOST_STEPS = omega (arith, few_steps, more_steps) in
    let few_events : events_bound_of script ≤ MOST_EVENTS = omega (arith, few_events, more_events) in
    let posted_once = posted_once_with_task d steps fresh sound.once.posted_once in
    record {
      closed = refl;
      config = assumption;
      limits = assumption;
      declarations = record {
        seats_there = sound.declarations.seats_there;
        queues_within = sound.declarations.queues_within;
        tasks_sound = λ t other h. elim (slice_get_push d.tasks steps t other h) [
          | inl old ↦ task_stays (script_of d) script t other stay (sound.declarations.tasks_sound t other old.1)
          | inr new ↦ subst (λ (s : List Step). IsTaskSound script t s) new.1
              (subst (λ (n : ℕ). IsTaskSound script n steps) (sym new.0) (task_stays (script_of d) script (length d.tasks) steps stay made))
        ];
        jobs_sound = sound.declarations.jobs_sound;
      };
      actions = no_actions script none;
      once = assumption;
    }

-- `task T STEPS`
pub keeps_task : (d d' : Draft) (words : List (List ℕ)) → Keeps d → task_line d words ≡ Ok d' → Keeps d'
unfolding task_line
keeps_task d d' words sound e =
    let g = line_ok (id_at words 0 & steps_read (drop 1 words))
    (λ p. (not (p.0 == length d.tasks), out_of_order) ∷ (not (list_all (is_declared d) p.1), undeclared) ∷
    (is_any_posted (posted_in d) (flat_map posts_of_step p.1), posted_twice) ∷ (not (has_no_actions d), declaration_late) ∷
    (has_bad_scopes false p.1, bad_block) ∷ (list_any (is_bad_post d) p.1, bad_block)
    ∷ (nat_lt MOST_TASKS (length d.tasks + 1), too_many) ∷ (nat_lt MOST_STEPS (steps_in d + length p.1), too_many) ∷
    (nat_lt MOST_EVENTS (events_in d + events_of_task p.1), too_many) ∷ [])
    (λ p. record d { tasks = d.tasks ++ p.1 ∷ [] }) d' e in
    let both = both_ok (id_at words 0) (steps_read (drop 1 words)) g.0.0 g.0.1 g.1 in
    let steps = g.0.1 in
    let declared = g.2.1 in let fresh = declared.1 in let late = fresh.1 in let scopes = late.1 in let good = scopes.1 in let count_room = good.1 in
    let steps_room = count_room.1 in let events_room = steps_room.1 in
    subst Keeps {x = record d { tasks = d.tasks ++ steps ∷ [] }} g.3
    (with_task d steps (record {
      steps_within = steps_read-within (drop 1 words) steps both.1;
      steps_sound = steps_sound d steps (not-false (list_all (is_declared d) steps) declared.0) good.0;
      scopes_in_turn = scopes.0;
    })
    fresh.0 (nothing d.actions (not-false (has_no_actions d) late.0)) (ltb-false MOST_TASKS (length d.tasks + 1) count_room.0)
    (ltb-false MOST_STEPS (steps_in d + length steps) steps_room.0) (ltb-false MOST_EVENTS (events_in d + events_of_task steps) events_room.0) sound)

with_job : (d : Draft) (job : JobPlan) → IsJobSound job → d.actions ≡ [] → length d.jobs + 1 ≤ MOST_JOBS → items_in d + job.items ≤ MOST_ITEMS
    → steps_in d + length job.steps ≤ MOST_STEPS → events_in d + events_of_job job ≤ MOST_EVENTS → Keeps d → Keeps (record d { jobs = d.jobs ++ job ∷ [] })
unfolding postings
with_job d job made none few few_items few_steps few_events sound =
    let script = script_of (record d { jobs = d.jobs ++ job ∷ [] }) in
    let more_items = sum_by_push (λ (j : JobPlan). j.items) d.jobs job in
    let more_steps = sum_by_push (λ (j : JobPlan). length j.steps) d.jobs job in
    let more_events = sum_by_push events_of_job d.jobs job in
    let few_jobs : length script.jobs ≤ MOST_JOBS = omega (arith, few, length-append d.jobs (job ∷ [])) in
    let few_items : sum_by (λ (j : JobPlan). j.items) script.jobs ≤ MOST_ITEMS = omega (arith, few_items, more_items) in
    let few_steps : steps_of_plan script ≤ MOST_STEPS = omega (arith, few_steps, more_steps) in
    let few_events : events_bound_of script ≤ MOST_EVENTS = omega (arith, few_events, more_events) in
    let stay = same_stays (script_of d) script refl refl refl in
    record {
      closed = refl;
      config = assumption;
      limits = assumption;
      declarations = record {
        seats_there = sound.declarations.seats_there;
        queues_within = sound.declarations.queues_within;
        tasks_sound = λ t steps h. task_stays (script_of d) script t steps stay (sound.declarations.tasks_sound t steps h);
        jobs_sound = AllByRecursion-push IsJobSound d.jobs job sound.declarations.jobs_sound made;
      };
      actions = no_actions script none;
      once = assumption;
    }

abbrev pub job_made : Priority → Behaviour → ℕ → ℕ → List Step → JobPlan
job_made priority behaviour items cap steps = record { priority = priority; behaviour = behaviour; items = items; cap = cap; steps = steps }

-- `job J PRIORITY BEHAVIOUR ITEMS CAP STEPS`
pub keeps_job : (d d' : Draft) (words : List (List ℕ)) → Keeps d → job_line d words ≡ Ok d' → Keeps d'
unfolding job_line
keeps_job d d' words sound e =
    let rest4 = number_at 1 64 words 4 & steps_read (drop 5 words) in
    let rest3 = number_at 0 65536 words 3 & rest4 in
    let rest2 = name_at behaviour_named words 2 & rest3 in
    let rest1 = name_at priority_named words 1 & rest2 in
    let g = line_ok (id_at words 0 & rest1)
    (λ p.
    let steps = p.1.1.1.1.1 in
    (not (p.0 == length d.jobs), out_of_order) ∷ (not (list_all (is_declared d) steps), undeclared) ∷
    (is_any_posted (posted_in d) (flat_map posts_of_step steps), posted_twice) ∷ (not (has_no_actions d), declaration_late) ∷
    (list_any (is_bad_post d) steps, bad_block) ∷ (list_any is_act steps, job_use)
    ∷ (nat_lt MOST_JOBS (length d.jobs + 1), too_many) ∷ (nat_lt MOST_ITEMS (items_in d + p.1.1.1.0), too_many) ∷
    (nat_lt MOST_STEPS (steps_in d + length steps), too_many) ∷
    (nat_lt MOST_EVENTS (events_in d + events_of_job (job_made p.1.0 p.1.1.0 p.1.1.1.0 p.1.1.1.1.0 steps)), too_many) ∷ [])
    (λ p. record d { jobs = d.jobs ++ job_made p.1.0 p.1.1.0 p.1.1.1.0 p.1.1.1.1.0 p.1.1.1.1.1 ∷ [] }) d' e in
    let b0 = both_ok (id_at words 0) rest1 g.0.0 g.0.1 g.1 in
    let b1 = both_ok (name_at priority_named words 1) rest2 g.0.1.0 g.0.1.1 b0.1 in
    let b2 = both_ok (name_at behaviour_named words 2) rest3 g.0.1.1.0 g.0.1.1.1 b1.1 in
    let b3 = both_ok (number_at 0 65536 words 3) rest4 g.0.1.1.1.0 g.0.1.1.1.1 b2.1 in
    let b4 = both_ok (number_at 1 64 words 4) (steps_read (drop 5 words)) g.0.1.1.1.1.0 g.0.1.1.1.1.1 b3.1 in
    let items = number_at-within 0 65536 words 3 g.0.1.1.1.0 b3.0 in
    let cap = number_at-within 1 64 words 4 g.0.1.1.1.1.0 b4.0 in
    let steps = g.0.1.1.1.1.1 in
    let job = job_made g.0.1.0 g.0.1.1.0 g.0.1.1.1.0 g.0.1.1.1.1.0 steps in
    let late = g.2.1.1.1 in let computes = late.1.1 in let count_room = computes.1 in let items_room = count_room.1 in let steps_room = items_room.1 in
    let events_room = steps_room.1 in
    subst Keeps {x = record d { jobs = d.jobs ++ job ∷ [] }} g.3
    (with_job d job (record {
      items_within = items.1;
      some_cap = cap.0;
      cap_within = cap.1;
      steps_within = steps_read-within (drop 5 words) steps b4.1;
      steps_compute = computes.0;
    })
    (nothing d.actions (not-false (has_no_actions d) late.0)) (ltb-false MOST_JOBS (length d.jobs + 1) count_room.0)
    (ltb-false MOST_ITEMS (items_in d + job.items) items_room.0) (ltb-false MOST_STEPS (steps_in d + length steps) steps_room.0)
    (ltb-false MOST_EVENTS (events_in d + events_of_job job) events_room.0) sound)
