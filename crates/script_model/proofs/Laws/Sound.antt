-- Every script that is read is sound: each action, and so each line, keeps it so.
-- Cited by `scripts_that_are_read_are_sound`, `Laws/Canonical`, `env_app`, `script_bound`, `task_script`.
use Rattle.std.proofs.Common.{◌≡◌, ℕ, ◌+◌, ◌<◌, ◌≤◌, Bool, true, false, List, [], ◌∷◌, ◌++◌, length, take, refl}
use Rattle.std.proofs.Common.{sym, ap, subst, ◌∙◌, inl, inr, Option, Some, None, Result, Ok, Err, arith}
use Rattle.std.specs.Prelude.{not, nat_lt, slice_get, option_map, unwrap_or, codes}
use Rattle.std.specs.List.{list_any}
use Rattle.std.proofs.lemmas.Bool.{eqb-true, ltb-false, ltb-true, not-false}
use Rattle.std.proofs.lemmas.List.Sums.{sum_by_push}
use Rattle.std.proofs.lemmas.List.{take-append-le}
use Rattle.std.proofs.Math.Seq.{take-append_seam}
use Rattle.task_base.specs.Plan.{Plan}
use Rattle.task_base.specs.declared.step.Step.{Step}
use Rattle.task_base.specs.declared.step.Step.TheVariants.{Post as PostStep, Main as MainStep}
use Rattle.task_base.specs.declared.script.MainQueue.{MainQueue}
use Rattle.task_base.specs.declared.script.Action.{Action}
use Rattle.task_base.specs.declared.script.Action.TheVariants.{Post, Main, Tick, Policy, Reprio, Fence, Unfence, Vote, Rank}
use Rattle.task_base.specs.declared.script.Action.TheVariants.{Close, Pump, Flush, StartJob, Join, Cancel, Shutdown}
use Rattle.list_laws.specs.Lists.{count}
use Rattle.script_model.specs.Words.{words_of, is_word, begins_comment, is_all_ascii, lines_of}
use Rattle.script_model.specs.Reasons.{◌>>=◌, ◌>>◌, ◌&◌, refuse, not_ascii, unknown_word, undeclared, posted_twice}
use Rattle.script_model.specs.Reasons.{bad_block, job_use, shutdown_twice, too_many, word_count}
use Rattle.value_words.specs.Words.{priority_named, policy_named, fence_named, vote_named}
use Rattle.script_model.specs.Places.{name_at, ends_at, number_at, id_at, time_at}
use Rattle.script_model.specs.Bound.{events_of_action}
use Rattle.script_model.specs.Laws.Postings.{posts_of_step, posts_of_action, postings}
use Rattle.std.proofs.lemmas.Option.{slice_get_within}
use Rattle.script_model.specs.Draft.{Draft, empty_draft, script_of, is_declared, has_runner, has_queue, has_voter, has_job, posted_in, is_any_posted}
use Rattle.script_model.specs.Draft.{is_bad_post, is_start_of, is_started, is_shutdown, has_shutdown, ticks_of, ticks_in, events_in}
use Rattle.task_base.specs.declared.limits.TheConstants.{MOST_TICKS, MOST_EVENTS, MOST_MICROSECONDS}
use Rattle.script_model.specs.Lines.{workers_line, groups_line, threshold_line, runner_line, queue_line, task_line, job_line, post_line, main_line, tick_line}
use Rattle.script_model.specs.Lines.{policy_line, reprio_line, fence_line, unfence_line, vote_line, rank_line, close_line, pump_line, flush_line}
use Rattle.script_model.specs.Lines.{start_job_line, join_line, cancel_line, shutdown_line, queue_command_read, action_command_read, command_read, words_read}
use Rattle.script_model.specs.Lines.{line_read}
use Rattle.script_model.specs.Grammar.{lines_read, script_read, Reads}
use Rattle.script_model.specs.Laws.Sound.{IsSound, IsActionSound, IsInOrder}
use Rattle.script_model.proofs.Laws.Faults.{ok_same, first_ok}
use Rattle.list_laws.proofs.Elements.{AllByRecursion-map}
use Rattle.script_model.proofs.Laws.Parts.{either_way, none_such, both_ok, refuse_ok, Passed, line_ok, number_at-within, behind}
use Rattle.script_model.proofs.Laws.Postings.{posted_once_with_action}
use Rattle.script_model.proofs.Laws.Configuration.{Keeps, runner_post_stays, queue_post_stays, task_stays, same_stays, keeps_workers, keeps_groups}
use Rattle.script_model.proofs.Laws.Configuration.{keeps_threshold}
use Rattle.script_model.proofs.Laws.Declarations.{keeps_runner, keeps_queue, declared_runner_post, declared_queue_post, keeps_task, keeps_job}
use Rattle.list_laws.proofs.Places.{AllByRecursion-push, count_once-push, slice_get_push}

start_fresh : (earlier : List Action) (action : Action) (j : ℕ) → IsInOrder earlier action → is_start_of j action ≡ true
    → list_any (is_start_of j) earlier ≡ false
start_fresh earlier (StartJob job) j order e = let same : job ≡ j = eqb-true job j e in subst (λ (i : ℕ). list_any (is_start_of i) earlier ≡ false) same order
start_fresh earlier action j order e = absurd cc

shutdown_fresh : (earlier : List Action) (action : Action) → IsInOrder earlier action → is_shutdown action ≡ true → list_any is_shutdown earlier ≡ false
shutdown_fresh earlier Shutdown order e = order
shutdown_fresh earlier action order e = absurd cc

-- that an action keeps the limits
abbrev pub room : Draft → Action → List (Bool × ℕ)
room d action = (nat_lt MOST_TICKS (ticks_in d + ticks_of action), too_many) ∷ (nat_lt MOST_EVENTS (events_in d + events_of_action action), too_many) ∷ []

action_stays : (d : Draft) (actions : List Action) (action : Action) → IsActionSound (script_of d) action
    → IsActionSound (script_of (record d { actions = actions })) action
action_stays d actions (Post task runner delay) h = (
  runner_post_stays (script_of d) (script_of (record d { actions = actions })) task runner
      (same_stays (script_of d) (script_of (record d { actions = actions })) refl refl refl) h.0,
  h.1,
)
action_stays d actions (Main task queue delay) h = (
  queue_post_stays (script_of d) (script_of (record d { actions = actions })) task queue
      (same_stays (script_of d) (script_of (record d { actions = actions })) refl refl refl) h.0,
  h.1,
)
action_stays d actions (Tick count) h = h
action_stays d actions (Policy policy) h = h
action_stays d actions (Reprio runner priority) h = h
action_stays d actions (Fence queue place) h = h
action_stays d actions (Unfence queue) h = h
action_stays d actions (Vote queue voter on) h = h
action_stays d actions (Rank queue class) h = h
action_stays d actions (Close queue) h = h
action_stays d actions (Pump count) h = h
action_stays d actions Flush h = h
action_stays d actions (StartJob job) h = h
action_stays d actions (Join job) h = h
action_stays d actions (Cancel job) h = h
action_stays d actions Shutdown h = h

with_action : (d : Draft) (action : Action) → IsActionSound (script_of d) action → IsInOrder d.actions action
    → is_any_posted (posted_in d) (posts_of_action action) ≡ false → Passed (room d action) → Keeps d → Keeps (record d { actions = d.actions ++ action ∷ [] })
with_action d action made order fresh passed sound =
    let d' = record d { actions = d.actions ++ action ∷ [] } in
    let script = script_of d' in
    let ticks = ltb-false MOST_TICKS (ticks_in d + ticks_of action) passed.0 in
    let events = ltb-false MOST_EVENTS (events_in d + events_of_action action) passed.1.0 in
    let more_ticks = sum_by_push ticks_of d.actions action in
    let more_events = sum_by_push events_of_action d.actions action in
    let few_ticks : ticks_in d' ≤ MOST_TICKS = omega (arith, ticks, more_ticks) in
    let few_events : events_in d' ≤ MOST_EVENTS = omega (arith, events, more_events) in
    record {
      closed = refl;
      config = assumption;
      limits = assumption;
      declarations = record {
        seats_there = sound.declarations.seats_there;
        queues_within = sound.declarations.queues_within;
        tasks_sound = λ t steps h. task_stays (script_of d) script t steps (same_stays (script_of d) script refl refl refl)
            (sound.declarations.tasks_sound t steps h);
        jobs_sound = sound.declarations.jobs_sound;
      };
      actions = record {
        each_sound = AllByRecursion-push (IsActionSound script) d.actions action
            (AllByRecursion-map (IsActionSound (script_of d)) (IsActionSound script) d.actions (action_stays d (d.actions ++ action ∷ []))
            sound.actions.each_sound)
            (action_stays d (d.actions ++ action ∷ []) action made);
        in_order = λ k other h. elim (slice_get_push d.actions action k other h) [
          | inl old ↦ subst (λ (earlier : List Action). IsInOrder earlier other) (sym (take-append-le k d.actions (action ∷ []) (omega (arith, old.0))))
              (sound.actions.in_order k other old.1)
          | inr new ↦
              let all : take k (d.actions ++ action ∷ []) ≡ d.actions = ap (λ (n : ℕ). take n (d.actions ++ action ∷ [])) new.0
              ∙ take-append_seam d.actions (action ∷ []) in
              subst (λ (earlier : List Action). IsInOrder earlier other) (sym all) (subst (IsInOrder d.actions) new.1 order)
        ];
      };
      once = record {
        posted_once = posted_once_with_action d action fresh sound.once.posted_once;
        started_once = λ j. count_once-push (is_start_of j) d.actions action (sound.once.started_once j) (start_fresh d.actions action j order);
        one_shutdown = count_once-push is_shutdown d.actions action sound.once.one_shutdown (shutdown_fresh d.actions action order);
      };
    }

-- tests that are passed together are passed in parts
passed-append : (tests more : List (Bool × ℕ)) → Passed (tests ++ more) → Passed tests × Passed more
passed-append [] more passed = (tt, passed)
passed-append (t ∷ tests) more passed = let rest = passed-append tests more passed.1 in ((passed.0, rest.0), rest.1)

-- a line that adds an action keeps the script sound, where its places and its own tests make the action sound
keeps_acted : {A : Type 0} (d d' : Draft) (r : Result A ℕ) (tests : A → List (Bool × ℕ)) (action : A → Action) → Keeps d
    → (r >>= λ p. behind (tests p ++ room d (action p)) (Ok (record d { actions = d.actions ++ action p ∷ [] }))) ≡ Ok d'
    → ((p : A) → r ≡ Ok p → Passed (tests p)
    → IsActionSound (script_of d) (action p) × IsInOrder d.actions (action p) × (is_any_posted (posted_in d) (posts_of_action (action p)) ≡ false))
    → Keeps d'
keeps_acted d d' r tests action sound e good =
    let g = line_ok r (λ p. tests p ++ room d (action p)) (λ p. record d { actions = d.actions ++ action p ∷ [] }) d' e in
    let passed = passed-append (tests g.0) (room d (action g.0)) g.2 in
    let it = good g.0 g.1 passed.0 in
    subst Keeps g.3 (with_action d (action g.0) it.0 it.1 it.2 passed.1 sound)

-- ---- the actions

-- a post that names what is declared, posts a task for the first time, and not where it must not block
abbrev post_tests : Draft → Step → List (Bool × ℕ)
post_tests d step = (not (is_declared d step), undeclared) ∷ (is_any_posted (posted_in d) (posts_of_step step), posted_twice) ∷
    (is_bad_post d step, bad_block) ∷ []

-- the delay at the places of a post
delay_within : (words : List (List ℕ)) (p : ℕ × (ℕ × (ℕ × Unit {0}))) → (id_at words 0 & id_at words 1 & time_at words 2 & ends_at words 3) ≡ Ok p
    → p.1.1.0 ≤ MOST_MICROSECONDS
delay_within words p is =
    let b0 = both_ok (id_at words 0) (id_at words 1 & time_at words 2 & ends_at words 3) p.0 p.1 is in
    let b1 = both_ok (id_at words 1) (time_at words 2 & ends_at words 3) p.1.0 p.1.1 b0.1 in
    let b2 = both_ok (time_at words 2) (ends_at words 3) p.1.1.0 p.1.1.1 b1.1 in
    (number_at-within 0 MOST_MICROSECONDS words 2 p.1.1.0 b2.0).1

-- `post T R D`
keeps_post : (d d' : Draft) (words : List (List ℕ)) → Keeps d → post_line d words ≡ Ok d' → Keeps d'
unfolding post_line
keeps_post d d' words sound e = keeps_acted d d' (id_at words 0 & id_at words 1 & time_at words 2 & ends_at words 3)
    (λ p. post_tests d (PostStep p.0 p.1.0 p.1.1.0)) (λ p. Post p.0 p.1.0 p.1.1.0) sound e
    (λ p is passed.
    let post = declared_runner_post d p.0 p.1.0 p.1.1.0 (not-false (is_declared d (PostStep p.0 p.1.0 p.1.1.0)) passed.0) passed.1.1.0 in
    ((post.1, delay_within words p is), tt, passed.1.0))

-- `main T Q D`
keeps_main : (d d' : Draft) (words : List (List ℕ)) → Keeps d → main_line d words ≡ Ok d' → Keeps d'
unfolding main_line
keeps_main d d' words sound e = keeps_acted d d' (id_at words 0 & id_at words 1 & time_at words 2 & ends_at words 3)
    (λ p. post_tests d (MainStep p.0 p.1.0 p.1.1.0)) (λ p. Main p.0 p.1.0 p.1.1.0) sound e
    (λ p is passed.
    let post = declared_queue_post d p.0 p.1.0 p.1.1.0 (not-false (is_declared d (MainStep p.0 p.1.0 p.1.1.0)) passed.0) passed.1.1.0 in
    ((post.1, delay_within words p is), tt, passed.1.0))

-- `tick N`
keeps_tick : (d d' : Draft) (words : List (List ℕ)) → Keeps d → tick_line d words ≡ Ok d' → Keeps d'
unfolding tick_line
keeps_tick d d' words sound e = keeps_acted d d' (number_at 1 65536 words 0 & ends_at words 1) (λ p. []) (λ p. Tick p.0) sound e
    (λ p is passed. (number_at-within 1 65536 words 0 p.0 (both_ok (number_at 1 65536 words 0) (ends_at words 1) p.0 p.1 is).0, tt, refl))

-- `policy all`, `policy foreground`, `policy none`
keeps_policy : (d d' : Draft) (words : List (List ℕ)) → Keeps d → policy_line d words ≡ Ok d' → Keeps d'
unfolding policy_line
keeps_policy d d' words sound e = keeps_acted d d' (name_at policy_named words 0 & ends_at words 1) (λ p. []) (λ p. Policy p.0) sound e
    (λ p is passed. (tt, tt, refl))

-- `reprio R PRIORITY`
keeps_reprio : (d d' : Draft) (words : List (List ℕ)) → Keeps d → reprio_line d words ≡ Ok d' → Keeps d'
unfolding reprio_line
keeps_reprio d d' words sound e = keeps_acted d d' (id_at words 0 & name_at priority_named words 1 & ends_at words 2)
    (λ p. (not (has_runner d p.0), undeclared) ∷ []) (λ p. Reprio p.0 p.1.0) sound e
    (λ p is passed. (ltb-true p.0 (length d.runners) (not-false (has_runner d p.0) passed.0), tt, refl))

-- the test that a queue is declared, and what it shows where it is passed
abbrev queue_test : Draft → ℕ → List (Bool × ℕ)
queue_test d queue = (not (has_queue d queue), undeclared) ∷ []

queue_there : (d : Draft) (queue : ℕ) → Passed (queue_test d queue) → queue < length d.queues
queue_there d queue passed = ltb-true queue (length d.queues) (not-false (has_queue d queue) passed.0)

-- `fence Q now`, `fence Q start`
keeps_fence : (d d' : Draft) (words : List (List ℕ)) → Keeps d → fence_line d words ≡ Ok d' → Keeps d'
unfolding fence_line
keeps_fence d d' words sound e = keeps_acted d d' (id_at words 0 & name_at fence_named words 1 & ends_at words 2) (λ p. queue_test d p.0)
    (λ p. Fence p.0 p.1.0) sound e (λ p is passed. (queue_there d p.0 passed, tt, refl))

-- `unfence Q`
keeps_unfence : (d d' : Draft) (words : List (List ℕ)) → Keeps d → unfence_line d words ≡ Ok d' → Keeps d'
unfolding unfence_line
keeps_unfence d d' words sound e = keeps_acted d d' (id_at words 0 & ends_at words 1) (λ p. queue_test d p.0) (λ p. Unfence p.0) sound e
    (λ p is passed. (queue_there d p.0 passed, tt, refl))

-- a voter that is declared has a queue that is
voter_queue : (d : Draft) (queue voter : ℕ) → has_voter d queue voter ≡ true → queue < length d.queues
voter_queue d queue voter e = by_queue (slice_get d.queues queue) refl e
  where
    by_queue : (o : Option MainQueue) → slice_get d.queues queue ≡ o → unwrap_or (option_map (λ declared. nat_lt voter declared.voters) o) false ≡ true
        → queue < length d.queues
    by_queue (Some declared) is h = slice_get_within d.queues queue declared is
    by_queue None is h = absurd cc

-- `vote Q V on`, `vote Q V off`
keeps_vote : (d d' : Draft) (words : List (List ℕ)) → Keeps d → vote_line d words ≡ Ok d' → Keeps d'
unfolding vote_line
keeps_vote d d' words sound e = keeps_acted d d' (id_at words 0 & number_at 0 255 words 1 & name_at vote_named words 2 & ends_at words 3)
    (λ p. (not (has_voter d p.0 p.1.0), undeclared) ∷ []) (λ p. Vote p.0 p.1.0 p.1.1.0) sound e
    (λ p is passed.
    let b0 = both_ok (id_at words 0) (number_at 0 255 words 1 & name_at vote_named words 2 & ends_at words 3) p.0 p.1 is in
    let b1 = both_ok (number_at 0 255 words 1) (name_at vote_named words 2 & ends_at words 3) p.1.0 p.1.1 b0.1 in
    let voter = not-false (has_voter d p.0 p.1.0) passed.0 in
    ((voter_queue d p.0 p.1.0 voter, (number_at-within 0 255 words 1 p.1.0 b1.0).1, voter), tt, refl))

-- `rank Q CLASS`
keeps_rank : (d d' : Draft) (words : List (List ℕ)) → Keeps d → rank_line d words ≡ Ok d' → Keeps d'
unfolding rank_line
keeps_rank d d' words sound e = keeps_acted d d' (id_at words 0 & number_at 0 7 words 1 & ends_at words 2) (λ p. queue_test d p.0)
    (λ p. Rank p.0 p.1.0) sound e
    (λ p is passed.
    let b0 = both_ok (id_at words 0) (number_at 0 7 words 1 & ends_at words 2) p.0 p.1 is in
    let b1 = both_ok (number_at 0 7 words 1) (ends_at words 2) p.1.0 p.1.1 b0.1 in
    ((queue_there d p.0 passed, (number_at-within 0 7 words 1 p.1.0 b1.0).1), tt, refl))

-- `close Q`
keeps_close : (d d' : Draft) (words : List (List ℕ)) → Keeps d → close_line d words ≡ Ok d' → Keeps d'
unfolding close_line
keeps_close d d' words sound e = keeps_acted d d' (id_at words 0 & ends_at words 1) (λ p. queue_test d p.0) (λ p. Close p.0) sound e
    (λ p is passed. (queue_there d p.0 passed, tt, refl))

-- `pump N`
keeps_pump : (d d' : Draft) (words : List (List ℕ)) → Keeps d → pump_line d words ≡ Ok d' → Keeps d'
unfolding pump_line
keeps_pump d d' words sound e = keeps_acted d d' (number_at 1 16384 words 0 & ends_at words 1) (λ p. []) (λ p. Pump p.0) sound e
    (λ p is passed. (number_at-within 1 16384 words 0 p.0 (both_ok (number_at 1 16384 words 0) (ends_at words 1) p.0 p.1 is).0, tt, refl))

-- `flush`
keeps_flush : (d d' : Draft) (words : List (List ℕ)) → Keeps d → flush_line d words ≡ Ok d' → Keeps d'
unfolding flush_line
keeps_flush d d' words sound e = keeps_acted {A = Unit {0}} d d' (Ok tt) (λ p. (nat_lt 0 (length words), word_count) ∷ []) (λ p. Flush) sound e
    (λ p is passed. (tt, tt, refl))

-- `shutdown`
keeps_shutdown : (d d' : Draft) (words : List (List ℕ)) → Keeps d → shutdown_line d words ≡ Ok d' → Keeps d'
unfolding shutdown_line
keeps_shutdown d d' words sound e = keeps_acted {A = Unit {0}} d d' (Ok tt)
    (λ p. (nat_lt 0 (length words), word_count) ∷ (has_shutdown d, shutdown_twice) ∷ []) (λ p. Shutdown) sound e (λ p is passed. (tt, passed.1.0, refl))

-- the test that a job is declared, and what it shows where it is passed
abbrev job_test : Draft → ℕ → Bool × ℕ
job_test d job = (not (has_job d job), undeclared)

job_there : (d : Draft) (job : ℕ) → not (has_job d job) ≡ false → job < length d.jobs
job_there d job passed = ltb-true job (length d.jobs) (not-false (has_job d job) passed)

-- `startjob J`
keeps_start_job : (d d' : Draft) (words : List (List ℕ)) → Keeps d → start_job_line d words ≡ Ok d' → Keeps d'
unfolding start_job_line
keeps_start_job d d' words sound e = keeps_acted d d' (id_at words 0 & ends_at words 1) (λ p. job_test d p.0 ∷ (is_started d p.0, job_use) ∷ [])
    (λ p. StartJob p.0) sound e (λ p is passed. (job_there d p.0 passed.0, passed.1.0, refl))

-- `join J`
keeps_join : (d d' : Draft) (words : List (List ℕ)) → Keeps d → join_line d words ≡ Ok d' → Keeps d'
unfolding join_line
keeps_join d d' words sound e = keeps_acted d d' (id_at words 0 & ends_at words 1) (λ p. job_test d p.0 ∷ (not (is_started d p.0), job_use) ∷ [])
    (λ p. Join p.0) sound e (λ p is passed. (job_there d p.0 passed.0, not-false (is_started d p.0) passed.1.0, refl))

-- `cancel J`
keeps_cancel : (d d' : Draft) (words : List (List ℕ)) → Keeps d → cancel_line d words ≡ Ok d' → Keeps d'
unfolding cancel_line
keeps_cancel d d' words sound e = keeps_acted d d' (id_at words 0 & ends_at words 1) (λ p. job_test d p.0 ∷ (not (is_started d p.0), job_use) ∷ [])
    (λ p. Cancel p.0) sound e (λ p is passed. (job_there d p.0 passed.0, not-false (is_started d p.0) passed.1.0, refl))

-- ---- all lines

keeps_queue_command : (d d' : Draft) (name : List ℕ) (words : List (List ℕ)) → Keeps d → queue_command_read d name words ≡ Ok d' → Keeps d'
unfolding queue_command_read
keeps_queue_command d d' name words sound e =
    either_way Keeps (is_word name (codes "tick")) (tick_line d words) _ (λ x. keeps_tick d x words sound)
    (either_way Keeps (is_word name (codes "fence")) (fence_line d words) _ (λ x. keeps_fence d x words sound)
    (either_way Keeps (is_word name (codes "unfence")) (unfence_line d words) _ (λ x. keeps_unfence d x words sound)
    (either_way Keeps (is_word name (codes "vote")) (vote_line d words) _ (λ x. keeps_vote d x words sound)
    (either_way Keeps (is_word name (codes "rank")) (rank_line d words) _ (λ x. keeps_rank d x words sound)
    (either_way Keeps (is_word name (codes "close")) (close_line d words) _ (λ x. keeps_close d x words sound)
    (either_way Keeps (is_word name (codes "pump")) (pump_line d words) _ (λ x. keeps_pump d x words sound)
    (none_such Keeps unknown_word))))))) d' e

keeps_action_command : (d d' : Draft) (name : List ℕ) (words : List (List ℕ)) → Keeps d → action_command_read d name words ≡ Ok d' → Keeps d'
unfolding action_command_read
keeps_action_command d d' name words sound e =
    either_way Keeps (is_word name (codes "post")) (post_line d words) _ (λ x. keeps_post d x words sound)
    (either_way Keeps (is_word name (codes "main")) (main_line d words) _ (λ x. keeps_main d x words sound)
    (either_way Keeps (is_word name (codes "policy")) (policy_line d words) _ (λ x. keeps_policy d x words sound)
    (either_way Keeps (is_word name (codes "reprio")) (reprio_line d words) _ (λ x. keeps_reprio d x words sound)
    (either_way Keeps (is_word name (codes "flush")) (flush_line d words) _ (λ x. keeps_flush d x words sound)
    (either_way Keeps (is_word name (codes "startjob")) (start_job_line d words) _ (λ x. keeps_start_job d x words sound)
    (either_way Keeps (is_word name (codes "join")) (join_line d words) _ (λ x. keeps_join d x words sound)
    (either_way Keeps (is_word name (codes "cancel")) (cancel_line d words) _ (λ x. keeps_cancel d x words sound)
    (either_way Keeps (is_word name (codes "shutdown")) (shutdown_line d words) _ (λ x. keeps_shutdown d x words sound)
    (λ x. keeps_queue_command d x name words sound))))))))) d' e

keeps_command : (d d' : Draft) (name : List ℕ) (words : List (List ℕ)) → Keeps d → command_read d name words ≡ Ok d' → Keeps d'
unfolding command_read
keeps_command d d' name words sound e =
    either_way Keeps (is_word name (codes "workers")) (workers_line d words) _ (λ x. keeps_workers d x words sound)
    (either_way Keeps (is_word name (codes "groups")) (groups_line d words) _ (λ x. keeps_groups d x words sound)
    (either_way Keeps (is_word name (codes "threshold")) (threshold_line d words) _ (λ x. keeps_threshold d x words sound)
    (either_way Keeps (is_word name (codes "runner")) (runner_line d words) _ (λ x. keeps_runner d x words sound)
    (either_way Keeps (is_word name (codes "queue")) (queue_line d words) _ (λ x. keeps_queue d x words sound)
    (either_way Keeps (is_word name (codes "task")) (task_line d words) _ (λ x. keeps_task d x words sound)
    (either_way Keeps (is_word name (codes "job")) (job_line d words) _ (λ x. keeps_job d x words sound)
    (λ x. keeps_action_command d x name words sound))))))) d' e

keeps_words : (d d' : Draft) (line : List ℕ) (words : List (List ℕ)) → Keeps d → words_read d line words ≡ Ok d' → Keeps d'
unfolding words_read
keeps_words d d' line [] sound e = subst Keeps (ok_same {E = ℕ} d d' e) sound
keeps_words d d' line (name ∷ words) sound e =
    either_way Keeps (begins_comment name) (Ok d) (refuse (not (is_all_ascii line)) not_ascii >> command_read d name words)
    (λ x h. subst Keeps (ok_same {E = ℕ} d x h) sound)
    (λ x h. keeps_command d x name words sound (refuse_ok (not (is_all_ascii line)) not_ascii (command_read d name words) x h).1) d' e

pub keeps_lines : (d : Draft) (n : ℕ) (lines : List (List ℕ)) (d' : Draft) → Keeps d → lines_read d n lines ≡ Ok d' → Keeps d'
unfolding lines_read
keeps_lines d n [] d' sound e = subst Keeps (ok_same {E = ℕ × ℕ} d d' e) sound
keeps_lines d n (line ∷ lines) d' sound e =
    let next = first_ok n (line_read d line) (λ next. lines_read next (n + 1) lines) d' e in
    keeps_lines next.0 (n + 1) lines d' (keeps_words d next.0 line (words_of line) sound next.1) next.2

-- what no line gives is sound
empty_sound : Keeps empty_draft
unfolding postings
empty_sound = record {
  closed = refl;
  config = record {
    some_workers = omega arith;
    few_workers = omega arith;
    some_foreground = omega arith;
    few_foreground = omega arith;
    some_best = omega arith;
    best_within = omega arith;
    few_background = omega arith;
    threshold_within = omega arith;
  };
  limits = record {
    few_runners = omega arith;
    few_queues = omega arith;
    few_tasks = omega arith;
    few_jobs = omega arith;
    few_items = omega arith;
    few_steps = omega arith;
    few_ticks = omega arith;
    few_events = omega arith;
  };
  declarations = record { seats_there = tt; queues_within = tt; tasks_sound = λ t steps h. absurd cc; jobs_sound = tt };
  actions = record { each_sound = tt; in_order = λ k action h. absurd cc };
  once = record { posted_once = λ t. omega arith; started_once = λ j. omega arith; one_shutdown = omega arith };
}

script_ok : (r : Result Draft (ℕ × ℕ)) (script : Plan) → (r >>= λ d. Ok (script_of d)) ≡ Ok script → (d : Draft) × (r ≡ Ok d) × (script_of d ≡ script)
script_ok (Ok d) script e = (d, refl, ok_same {E = ℕ × ℕ} (script_of d) script e)
script_ok (Err r) script e = absurd cc

pub reads_sound : (bytes : List ℕ) (script : Plan) → Reads bytes script → IsSound script
unfolding script_read
reads_sound bytes script e =
    let d = script_ok (lines_read empty_draft 1 (lines_of bytes)) script e in
    subst IsSound d.2 (keeps_lines empty_draft 1 (lines_of bytes) d.0 empty_sound d.1)
