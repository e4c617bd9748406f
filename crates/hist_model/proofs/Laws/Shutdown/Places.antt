-- What shutdown waits for and forbids in a legal log, over its places.
-- Cited by `Laws/OpenPlans`, `shutdown.rt`.
use Rattle.pool_laws.proofs.Choice.Sources.{no_job_post}
use Rattle.std.proofs.Common.{◌≡◌, ℕ, ◌+◌, ◌<◌, Bool, true, false, List, [], ◌∷◌, ◌++◌, length, take, refl}
use Rattle.std.proofs.Common.{sym, ap, subst, ◌∙◌, Option, Some, None, ⊎_elim, arith, cond, leb, eqb}
use Rattle.std.specs.Prelude.{not, ◌&&◌, slice_get, Contains}
use Rattle.std.specs.List.{range_with_len}
use Rattle.std.specs.Option.{option_map_or}
use Rattle.std.proofs.lemmas.Bool.{and_parts, eqb-true, eq-eqb, true≢false}
use Rattle.std.proofs.lemmas.List.Elements.{All-contains, Contains-append_left, Contains-append_right}
use Rattle.std.proofs.lemmas.Option.{none-some, slice_get_within}
use Rattle.task_base.specs.Plan.{Plan, JobPlan}
use Rattle.task_base.specs.declared.entry.Entry.{Entry}
use Rattle.task_base.specs.declared.entry.Kind.{Kind}
use Rattle.task_base.specs.declared.entry.Kind.TheVariants as kinds
use Rattle.task_traits.specs.Behaviour.{forbids}
use Rattle.task_traits.specs.declared.phase.Phase.{Phase}
use Rattle.task_traits.specs.declared.phase.Phase.TheVariants as phases
use Rattle.task_traits.specs.declared.traits.Behaviour.{Behaviour}
use Rattle.task_traits.specs.declared.traits.Behaviour.TheVariants.{ContinueOnShutdown, SkipOnShutdown, BlockShutdown}
use Rattle.list_laws.specs.Lists.{holds_of}
use Rattle.list_laws.proofs.Elements.{push_induction, AllByRecursion-contains}
use Rattle.list_laws.proofs.Made.{contains_range}
use Rattle.list_laws.proofs.Places.{slice_get_push}
use Rattle.task_model.specs.Phase.{phase_of}
use Rattle.task_model.specs.Posts.{Posted, posts, posted_by, post_behind, is_taken, takes, is_ended, ends}
use Rattle.task_model.specs.Refusal.{effective_at, behaviour_of_job, is_job_forbidden}
use Rattle.task_model.specs.Seats.{all_seats}
use Rattle.task_model.specs.Jobs.{JobPosted, job_post_of, job_post_after, is_job_accepted, is_over}
use Rattle.task_model.specs.Blockers.{is_block, is_skip, is_open_block, is_running_skip, is_open_job, is_in_skip_job}
use Rattle.task_model.proofs.Growth.{posts_push, job_post_of_push}
use Rattle.hist_model.specs.Allowed.{by_script, is_reply, may_come, is_allowed, IsAllowed}
use Rattle.hist_model.specs.Legal.{IsLegal}
use Rattle.hist_model.specs.Laws.Places.{IsAt, StandsBefore}
use Rattle.hist_model.specs.Laws.Shutdown.{MayStart, HasWaited}
use Rattle.hist_model.specs.Laws.ShutdownPlaces.{EndsBefore, IsBlockTask, WaitsAndForbids}
use Rattle.hist_model.proofs.Laws.Legal.{legal_induction, entry_induction}
use Rattle.hist_model.proofs.Laws.HoldsApart.{legal_holds_apart}
use Rattle.hist_model.proofs.Laws.Phases.{job_forbidden_on}
use Rattle.hist_model.proofs.Laws.AtPlaces.{passes_at, passed_by, in_past, of_past, past_is_legal}
use Rattle.hist_model.proofs.Laws.Starts.{StandsIn, all_stand}
use Rattle.hist_model.proofs.Laws.Refusals.{forbidden_from, keeps_at}

-- a post that was accepted gives an accepted task
pub record Accepted (past : List Entry) (task runner delay : ℕ) : Type 0 where
  pub posted : Posted
  pub contained : Contains (posts past) posted
  pub task_is : posted.task ≡ task
  pub home_is : posted.home ≡ runner
  pub delay_is : posted.delay ≡ delay

accepted : (past : List Entry) (i seat task runner delay : ℕ) → IsAt past i seat (kinds.Post task runner delay true) → Accepted past task runner delay
accepted = push_induction
    (λ past. (i seat task runner delay : ℕ) → IsAt past i seat (kinds.Post task runner delay true) → Accepted past task runner delay)
    (λ i seat task runner delay is. absurd (none-some _ is)) step
  where
    old : (past : List Entry) (e : Entry) (task runner delay : ℕ) → Accepted past task runner delay → Accepted (past ++ e ∷ []) task runner delay
    old past e task runner delay was = record {
      posted = was.posted;
      contained = subst (λ ps. Contains ps was.posted) (sym (posts_push past e))
          (Contains-append_left (posts past) (posted_by past e.kind) was.posted was.contained);
      task_is = was.task_is;
      home_is = was.home_is;
      delay_is = was.delay_is;
    }

    new : (past : List Entry) (seat task runner delay : ℕ)
        → Accepted (past ++ record { seat = seat; kind = kinds.Post task runner delay true } ∷ []) task runner delay
    new past seat task runner delay = record {
      posted = post_behind past task runner delay;
      contained = subst (λ ps. Contains ps (post_behind past task runner delay)) (sym (posts_push past _))
          (Contains-append_right (posts past) (post_behind past task runner delay ∷ []) (post_behind past task runner delay) (0, omega arith, refl));
      task_is = refl;
      home_is = refl;
      delay_is = refl;
    }

    step : (past : List Entry) (e : Entry)
        → ((i seat task runner delay : ℕ) → IsAt past i seat (kinds.Post task runner delay true) → Accepted past task runner delay)
        → (i seat task runner delay : ℕ) → IsAt (past ++ e ∷ []) i seat (kinds.Post task runner delay true) → Accepted (past ++ e ∷ []) task runner delay
    step past e before i seat task runner delay is = ⊎_elim
        (λ k. old past e task runner delay (before i seat task runner delay k.1))
        (λ k. subst (λ x. Accepted (past ++ x ∷ []) task runner delay) (sym k.1) (new past seat task runner delay))
        (slice_get_push past e i _ is)

-- the job's post, if there is one, was refused, or was accepted
abbrev was_refused : Option JobPosted → Bool
was_refused post = holds_of (λ p. not p.ok) post

abbrev was_accepted : Option JobPosted → Bool
was_accepted post = holds_of (λ p. p.ok) post

-- the first post of a job stays its first
first_stays : (j : ℕ) (before : List Entry) (p : JobPosted) (kind : Kind) → job_post_after j before (Some p) kind ≡ Some p
first_stays j before p (kinds.JobPost job ok) = refl
first_stays j before p kind = refl

-- a job's post that is refused is forbidden, and one that is accepted is not
refused_reply : (script : Plan) (past : List Entry) (seat job : ℕ) → may_come script past seat (kinds.JobPost job false) ≡ true
    → is_job_forbidden script past job ≡ true
unfolding may_come
refused_reply script past seat job h = said (is_job_forbidden script past job)
    (and_parts (by_script script past seat (kinds.JobPost job false)) (is_reply (is_job_forbidden script past job) false) h).1
  where
    said : (b : Bool) → is_reply b false ≡ true → b ≡ true
    said true k = refl
    said false k = absurd cc

accepted_reply : (script : Plan) (past : List Entry) (seat job : ℕ) → may_come script past seat (kinds.JobPost job true) ≡ true
    → is_job_forbidden script past job ≡ false
unfolding may_come
accepted_reply script past seat job h = said (is_job_forbidden script past job)
    (and_parts (by_script script past seat (kinds.JobPost job true)) (is_reply (is_job_forbidden script past job) true) h).1
  where
    said : (b : Bool) → is_reply b true ≡ true → b ≡ false
    said false k = refl
    said true k = absurd cc

-- a job whose first post was refused is forbidden from then on
refused_job : (script : Plan) (j : ℕ) (past : List Entry) → IsLegal script past → was_refused (job_post_of past j) ≡ true
    → is_job_forbidden script past j ≡ true
refused_job script j = entry_induction script
    (λ past. was_refused (job_post_of past j) ≡ true → is_job_forbidden script past j ≡ true)
    (λ h. absurd (true≢false (sym h ∙ ap was_refused (no_job_post j))))
    (λ past e known may before h. job_forbidden_on script past (e ∷ []) j
    (by_past past e.seat (job_post_of past j) e.kind may before (ap was_refused (sym (job_post_of_push past e j)) ∙ h)))
  where
    ours : (past : List Entry) (job : ℕ) (b : Bool) → eqb job j ≡ b → is_job_forbidden script past job ≡ true
        → was_refused (cond b (Some (record { place = length past; ok = false })) None) ≡ true → is_job_forbidden script past j ≡ true
    ours past job true same k h = ap (is_job_forbidden script past) (sym (eqb-true job j same)) ∙ k
    ours past job false other k h = absurd cc

    theirs : (past : List Entry) (b : Bool) → was_refused (cond b (Some (record { place = length past; ok = true })) None) ≡ true → ⊥
    theirs past true h = absurd cc
    theirs past false h = absurd cc

    by_past : (past : List Entry) (seat : ℕ) (post : Option JobPosted) (kind : Kind) → may_come script past seat kind ≡ true
        → (was_refused post ≡ true → is_job_forbidden script past j ≡ true)
        → was_refused (job_post_after j past post kind) ≡ true → is_job_forbidden script past j ≡ true
    by_past past seat (Some p) kind may before h = before (ap was_refused (sym (first_stays j past p kind)) ∙ h)
    by_past past seat None (kinds.JobPost job true) may before h = absurd (theirs past (eqb job j) h)
    by_past past seat None (kinds.JobPost job false) may before h = ours past job (eqb job j) refl (refused_reply script past seat job may) h
    by_past past seat None kind may before h = absurd cc

-- a job one of whose posts was accepted is accepted: its first post was
accepted_job : (script : Plan) (j : ℕ) (past : List Entry) → IsLegal script past → (i seat : ℕ) → IsAt past i seat (kinds.JobPost j true)
    → is_job_accepted past j ≡ true
accepted_job script j = legal_induction script (λ past. (i seat : ℕ) → IsAt past i seat (kinds.JobPost j true) → is_job_accepted past j ≡ true)
    (λ i seat is. absurd (none-some _ is)) step
  where
    old : (past : List Entry) (kind : Kind) (post : Option JobPosted) → was_accepted post ≡ true
        → was_accepted (job_post_after j past post kind) ≡ true
    old past kind None h = absurd cc
    old past kind (Some p) h = ap was_accepted (first_stays j past p kind) ∙ h

    new : (past : List Entry) (post : Option JobPosted) → is_job_forbidden script past j ≡ false
        → (was_refused post ≡ true → is_job_forbidden script past j ≡ true)
        → was_accepted (job_post_after j past post (kinds.JobPost j true)) ≡ true
    new past None free refused =
        ap (λ b. was_accepted (cond b (Some (record { place = length past; ok = true })) None)) (eq-eqb j j refl)
    new past (Some p) free refused = first p.ok refl
      where
        first : (ok : Bool) → p.ok ≡ ok → p.ok ≡ true
        first true is = is
        first false is = absurd (true≢false (sym (refused (ap not is)) ∙ free))

    of_seat : (past : List Entry) (e : Entry) (seat : ℕ) → IsLegal script past → IsAllowed script past e
        → e ≡ record { seat = seat; kind = kinds.JobPost j true }
        → is_job_accepted (past ++ e ∷ []) j ≡ true
    of_seat past e seat legal allowed same =
        let may : may_come script past seat (kinds.JobPost j true) ≡ true = (and_parts (leb seat script.workers)
        (may_come script past seat (kinds.JobPost j true)) (ap (is_allowed script past) (sym same) ∙ allowed)).1 in
        ap was_accepted (job_post_of_push past e j) ∙ ap (λ x. was_accepted (job_post_after j past (job_post_of past j) x.kind)) same
        ∙ new past (job_post_of past j) (accepted_reply script past seat j may) (refused_job script j past legal)

    step : (past : List Entry) (e : Entry) → IsLegal script past → IsAllowed script past e
        → ((i seat : ℕ) → IsAt past i seat (kinds.JobPost j true) → is_job_accepted past j ≡ true)
        → (i seat : ℕ) → IsAt (past ++ e ∷ []) i seat (kinds.JobPost j true) → is_job_accepted (past ++ e ∷ []) j ≡ true
    step past e legal allowed before i seat is = ⊎_elim
        (λ k. ap was_accepted (job_post_of_push past e j) ∙ old past e.kind (job_post_of past j) (before i seat k.1))
        (λ k. of_seat past e seat legal allowed k.1)
        (slice_get_push past e i _ is)

-- what has ended in the past has its end before the place
ends_before : (log : List Entry) (k task : ℕ) → is_ended (take k log) task ≡ true → EndsBefore log k task
unfolding is_ended
ends_before log k task h =
    let p = passes_at (λ (e : Entry). ends task e.kind) (take k log) h in
    let o = of_past log p.place k p.value p.is in
    at p.place p.value.seat p.value.kind o.0 o.1 p.passes
  where
    at : (i seat : ℕ) (kind : Kind) → i < k → IsAt log i seat kind → ends task kind ≡ true → EndsBefore log k task
    at i seat (kinds.End t left) less is same = (
      left,
      record {
        at = i;
        seat = seat;
        earlier = less;
        is = is
            ∙ ap (λ u. Some (record { seat = seat; kind = kinds.End u left })) (eqb-true t task same);
      },
    )
    at i seat kind less is same = absurd cc

-- what is taken before the place is taken in its past
taken_in : (log : List Entry) (k task runner found : ℕ) → StandsBefore log k (kinds.Take task runner found) → is_taken (take k log) task ≡ true
unfolding is_taken
taken_in log k task runner found s = passed_by (λ (e : Entry). takes task e.kind) (take k log) s.at
    (record { seat = s.seat; kind = kinds.Take task runner found }) (in_past log s.at k s.earlier ∙ s.is) (eq-eqb task task refl)

-- two tests of which not both pass, where the first does
pub second_fails : (a b : Bool) → (a && not b) ≡ false → a ≡ true → b ≡ true
second_fails true true h is = refl
second_fails true false h is = absurd cc
second_fails false b h is = absurd cc

-- a job whose behaviour is not that of an unknown job is one of the script's
known_job : (script : Plan) (j : ℕ) (b : Behaviour) → behaviour_of_job script j ≡ b → (b ≡ ContinueOnShutdown → ⊥) → j < length script.jobs
known_job script j b is other = at (slice_get script.jobs j) refl
  where
    at : (o : Option JobPlan) → slice_get script.jobs j ≡ o → j < length script.jobs
    at None none = absurd (other (sym is ∙ ap (λ o. option_map_or (λ job. job.behaviour) o ContinueOnShutdown) none))
    at (Some job) some = slice_get_within script.jobs j job some

-- what a phase that forbids block forbids
forbids_all : (now : Phase) (b : Behaviour) → forbids now BlockShutdown ≡ true → forbids now b ≡ true
forbids_all phases.Running b h = absurd cc
forbids_all phases.Started b h = absurd cc
forbids_all phases.Done b h = refl

-- what may start behind a start of shutdown is block
only_block : (script : Plan) (log : List Entry) (k : ℕ) (b : Behaviour) → IsLegal script (take k log) → forbids (phase_of (take k log)) b ≡ false
    → StandsBefore log k kinds.Shutdown → b ≡ BlockShutdown
only_block script log k BlockShutdown legal free s = refl
only_block script log k SkipOnShutdown legal free s = absurd (true≢false (sym ((forbidden_from script log k SkipOnShutdown legal).1 s) ∙ free))
only_block script log k ContinueOnShutdown legal free s = absurd (true≢false (sym ((forbidden_from script log k ContinueOnShutdown legal).1 s) ∙ free))

-- and nothing may start behind a done
nothing_starts : (script : Plan) (log : List Entry) (k : ℕ) (b : Behaviour) → IsLegal script (take k log) → forbids (phase_of (take k log)) b ≡ false
    → StandsBefore log k kinds.Done → ⊥
nothing_starts script log k b legal free s =
    true≢false (sym (forbids_all (phase_of (take k log)) b ((forbidden_from script log k BlockShutdown legal).1 s)) ∙ free)

pub shutdown_waits_and_forbids : (script : Plan) (log : List Entry) → IsLegal script log → WaitsAndForbids script log
shutdown_waits_and_forbids script log legal = record {
  block_tasks_have_ended = λ k seat task runner delay there post block.
      let a = in_the_past k task runner delay post in
      ends_before log k task (ap (is_ended (take k log)) (sym a.task_is) ∙ second_fails _ (is_ended (take k log) a.posted.task)
      (All-contains (λ p. is_open_block script (take k log) p ≡ false) (posts (take k log)) a.posted (waited k seat there).blocks_ended a.contained)
      (ap is_block (effect k task runner delay a ∙ block)));
  taken_skip_tasks_have_ended = λ k seat task runner delay taken_on found there post skip take_stands.
      let a = in_the_past k task runner delay post in
      ends_before log k task (ap (is_ended (take k log)) (sym a.task_is) ∙ second_fails _ (is_ended (take k log) a.posted.task)
      (All-contains (λ p. is_running_skip script (take k log) p ≡ false) (posts (take k log)) a.posted (waited k seat there).no_skip_runs a.contained)
      (both (ap is_skip (effect k task runner delay a ∙ skip)) (ap (is_taken (take k log)) a.task_is ∙ taken_in log k task taken_on found take_stands)));
  block_jobs_are_over = λ k seat job there posted block. second_fails _ (is_over script (take k log) job)
      (All-contains (λ j. is_open_job script (take k log) j ≡ false) (range_with_len 0 (length script.jobs)) job (waited k seat there).jobs_over
      (contains_range (length script.jobs) job (known_job script job BlockShutdown block (λ same. cc))))
      (both (ap is_block block) (accepted_job script job (take k log) (past_is_legal script log k _ legal there) posted.at posted.seat
      (in_past log posted.at k posted.earlier ∙ posted.is)));
  nobody_is_inside_skip_jobs = λ k seat holder held there is skip. true≢false (
      sym (ap (holds_of (λ h. is_skip (behaviour_of_job script h.job))) is ∙ ap is_skip skip)
      ∙ All-contains (λ s. is_in_skip_job script (take k log) s ≡ false) (all_seats script) holder (waited k seat there).nobody_inside
      (contains_range (script.workers + 1) holder (omega (
        arith,
        (legal_holds_apart script (take k log) (past_is_legal script log k _ legal there)).known holder held is,
      ))));
  only_block_tasks_start = λ k seat task runner found there s. starts k task runner (keeps_at script log k seat (kinds.Take task runner found) legal there)
      (past_is_legal script log k _ legal there) s;
  only_block_jobs_are_entered = λ k seat job id item there s. only_block script log k (behaviour_of_job script job)
      (past_is_legal script log k _ legal there) (keeps_at script log k seat (kinds.JobTake job id item) legal there) s;
  no_task_starts_after_done = λ k seat task runner found there s.
      let may : MayStart script (take k log) task runner = keeps_at script log k seat (kinds.Take task runner found) legal there in
      nothing_starts script log k (effective_at script may.accepted.home may.accepted.delay) (past_is_legal script log k _ legal there) may.free s;
  no_job_is_entered_after_done = λ k seat job id item there s. nothing_starts script log k (behaviour_of_job script job)
      (past_is_legal script log k _ legal there) (keeps_at script log k seat (kinds.JobTake job id item) legal there) s;
}
  where
    waited : (k seat : ℕ) → IsAt log k seat kinds.Done → HasWaited script (take k log)
    waited k seat there = keeps_at script log k seat kinds.Done legal there

    in_the_past : (k task runner delay : ℕ) → StandsBefore log k (kinds.Post task runner delay true) → Accepted (take k log) task runner delay
    in_the_past k task runner delay s = accepted (take k log) s.at s.seat task runner delay (in_past log s.at k s.earlier ∙ s.is)

    effect : (k task runner delay : ℕ) (a : Accepted (take k log) task runner delay)
        → effective_at script a.posted.home a.posted.delay ≡ effective_at script runner delay
    effect k task runner delay a = rw (a.home_is, a.delay_is) refl

    both : {a b : Bool} → a ≡ true → b ≡ true → (a && b) ≡ true
    both {a} {b} h k = ap (λ c. c && b) h ∙ k

    starts : (k task runner : ℕ) → MayStart script (take k log) task runner → IsLegal script (take k log) → StandsBefore log k kinds.Shutdown
        → IsBlockTask script log k task runner
    starts k task runner may past_legal s =
        let p = AllByRecursion-contains (StandsIn false (take k log)) (posts (take k log)) may.accepted (all_stand false (take k log)) may.posted in
        let o = of_past log may.accepted.place k _ p.is in (
          may.accepted.delay,
          record {
            at = may.accepted.place;
            seat = p.poster;
            earlier = o.0;
            is = rw (← may.task_is, ← may.runner_is) o.1;
          },
          ap (λ r. effective_at script r may.accepted.delay) (sym may.runner_is)
              ∙ only_block script log k (effective_at script may.accepted.home may.accepted.delay) past_legal may.free s,
        )
