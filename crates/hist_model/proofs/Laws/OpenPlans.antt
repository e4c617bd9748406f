-- What open plans give: the clock may always be read, nothing starts once shutdown is done, a free worker has one way on, and a
-- guest only posts.
-- Cited by `nothing_starts_once_shutdown_is_done`, `open.rt`, `live_core`.
use Rattle.std.proofs.Common.{◌≡◌, ℕ, ◌≤◌, Bool, true, false, cond, eqb, List, [], ◌∷◌, ◌++◌, append-nil, refl, sym, ap, subst, ◌∙◌, Option, Some, None, ◌⊎◌, inl, inr, ⊎_elim, arith}
use Rattle.std.specs.Prelude.{◌&&◌, ◌||◌, is_none, is_some, nat_le, Contains}
use Rattle.std.specs.List.{AllByRecursion, list_any}
use Rattle.std.proofs.lemmas.Bool.{and_parts, both_ways, eqb-true, false_from_ne_true, le-leb, not-true, or_cases, or_left, true≢false}
use Rattle.std.proofs.lemmas.List.Elements.{recursion_from_All}
use Rattle.std.proofs.lemmas.Option.{none-some}
use Rattle.task_base.specs.Plan.{Plan}
use Rattle.task_base.specs.declared.entry.Entry.{Entry}
use Rattle.task_base.specs.declared.entry.Kind.{Kind}
use Rattle.task_base.specs.declared.entry.Kind.TheVariants as kinds
use Rattle.task_base.specs.declared.step.Scope.{Scope}
use Rattle.task_base.specs.declared.limits.TheConstants.{LAST_MOMENT}
use Rattle.task_traits.specs.declared.phase.Phase.{Phase}
use Rattle.task_traits.specs.declared.phase.Phase.TheVariants as phases
use Rattle.task_traits.specs.Behaviour.{forbids}
use Rattle.list_laws.proofs.Elements.{AllByRecursion-contains, AllByRecursion-map}
use Rattle.task_model.specs.Blockers.{is_block, is_open_block}
use Rattle.task_model.specs.Capacity.{open_scope}
use Rattle.task_model.specs.Jobs.{is_cancelled, is_empty}
use Rattle.task_model.specs.Past.{fold_past}
use Rattle.task_model.specs.Phase.{is_started, phase_after, phase_of}
use Rattle.task_model.specs.Posts.{Posted, is_ended, is_taken, posted_by, posts, takes}
use Rattle.task_model.specs.Refusal.{effective_at, is_refused}
use Rattle.task_model.specs.Seats.{Holding, Running, holding, holding_after, is_free, is_quiet, running, running_after, steps_of}
use Rattle.task_model.specs.Time.{now_of}
use Rattle.task_model.proofs.Growth.{is_taken_push, phase_of_push, posts_push, running_push, holding_push}
use Rattle.hist_model.specs.Allowed.{IsAllowed, by_own_step, by_script, by_task, enters, is_ready_worker, may_come}
use Rattle.hist_model.specs.Legal.{IsLegal}
use Rattle.hist_model.specs.Open.{IsOpen, is_done, is_guest, is_kept, is_poster, may_close_scope}
use Rattle.hist_model.specs.Script.{is_finished, is_wanted}
use Rattle.hist_model.specs.Views.{own_entries}
use Rattle.hist_model.specs.Laws.Open.{IsAtNoTask, IsLeftByShutdown, is_post, starts}
use Rattle.hist_model.specs.Laws.Shutdown.{HasWaited, KeepsShutdown}
use Rattle.hist_model.specs.Laws.Ways.{way_on}
use Rattle.hist_model.proofs.Laws.Consistent.{legal_is_consistent}
use Rattle.hist_model.proofs.Laws.Choice.{found}
use Rattle.hist_model.proofs.Laws.JobEntries.{none_is}
use Rattle.hist_model.proofs.Laws.Legal.{entry_induction, legal_induction, legal_next}
use Rattle.hist_model.proofs.Laws.OneThing.{job_step_holds, served_by}
use Rattle.hist_model.proofs.Laws.Open.{IsPostedFreely, open_finished, open_posts}
use Rattle.hist_model.proofs.Laws.Own.{own_entries_push}
use Rattle.hist_model.proofs.Laws.Rising.{opens_as_running}
use Rattle.hist_model.proofs.Laws.Shutdown.Histories.{waits_and_forbids}
use Rattle.hist_model.proofs.Laws.Shutdown.Places.{second_fails}
use Rattle.hist_model.proofs.Laws.Takes.{IsReadyWorker, by_driver, end_is, job_take_is, main_end_is, ready_worker}
use Rattle.hist_model.proofs.Laws.Ways.{job_step_way, take_way, worker_job_way}

-- ---- shutdown is the driver's

-- an entry of another seat leaves the phase
stays : (script : Plan) (past : List Entry) (seat : ℕ) (kind : Kind) → eqb seat 0 ≡ false → may_come script past seat kind ≡ true
    → phase_of past ≡ phase_after (phase_of past) kind
unfolding may_come
stays script past seat kinds.Shutdown other h = absurd (both_ways (eqb seat 0) other (ap (λ s. eqb s 0) (by_driver script past seat kinds.Shutdown h)))
stays script past seat kinds.Done other h = absurd (both_ways (eqb seat 0) other (ap (λ s. eqb s 0) (by_driver script past seat kinds.Done
    (and_parts (by_script script past seat kinds.Done) _ (and_parts _ _ h).0).0)))
stays script past seat kind other h = refl

-- so the driver's own entries tell it
pub phase_own : (script : Plan) (past : List Entry) → IsLegal script past → phase_of (own_entries 0 past) ≡ phase_of past
unfolding phase_of
phase_own script = entry_induction script (λ past. phase_of (own_entries 0 past) ≡ phase_of past) refl (λ past e known may same.
    rw (own_entries_push past e 0) (by_seat past e may same (eqb e.seat 0) refl))
  where
    by_seat : (past : List Entry) (e : Entry) → may_come script past e.seat e.kind ≡ true → phase_of (own_entries 0 past) ≡ phase_of past
        → (b : Bool) → eqb e.seat 0 ≡ b → phase_of (cond b (own_entries 0 past ++ e ∷ []) (own_entries 0 past)) ≡ phase_of (past ++ e ∷ [])
    by_seat past e may same true is = phase_of_push (own_entries 0 past) e ∙ ap (λ p. phase_after p e.kind) same ∙ sym (phase_of_push past e)
    by_seat past e may same false other = same ∙ stays script past e.seat e.kind other may ∙ sym (phase_of_push past e)

-- ---- the clock

-- before shutdown is done, the driver may read the clock at every moment from the last one on
pub ticks_come : (script : Plan) (past : List Entry) (now : ℕ) → IsOpen script → IsLegal script past → is_done (phase_of past) ≡ false → now_of past ≤ now
    → now ≤ LAST_MOMENT → IsAllowed script past (record { seat = 0; kind = kinds.Tick now })
unfolding may_come by_script is_wanted
ticks_come script past now opened legal going low high =
    rw (le-leb 0 script.workers (omega arith), opened, phase_own script past legal, going, le-leb (now_of past) now low, le-leb now LAST_MOMENT high) refl

-- ---- nothing starts once shutdown is done

done_is_finished : (script : Plan) (past : List Entry) → IsOpen script → IsLegal script past → phase_of past ≡ phases.Done → is_finished script past ≡ true
done_is_finished script past opened legal done = open_finished script past opened ∙ ap is_done (phase_own script past legal ∙ done)

pub nothing_starts : (script : Plan) (past : List Entry) (seat : ℕ) (kind : Kind) → IsOpen script → IsLegal script past → phase_of past ≡ phases.Done
    → may_come script past seat kind ≡ true → starts kind ≡ false
unfolding may_come
nothing_starts script past seat kind opened legal done may = of_kind kind may
  where
    no_worker : IsReadyWorker script past seat → ⊥
    no_worker ready = both_ways (is_finished script past) ready.goes_on (done_is_finished script past opened legal done)

    no_driver : (k : Kind) → by_script script past seat k ≡ true → ⊥
    no_driver k by = both_ways (is_done (phase_of (own_entries 0 past))) (served_by script past seat k opened by).not_done
        (ap is_done (phase_own script past legal ∙ done))

    of_kind : (k : Kind) → may_come script past seat k ≡ true → starts k ≡ false
    of_kind (kinds.Take task runner found) h = absurd (no_worker (ready_worker script past seat (and_parts (is_ready_worker script past seat) _ h).0))
    of_kind (kinds.MainTake task queue found) h =
        absurd (no_driver (kinds.MainTake task queue found) (and_parts (by_script script past seat (kinds.MainTake task queue found)) _ (and_parts _ _ h).0).0)
    of_kind (kinds.JobTake job id item) h = ⊎_elim (λ k. absurd (no_worker k.0)) (λ k. absurd (no_driver (kinds.JobTake job id item) k.0))
        (job_take_is script past seat job id item h)
    of_kind k h = refl

-- shutdown is done by its own entry alone
done_now : (now : Phase) (kind : Kind) → phase_after now kind ≡ phases.Done → (now ≡ phases.Done) ⊎ (kind ≡ kinds.Done)
done_now phases.Running kinds.Shutdown h = absurd cc
done_now phases.Started kinds.Shutdown h = absurd cc
done_now phases.Done kinds.Shutdown h = inl refl
done_now now kinds.Done h = inr refl
done_now now kind h = inl h

-- each accepted block task of the pool was taken
abbrev BlocksTaken : Plan → List Entry → List Posted → Type 0
BlocksTaken script past ps = AllByRecursion (λ p. is_block (effective_at script p.home p.delay) ≡ true → is_taken past p.task ≡ true) ps

-- what was taken stays taken
taken_on : (script : Plan) (past : List Entry) (e : Entry) (ps : List Posted) → BlocksTaken script past ps → BlocksTaken script (past ++ e ∷ []) ps
taken_on script past e ps all = AllByRecursion-map _ _ ps
    (λ p taken block. is_taken_push past e p.task ∙ or_left (is_taken past p.task) (takes p.task e.kind) (taken block)) all

-- an accepted post comes where the phase forbids not all
posts_none : (script : Plan) (past : List Entry) (kind : Kind) → phase_of past ≡ phases.Done → KeepsShutdown script past kind → posted_by past kind ≡ []
posts_none script past (kinds.Post task runner delay true) done keeps =
    absurd (both_ways (is_refused script past runner delay) (not-true (is_refused script past runner delay) (sym keeps))
    (ap (λ p. forbids p (effective_at script runner delay)) done))
posts_none script past (kinds.Post task runner delay false) done keeps = refl
posts_none script past kind done keeps = refl

done_posts_none : (past : List Entry) → posted_by past kinds.Done ≡ []
done_posts_none past = refl

-- once shutdown is done, each accepted block task was taken
blocks_taken : (script : Plan) (log : List Entry) → IsLegal script log → phase_of log ≡ phases.Done → BlocksTaken script log (posts log)
unfolding fold_past posts phase_of
blocks_taken script = legal_induction script (λ past. phase_of past ≡ phases.Done → BlocksTaken script past (posts past)) (λ none. tt)
    (λ past e legal allowed before done. next past e legal allowed before (done_now (phase_of past) e.kind (sym (phase_of_push past e) ∙ done)))
  where
    grows : (past : List Entry) (e : Entry) → posted_by past e.kind ≡ [] → BlocksTaken script past (posts past)
        → BlocksTaken script (past ++ e ∷ []) (posts (past ++ e ∷ []))
    grows past e none all = subst (BlocksTaken script (past ++ e ∷ []))
        (sym (append-nil (posts past)) ∙ (ap (λ ps. posts past ++ ps) (sym none) ∙ sym (posts_push past e)))
        (taken_on script past e (posts past) all)

    waited : (past : List Entry) → IsLegal script past → HasWaited script past → BlocksTaken script past (posts past)
    waited past legal w = AllByRecursion-map (λ p. is_open_block script past p ≡ false) _ (posts past)
        (λ p shut block. (legal_is_consistent script past legal false).taken_before_ended p.task
        (second_fails (is_block (effective_at script p.home p.delay)) (is_ended past p.task) shut block)) (recursion_from_All _ (posts past) w.blocks_ended)

    keeps : (past : List Entry) (e : Entry) → IsLegal script past → IsAllowed script past e → KeepsShutdown script past e.kind
    keeps past e legal allowed = waits_and_forbids script past e [] (legal_next script past e legal allowed)

    next : (past : List Entry) (e : Entry) → IsLegal script past → IsAllowed script past e
        → (phase_of past ≡ phases.Done → BlocksTaken script past (posts past))
        → (phase_of past ≡ phases.Done) ⊎ (e.kind ≡ kinds.Done) → BlocksTaken script (past ++ e ∷ []) (posts (past ++ e ∷ []))
    next past e legal allowed before (inl done) = grows past e (posts_none script past e.kind done (keeps past e legal allowed)) (before done)
    next past e legal allowed before (inr now) = grows past e (ap (posted_by past) now)
        (waited past legal (subst (KeepsShutdown script past) now (keeps past e legal allowed)))

pub left_by_shutdown : (script : Plan) (log : List Entry) (p : Posted) → IsLegal script log → phase_of log ≡ phases.Done → Contains (posts log) p
    → is_taken log p.task ≡ false → IsLeftByShutdown script log p
left_by_shutdown script log p legal done posted untaken = record {
  forbidden = ap (λ phase. forbids phase (effective_at script p.home p.delay)) done;
  no_block = false_from_ne_true (is_block (effective_at script p.home p.delay)) (λ block. both_ways (is_taken log p.task) untaken
      (AllByRecursion-contains (λ q. is_block (effective_at script q.home q.delay) ≡ true → is_taken log q.task ≡ true) (posts log) p
      (blocks_taken script log legal done) posted block));
}

-- ---- workers and guests

-- an entry of a seat of an open plan that runs no task, and is no driver: it is the way on, or the guest posts
worker_comes : (script : Plan) (past : List Entry) (seat : ℕ) (kind : Kind) → IsOpen script → IsLegal script past → 1 ≤ seat → running past seat ≡ None
    → (is_guest script seat ≡ true → holding past seat ≡ None) → may_come script past seat kind ≡ true
    → ((is_guest script seat ≡ false) × (way_on script past seat ≡ Some kind)) ⊎ ((is_guest script seat ≡ true) × (is_post kind ≡ true))
unfolding may_come
worker_comes script past seat kind opened legal worker idle apart may = of_kind kind may
  where
    Comes : Kind → Type 0
    Comes k = ((is_guest script seat ≡ false) × (way_on script past seat ≡ Some k)) ⊎ ((is_guest script seat ≡ true) × (is_post k ≡ true))

    no_driver : (k : Kind) → by_script script past seat k ≡ true → ⊥
    no_driver k by = omega (arith, worker, by_driver script past seat k by)

    runs_nothing : (w : Running) → running past seat ≡ Some w → ⊥
    runs_nothing w runs = none-some w (sym idle ∙ runs)

    holds_nothing : (h : Holding) → holding past seat ≡ Some h → is_guest script seat ≡ false
    holds_nothing h holds = false_from_ne_true (is_guest script seat) (λ guest. none-some h (sym (apart guest) ∙ holds))

    runs_none : (o : Option Running) → running past seat ≡ o → is_some o ≡ false
    runs_none None is = refl
    runs_none (Some w) is = absurd (runs_nothing w is)

    guest : (task : ℕ) (k : Kind) → IsPostedFreely script past seat task k → is_guest script seat ≡ true
    guest task k posts = by_keeper (is_kept script task) posts.poster
      where
        by_keeper : (b : Bool) → cond b (by_own_step script past seat k) (is_poster script past seat) ≡ true → is_guest script seat ≡ true
        by_keeper true own =
            let w = found (λ (x : Running). list_any (λ step. enters x.task step k) (steps_of script x.task)) (running past seat) own in
            absurd (runs_nothing w.value w.is)
        by_keeper false poster = ⊎_elim
            (λ front. ⊎_elim (λ driver. absurd (omega (arith, worker, eqb-true seat 0 driver))) (λ is. is) (or_cases (eqb seat 0) (is_guest script seat) front))
            (λ runs. absurd (true≢false (sym runs ∙ runs_none (running past seat) refl)))
            (or_cases (eqb seat 0 || is_guest script seat) (is_some (running past seat)) poster)

    entered : (task : ℕ) (scope : Scope) → may_come script past seat (kinds.Enter task scope) ≡ true → ⊥
    entered task scope h =
        let w = opens_as_running script past seat task scope h in runs_nothing w.0 w.1

    left : (task : ℕ) → may_close_scope past seat task ≡ true → ⊥
    left task h =
        let w = found (λ (x : Running). eqb x.task task) (running past seat) (and_parts _ (is_some (open_scope past task)) h).0 in runs_nothing w.value w.is

    of_kind : (k : Kind) → may_come script past seat k ≡ true → Comes k
    of_kind (kinds.Post task runner delay ok) h = inr (
      guest task (kinds.Post task runner delay ok)
          (open_posts script past seat task (kinds.Post task runner delay ok) opened (and_parts _ _ h).0),
      refl,
    )
    of_kind (kinds.Main task queue delay ok) h = inr (
      guest task (kinds.Main task queue delay ok)
          (open_posts script past seat task (kinds.Main task queue delay ok) opened (and_parts _ _ h).0),
      refl,
    )
    of_kind (kinds.Tick now) h = absurd (no_driver (kinds.Tick now) (and_parts _ (nat_le (now_of past) now) (and_parts _ (nat_le now LAST_MOMENT) h).0).0)
    of_kind (kinds.Take task runner found) h =
        inl ((ready_worker script past seat (and_parts (is_ready_worker script past seat) _ h).0).no_guest, take_way script past seat task runner found h)
    of_kind (kinds.End task left) h = let w = end_is script past seat task left h in absurd (runs_nothing w.0 w.1)
    of_kind (kinds.MainEnd task left) h = let w = main_end_is script past seat task left h in absurd (runs_nothing w.0 w.1)
    of_kind (kinds.Enter task scope) h = absurd (entered task scope h)
    of_kind (kinds.Leave task) h = absurd (left task
        (ap (λ b. cond b (may_close_scope past seat task) (by_task script past seat (kinds.Leave task))) (sym opened) ∙ h))
    of_kind (kinds.MainTake task queue found) h =
        absurd (no_driver (kinds.MainTake task queue found) (and_parts (by_script script past seat (kinds.MainTake task queue found)) _ (and_parts _ _ h).0).0)
    of_kind kinds.MainNone h = absurd (no_driver kinds.MainNone (and_parts (by_script script past seat kinds.MainNone) _ h).0)
    of_kind (kinds.JobPost job ok) h = absurd (no_driver (kinds.JobPost job ok) (and_parts (by_script script past seat (kinds.JobPost job ok)) _ h).0)
    of_kind (kinds.JobTake job id item) h = ⊎_elim (λ k. inl (k.0.no_guest, worker_job_way script past seat job id item k.0 k.1 h))
        (λ k. absurd (no_driver (kinds.JobTake job id item) k.0))
        (job_take_is script past seat job id item h)
    of_kind (kinds.JobStep job id item value next) h =
        let held = job_step_holds script past seat job id item value next h in
        inl (holds_nothing held.0 held.1, job_step_way script past seat job id item value next legal h)
    of_kind (kinds.Cancelled job) h =
        absurd (no_driver (kinds.Cancelled job)
        (and_parts (by_script script past seat (kinds.Cancelled job)) (is_cancelled past job) (and_parts _ (is_empty script past job) h).0).0)
    of_kind (kinds.Joined job reply) h =
        absurd (no_driver (kinds.Joined job reply)
        (and_parts (by_script script past seat (kinds.Joined job reply)) (is_empty script past job) (and_parts _ _ h).0).0)
    of_kind kinds.Idle h = absurd (no_driver kinds.Idle (and_parts (by_script script past seat kinds.Idle) (is_quiet script past) (and_parts _ _ h).0).0)
    of_kind kinds.Done h = absurd (no_driver kinds.Done (and_parts (by_script script past seat kinds.Done) (is_started (phase_of past)) (and_parts _ _ h).0).0)
    of_kind k h = absurd (no_driver k h)

-- so a worker that runs no task has one way on
pub worker_way : (script : Plan) (past : List Entry) (seat : ℕ) (kind : Kind) → IsOpen script → IsLegal script past → IsAtNoTask script past seat
    → may_come script past seat kind ≡ true → way_on script past seat ≡ Some kind
worker_way script past seat kind opened legal is may = ⊎_elim (λ way. way.1) (λ guest. absurd (both_ways (is_guest script seat) is.no_guest guest.0))
    (worker_comes script past seat kind opened legal is.worker is.runs_nothing (λ guest. absurd (both_ways (is_guest script seat) is.no_guest guest)) may)

-- a guest that runs and holds nothing posts
free_guest_posts : (script : Plan) (past : List Entry) (seat : ℕ) (kind : Kind) → IsLegal script past → 1 ≤ seat → is_guest script seat ≡ true
    → is_free past seat ≡ true → may_come script past seat kind ≡ true → is_post kind ≡ true
free_guest_posts script past seat kind legal worker guest free may =
    let parts = and_parts (is_none (running past seat)) (is_none (holding past seat)) free in
    ⊎_elim (λ way. absurd (both_ways (is_guest script seat) way.0 guest)) (λ post. post.1)
    (worker_comes script past seat kind (and_parts script.is_open (eqb seat script.workers) guest).0 legal worker (none_is (running past seat) parts.0)
    (λ same. none_is (holding past seat) parts.1) may)

-- a post starts and ends nothing
post_keeps : (now : Option Running) (held : Option Holding) (kind : Kind) → is_post kind ≡ true
    → (is_none (running_after now kind) && is_none (holding_after held kind)) ≡ (is_none now && is_none held)
post_keeps now held (kinds.Post task runner delay ok) h = refl
post_keeps now held (kinds.Main task queue delay ok) h = refl
post_keeps now held kind h = absurd cc

-- so it runs and holds nothing
pub guest_is_free : (script : Plan) (past : List Entry) (seat : ℕ) → IsLegal script past → 1 ≤ seat → is_guest script seat ≡ true → is_free past seat ≡ true
unfolding running holding
guest_is_free script past seat legal worker guest = legal_induction script (λ before. is_free before seat ≡ true) refl (λ before e legal_before allowed free.
    rw (running_push before e seat, holding_push before e seat)
    (by_seat before e legal_before (and_parts _ (may_come script before e.seat e.kind) allowed).1 free (eqb e.seat seat) refl)) past legal
  where
    by_seat : (before : List Entry) (e : Entry) → IsLegal script before → may_come script before e.seat e.kind ≡ true → is_free before seat ≡ true → (b : Bool)
        → eqb e.seat seat ≡ b
        → (is_none (cond b (running_after (running before seat) e.kind) (running before seat))
        && is_none (cond b (holding_after (holding before seat) e.kind) (holding before seat))) ≡ true
    by_seat before e legal_before may free true is = post_keeps (running before seat) (holding before seat) e.kind
        (free_guest_posts script before seat e.kind legal_before worker guest free
        (subst (λ s. may_come script before s e.kind ≡ true) (eqb-true e.seat seat is) may)) ∙ free
    by_seat before e legal_before may free false other = free

pub guest_posts : (script : Plan) (past : List Entry) (seat : ℕ) (kind : Kind) → IsLegal script past → 1 ≤ seat → is_guest script seat ≡ true
    → may_come script past seat kind ≡ true → is_post kind ≡ true
guest_posts script past seat kind legal worker guest may =
    free_guest_posts script past seat kind legal worker guest (guest_is_free script past seat legal worker guest) may
