-- A job that is neither done, cancelled nor forbidden may be entered while nobody is at anything. So it waits for a worker
-- once shutdown was started, and a driver that joins it may join it or go into it.
-- Cited by `Laws/Progress/Blockers`, `Laws/Progress/Ways`.
use Rattle.std.proofs.Common.{◌≡◌, ℕ, ◌≤◌, ◌<◌, Bool, true, false, cond, eqb, List, [], length, refl, ap, subst, ◌∙◌, Option, Some, None, arith}
use Rattle.std.specs.Prelude.{◌&&◌, not, is_none, is_some}
use Rattle.std.specs.Option.{IfSome, option_map}
use Rattle.std.proofs.lemmas.Bool.{and_from, both_ways, true_from_ne_false, lt-ltb, eq-eqb, or_right}
use Rattle.std.proofs.lemmas.Option.{slice_get-get_or}
use Rattle.task_base.specs.Plan.{Plan, JobPlan}
use Rattle.task_base.specs.declared.entry.Entry.{Entry}
use Rattle.task_traits.specs.declared.traits.Priority.TheVariants.{BestEffort}
use Rattle.task_traits.specs.declared.traits.Behaviour.TheVariants.{ContinueOnShutdown}
use Rattle.task_base.specs.declared.entry.JobReply.{JobReply}
use Rattle.task_base.specs.declared.entry.JobReply.TheVariants.{Refused, Finished, Cancelled, Stopped}
use Rattle.task_base.specs.declared.entry.Kind.TheVariants as kinds
use Rattle.task_base.specs.declared.script.Action.TheVariants as actions
use Rattle.task_base.specs.declared.source.TaskSource.TheVariants.{Job}
use Rattle.list_laws.specs.Lists.{holds_of}
use Rattle.list_laws.proofs.Elements.{slice_get_all}
use Rattle.script_model.specs.Laws.Sound.{IsSound, IsJobSound}
use Rattle.task_model.specs.Policies.{is_held}
use Rattle.task_model.specs.Refusal.{is_job_forbidden}
use Rattle.task_model.specs.Seats.{holding, inside}
use Rattle.task_model.specs.Jobs.{JobPosted, job_post_of, is_job_accepted, is_cancelled, claimed, items_of, cap_of}
use Rattle.task_model.specs.Jobs.{job_sum, concurrency, may_enter, free_id, is_finished_job, reply_of}
use Rattle.pool_laws.specs.Jobs.{MayEnter}
use Rattle.task_model.specs.Sources.{Candidate, job_candidate, job_waiting, best_of}
use Rattle.pool_laws.specs.Choice.{IsWaiting}
use Rattle.pool_laws.proofs.Jobs.Numbers.{free_id_is_first}
use Rattle.pool_laws.proofs.Choice.Candidates.{job_in, candidate_would_wait, not_held_is_waiting}
use Rattle.hist_model.specs.Views.{own_entries}
use Rattle.hist_model.specs.Script.{Current, current}
use Rattle.hist_model.specs.Allowed.{is_ready_worker, is_job, same_number, same_reply, may_come}
use Rattle.hist_model.specs.Laws.Progress.{Proceeds}
use Rattle.hist_model.specs.Laws.Progress.Proceeds.{Wanted, GoesIn}
use Rattle.hist_model.proofs.Laws.Choice.{found}
use Rattle.hist_model.proofs.Laws.Entries.Jobs.{claimed_within}
use Rattle.hist_model.proofs.Laws.Own.{holding_own}
use Rattle.hist_model.proofs.Laws.Progress.Made.{may_make, by_it, wanted_now}
use Rattle.hist_model.proofs.Laws.Progress.Quiet.{Quiet, nobody_inside, all_done}

-- a job of a sound script lets somebody in
some_cap : (script : Plan) (j : ℕ) → IsSound script → j < length script.jobs → 1 ≤ cap_of script j
some_cap script j sound within =
    let here = slice_get-get_or script.jobs j none within in
    rw here (subst (λ o. IfSome o IsJobSound) here (slice_get_all IsJobSound script.jobs j sound.declarations.jobs_sound)).some_cap
  where
    none : JobPlan
    none = record { priority = BestEffort; behaviour = ContinueOnShutdown; items = 0; cap = 0; steps = [] }

-- it may be entered
pub may_go_in : (script : Plan) (past : List Entry) (j : ℕ) → IsSound script → Quiet script past → j < length script.jobs
    → is_job_accepted past j ≡ true → is_finished_job script past j ≡ false → is_cancelled past j ≡ false → is_job_forbidden script past j ≡ false
    → MayEnter script past j
unfolding may_enter
may_go_in script past j sound q within accepted not_done not_cancelled allowed =
    and_from _ _ (and_from _ _ (and_from _ _ (and_from _ _ accepted (ap not not_cancelled)) (ap not allowed))
    (lt-ltb (claimed past j) (items_of script j) some))
    (lt-ltb (length (inside script past j)) (concurrency script past j) room)
  where
    less : (a b : ℕ) → a ≤ b → eqb a b ≡ false → a < b
    less a b le other = grind arith

    some : claimed past j < items_of script j
    some = less (claimed past j) (items_of script j) (claimed_within script past j q.legal)
        (ap (λ n. eqb n (items_of script j)) (all_done script past j q) ∙ not_done)

    room : length (inside script past j) < concurrency script past j
    room = omega (arith, ap length (nobody_inside script past j q), some_cap script j sound within, some, all_done script past j q)

-- it waits where nothing is held back
pub job_waits : (script : Plan) (past : List Entry) (j : ℕ) → j < length script.jobs → is_job_accepted past j ≡ true → MayEnter script past j
    → ((c : Candidate) → is_held past c.priority ≡ false) → (c : Candidate) × IsWaiting script past c × (c.seat ≡ None)
job_waits script past j within accepted enters free =
    let p = found (λ (x : JobPosted). x.ok) (job_post_of past j) accepted in
    let c : Candidate = job_candidate script past j p.value in
    let waits : job_waiting script past j ≡ Some c = ap (λ b. cond b (option_map (job_candidate script past j) (job_post_of past j)) None) enters
    ∙ ap (option_map (job_candidate script past j)) p.is in
    (c, not_held_is_waiting script past c (candidate_would_wait script past (Job j) c (job_in script past j within ∙ waits)) (free c), refl)

-- a reply to a join may be given
same_reply_now : (reply : JobReply) → same_reply reply reply ≡ true
same_reply_now Refused = refl
same_reply_now (Finished sum) = eq-eqb sum sum refl
same_reply_now Cancelled = refl
same_reply_now Stopped = refl

-- the driver joins it, or goes into it
pub join_proceeds : (script : Plan) (past : List Entry) (j : ℕ) (made : List Entry) → IsSound script → Quiet script past → j < length script.jobs
    → is_some (job_post_of past j) ≡ true → current script (own_entries 0 past) ≡ Some (record { action = actions.Join j; made = made })
    → Proceeds script past (record { action = actions.Join j; made = made })
unfolding may_come
join_proceeds script past j made sound q within posted is = by_reply (reply_of script past j) refl
  where
    c : Current
    c = record { action = actions.Join j; made = made }

    -- a join and an entering are wanted, as the driver holds nothing
    wanted : (eqb j j && is_none (holding (own_entries 0 past) 0)) ≡ true
    wanted = rw (eq-eqb j j refl, holding_own past 0, q.holds 0) refl

    no_reply : (refused all_done stopped forbidden : Bool) (sum : JobReply)
        → cond refused (Some Refused) (cond all_done (Some sum) (cond stopped (Some Cancelled) (cond forbidden (Some Stopped) None))) ≡ None
        → (refused ≡ false) × (all_done ≡ false) × (stopped ≡ false) × (forbidden ≡ false)
    no_reply false false false false sum h = (refl, refl, refl, refl)
    no_reply true all_done stopped forbidden sum h = absurd cc
    no_reply false true stopped forbidden sum h = absurd cc
    no_reply false false true forbidden sum h = absurd cc
    no_reply false false false true sum h = absurd cc

    accepted : (o : Option JobPosted) → is_some o ≡ true → holds_of (λ p. not p.ok) o ≡ false → holds_of (λ p. p.ok) o ≡ true
    accepted None some ok = absurd cc
    accepted (Some p) some ok = true_from_ne_false p.ok (λ refused. both_ways (not p.ok) ok (ap not refused))

    enters : MayEnter script past j → (n : ℕ) → free_id script past j ≡ Some n → Proceeds script past c
    enters may n free = GoesIn j n (claimed past j) refl (may_make script past 0 (kinds.JobTake j n (claimed past j)) (omega arith) (and_from _ _ (and_from _ _
        (or_right (is_ready_worker script past 0 && holds_of (λ best. is_job j best.source) (best_of script past 0)) _
        (and_from _ _ (wanted_now script past c (kinds.JobTake j n (claimed past j)) sound.closed is wanted) may))
        (ap (λ o. same_number o (Some n)) free ∙ eq-eqb n n refl)) (eq-eqb (claimed past j) (claimed past j) refl)))

    by_reply : (o : Option JobReply) → reply_of script past j ≡ o → Proceeds script past c
    by_reply (Some reply) says = Wanted (by_it script past c (kinds.Joined j reply) wanted (and_from _ _ (and_from _ _
        (wanted_now script past c (kinds.Joined j reply) sound.closed is wanted) (ap (λ xs. eqb (length xs) 0) (nobody_inside script past j q)))
        (ap (holds_of (same_reply reply)) says ∙ same_reply_now reply)))
    by_reply None none =
        let (ok, not_done, not_cancelled, allowed) = no_reply (holds_of (λ p. not p.ok) (job_post_of past j)) (is_finished_job script past j)
        (is_cancelled past j) (is_job_forbidden script past j) (Finished (job_sum past j)) none in
        let id = free_id_is_first script past j in
        enters (may_go_in script past j sound q within (accepted (job_post_of past j) posted ok) not_done not_cancelled allowed) id.0 id.1
