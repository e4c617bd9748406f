-- The entries of jobs: which job the script names in one, and what the rules ask of it besides; and that a join goes on.
-- Cited by `Env::job_post`, `Env::try_cancelled`, `Env::try_joined`, `JobCalls`.
use Rattle.call_laws.proofs.Jobs.{IsOpenJob}
use Rattle.hist_model.proofs.Laws.BySound.{current_is_one}
use Rattle.env_core.proofs.Wanted.{driver_allowed, wanted_by_script}
use Rattle.env_core.specs.Calls.{IsWantedNext}
use Rattle.env_core.specs.Jobs.{CanEndItem, held_by}
use Rattle.env_core.specs.Views.{EnvView}
use Rattle.task_body.specs.Passes.{PassView}
use Rattle.env_core.proofs.Starts.{IsAtWork, driver_entry, follows_start, is_busy, joined_was_posted}
use Rattle.hist_model.proofs.Laws.Agenda.{current_stays, finished_stays, next_begins}
use Rattle.hist_model.proofs.Laws.Claims.{claimed_is}
use Rattle.hist_model.proofs.Laws.Entries.Jobs.{claimed_within}
use Rattle.hist_model.proofs.Laws.Legal.{legal_induction}
use Rattle.hist_model.proofs.Laws.OneThing.{legal_does_one_thing, wanted_by}
use Rattle.hist_model.proofs.Laws.Own.{holding_own, own_entries_push}
use Rattle.hist_model.specs.Allowed.{IsAllowed, by_script, is_job, is_ready_worker, may_come, same_number, same_reply, is_reply}
use Rattle.hist_model.specs.Laws.Agenda.{completes}
use Rattle.hist_model.specs.Legal.{IsLegal}
use Rattle.hist_model.specs.Open.{IsClosed}
use Rattle.hist_model.specs.Script.{Current, current, current_from, wants}
use Rattle.hist_model.specs.Views.{own_entries}
use Rattle.list_laws.proofs.Elements.{slice_get_all}
use Rattle.list_laws.proofs.Values.{eqb-same, some-injective}
use Rattle.list_laws.specs.Lists.{holds_of}
use Rattle.script_model.specs.Laws.Sound.{IsActionSound, IsJobSound, IsSound}
use Rattle.std.proofs.Common.{Bool, List, None, Option, Some, [], ap, arith, cond, eqb, false, leb, length, refl, subst, sym, true, zero, ℕ, ⊎_elim}
use Rattle.std.proofs.Common.{◌++◌, ◌<◌, ◌∙◌, ◌∷◌, ◌≡◌, ◌≤◌}
use Rattle.std.proofs.Math.Bool.{or-true}
use Rattle.std.proofs.lemmas.Bool.{and_parts, eq-eqb, eqb-false, eqb-true, le-leb, lt-ltb, true≢false}
use Rattle.std.proofs.lemmas.Option.{none-some, same_Some}
use Rattle.std.specs.Option.{IfSome, option_map_or}
use Rattle.std.specs.Prelude.{not, slice_get, ◌&&◌, ◌||◌}
use Rattle.task_base.specs.Plan.{JobPlan, Plan}
use Rattle.task_base.specs.declared.entry.Entry.{Entry}
use Rattle.task_base.specs.declared.entry.Kind.{Kind}
use Rattle.task_base.specs.declared.entry.JobReply.{JobReply}
use Rattle.task_base.specs.declared.script.Action.{Action}
use Rattle.task_model.proofs.Growth.{is_cancelled_push}
use Rattle.task_model.specs.Jobs.{cancels, cap_of, claimed, concurrency, done, is_cancelled, is_empty, is_finished_job}
use Rattle.task_model.specs.Jobs.{is_job_accepted, items_of, job_post_of, job_sum, may_enter, reply_of}
use Rattle.task_model.specs.Refusal.{is_job_forbidden}
use Rattle.task_model.specs.Sources.{best_of, next_item}
use Rattle.task_model.specs.Seats.{holding, inside}
use Rattle.task_base.specs.declared.entry.JobReply.TheVariants as replies
use Rattle.task_base.specs.declared.entry.Kind.TheVariants as kinds
use Rattle.task_base.specs.declared.script.Action.TheVariants as actions

-- The job that the script names in an entry is declared.

-- the job that such an entry of the driver names
abbrev pub named_job : Kind → Option ℕ
named_job (kinds.JobPost job ok) = Some job
named_job (kinds.JobTake job id item) = Some job
named_job (kinds.JobCancel job) = Some job
named_job (kinds.Cancelled job) = Some job
named_job (kinds.Joined job reply) = Some job
named_job kind = None

-- an action that wants an entry of a job is sound only where the job is declared
names_declared : (script : Plan) (own : List Entry) (x : Action) (made : List Entry) (kind : Kind) (j : ℕ) → named_job kind ≡ Some j
    → wants own x made kind ≡ true → IsActionSound script x → j < length script.jobs
names_declared script own (actions.StartJob i) made (kinds.JobPost job ok) j is w sound =
    subst (λ k. k < length script.jobs) (sym (eqb-true job i w) ∙ some-injective is) sound
names_declared script own (actions.Join i) made (kinds.JobTake job id item) j is w sound =
    subst (λ k. k < length script.jobs) (sym (eqb-true job i (and_parts _ _ w).0) ∙ some-injective is) sound
names_declared script own (actions.Join i) made (kinds.Joined job reply) j is w sound =
    subst (λ k. k < length script.jobs) (sym (eqb-true job i (and_parts _ _ w).0) ∙ some-injective is) sound
names_declared script own (actions.Cancel i) made (kinds.JobCancel job) j is w sound =
    subst (λ k. k < length script.jobs) (sym (eqb-true job i (and_parts _ _ w).0) ∙ some-injective is) sound
names_declared script own (actions.Cancel i) made (kinds.Cancelled job) j is w sound =
    subst (λ k. k < length script.jobs) (sym (eqb-true job i (and_parts _ _ w).0) ∙ some-injective is) sound
names_declared script own x made (kinds.JobPost job ok) j is w sound = absurd cc
names_declared script own x made (kinds.JobTake job id item) j is w sound = absurd cc
names_declared script own x made (kinds.JobCancel job) j is w sound = absurd cc
names_declared script own x made (kinds.Cancelled job) j is w sound = absurd cc
names_declared script own x made (kinds.Joined job reply) j is w sound = absurd cc
names_declared script own x made kind j is w sound = absurd (none-some j is)

-- the job of an entry that the script wants is declared
pub job_declared : (view : EnvView) (seat j : ℕ) (kind : Kind) → named_job kind ≡ Some j → IsSound view.script → IsWantedNext view seat kind
    → j < length view.script.jobs
job_declared view seat j kind is sound next =
    let c = wanted_by view.script view.history seat kind sound.closed (wanted_by_script view seat kind next) in
    names_declared view.script (own_entries 0 view.history) c.value.action c.value.made kind j is c.passes
    (current_is_one (IsActionSound view.script) view.script (own_entries 0 view.history) c.value sound.actions.each_sound c.is)

-- What the rules ask of each entry besides.

-- a post with the right reply
pub job_post_allowed : (view : EnvView) (seat job : ℕ) (ok : Bool) → IsWantedNext view seat (kinds.JobPost job ok)
    → ok ≡ not (is_job_forbidden view.script view.history job)
    → IsAllowed view.script view.history (record { seat = seat; kind = kinds.JobPost job ok })
unfolding may_come
job_post_allowed view seat job ok wanted reply = driver_allowed view seat (kinds.JobPost job ok) wanted.driver
    (rw (wanted_by_script view seat (kinds.JobPost job ok) wanted, reply) (says (is_job_forbidden view.script view.history job)))
  where
    says : (refused : Bool) → is_reply refused (not refused) ≡ true
    says true = refl
    says false = refl

-- the driver goes into such a job
pub job_take_allowed : (view : EnvView) (seat job id item : ℕ) → IsWantedNext view seat (kinds.JobTake job id item)
    → IsOpenJob view.script view.history job id item → IsAllowed view.script view.history (record { seat = seat; kind = kinds.JobTake job id item })
unfolding may_come
job_take_allowed view seat job id item wanted is = driver_allowed view seat (kinds.JobTake job id item) wanted.driver
    (rw (
      wanted_by_script view seat (kinds.JobTake job id item) wanted,
      is.may,
      is.id_is,
      eqb-same id,
      eq-eqb item (claimed view.history job) is.item_is,
    ) (rw (or-true (is_ready_worker view.script view.history seat && holds_of (λ c. is_job job c.source) (best_of view.script view.history seat))) refl))

-- the seat holds the item of its pass
pub holds_item : (view : EnvView) (seat value : ℕ) (pass : PassView) → CanEndItem view seat pass value → holding view.history seat ≡ Some (held_by pass)
holds_item view seat value pass can = sym (holding_own view.history seat) ∙ can.held.holds

-- a seat ends the item that it holds with its value, and goes on or leaves as the rules say
pub job_step_allowed : (view : EnvView) (seat value : ℕ) (pass : PassView) (next : Option ℕ) → CanEndItem view seat pass value
    → next ≡ next_item view.script view.history seat pass.job
    → IsAllowed view.script view.history (record { seat = seat; kind = kinds.JobStep pass.job pass.id pass.item value next })
unfolding may_come
job_step_allowed view seat value pass next can next_is = rw (
  le-leb seat view.script.workers can.held.known,
  holds_item view seat value pass can,
  eqb-same pass.job,
  eqb-same pass.id,
  eqb-same pass.item,
  eq-eqb value _ can.value_is,
  next_is,
) (same (next_item view.script view.history seat pass.job))
  where
    same : (o : Option ℕ) → same_number o o ≡ true
    same None = refl
    same (Some n) = eqb-same n

-- the end of a join, where nobody is inside and there is a reply
pub joined_allowed : (view : EnvView) (seat job : ℕ) (reply : JobReply) → IsWantedNext view seat (kinds.Joined job reply)
    → is_empty view.script view.history job ≡ true → reply_of view.script view.history job ≡ Some reply
    → IsAllowed view.script view.history (record { seat = seat; kind = kinds.Joined job reply })
unfolding may_come
joined_allowed view seat job reply wanted empty is = driver_allowed view seat (kinds.Joined job reply) wanted.driver
    (rw (wanted_by_script view seat (kinds.Joined job reply) wanted, empty, is) (same reply))
  where
    same : (r : JobReply) → same_reply r r ≡ true
    same replies.Refused = refl
    same (replies.Finished n) = eqb-same n
    same replies.Cancelled = refl
    same replies.Stopped = refl

-- The wait for a job that the driver cancels comes behind the cancel.

-- a cancel that has made nothing wants its own entry alone
cancel_wants : (own : List Entry) (j : ℕ) (kind : Kind) → wants own (actions.Cancel j) [] kind ≡ true → cancels j kind ≡ true
cancel_wants own j (kinds.JobCancel job) w = (and_parts _ _ w).0
cancel_wants own j (kinds.Cancelled job) w = absurd (omega (arith, eqb-true 0 1 (and_parts (eqb job j) (eqb 0 1) w).1))
cancel_wants own j kind w = absurd cc

-- where the driver is at a cancel that has made an entry, the job is cancelled
abbrev CancelGoesFirst : Plan → List Entry → Type 0
CancelGoesFirst script past = (c : Current) (j : ℕ) → current script (own_entries 0 past) ≡ Some c → c.action ≡ actions.Cancel j → 1 ≤ length c.made
    → is_cancelled past j ≡ true

-- an entry of the driver
cancel_next : (script : Plan) (past : List Entry) (e : Entry) → IsClosed script → IsLegal script past → e.seat ≡ 0 → may_come script past 0 e.kind ≡ true
    → CancelGoesFirst script past → (d : Current) (j : ℕ) → current script (own_entries 0 past ++ e ∷ []) ≡ Some d → d.action ≡ actions.Cancel j
    → 1 ≤ length d.made → (is_cancelled past j || cancels j e.kind) ≡ true
cancel_next script past e closed legal driver may known d j now is some = by_current (current script own) refl
  where
    own : List Entry
    own = own_entries 0 past

    first : (c : Current) → current script own ≡ Some c → c.action ≡ actions.Cancel j → (made : List Entry) → c.made ≡ made
        → (is_cancelled past j || cancels j e.kind) ≡ true
    first c was same (x ∷ made) front =
        let one : 1 ≤ length c.made = rw front (omega arith) in rw (known c j was same one) refl
    first c was same [] front = ⊎_elim wanted (λ w. absurd (apart w)) (driver_entry script past e.kind closed (legal_does_one_thing script past legal) may)
      where
        wanted : by_script script past 0 e.kind ≡ true → (is_cancelled past j || cancels j e.kind) ≡ true
        wanted h =
            let f = wanted_by script past 0 e.kind closed h in
            let is_c : f.value ≡ c = same_Some f.value c (sym f.is ∙ was) in
            let cancel = cancel_wants own j e.kind (rw (same, front) at (ap (λ (x : Current). wants own x.action x.made e.kind) (sym is_c) ∙ f.passes)) in
            rw cancel (or-true (is_cancelled past j))

        apart : IsAtWork script past e.kind → ⊥
        apart w = true≢false (sym (ap (λ (x : Current). is_busy x.action) (same_Some c w.now (sym was ∙ w.is)) ∙ w.busy) ∙ ap is_busy same)

    by_current : (o : Option Current) → current script own ≡ o → (is_cancelled past j || cancels j e.kind) ≡ true
    by_current None was = absurd (none-some d (sym (finished_stays script own e was) ∙ now))
    by_current (Some c) was = at (completes c.action c.made e.kind) refl
      where
        at : (b : Bool) → completes c.action c.made e.kind ≡ b → (is_cancelled past j || cancels j e.kind) ≡ true
        at true ends = absurd (omega (arith, some, ap (λ xs. length xs) (next_begins script own e c d was ends now)))
        at false on =
            let same : record { action = c.action; made = c.made ++ e ∷ [] } ≡ d = same_Some _ d (sym (current_stays script own e c was on) ∙ now) in
            first c was (ap (λ (x : Current). x.action) same ∙ is) c.made refl

-- where nothing was made, an action has made nothing
begins_with_nothing : (xs : List Action) (c : Current) → current_from xs [] ≡ Some c → c.made ≡ []
begins_with_nothing [] c h = absurd (none-some c h)
begins_with_nothing (actions.Tick zero ∷ xs) c h = begins_with_nothing xs c h
begins_with_nothing (x ∷ xs) c h = ap (λ (y : Current). y.made) (sym (same_Some _ c h))

cancel_goes_first : (script : Plan) (past : List Entry) → IsClosed script → IsLegal script past → CancelGoesFirst script past
unfolding current
cancel_goes_first script past closed = legal_induction script (CancelGoesFirst script) nothing next past
  where
    nothing : CancelGoesFirst script []
    nothing c j now is some = absurd (omega (arith, some, ap (λ xs. length xs) (begins_with_nothing script.actions c now)))

    next : (before : List Entry) (e : Entry) → IsLegal script before → IsAllowed script before e → CancelGoesFirst script before
        → CancelGoesFirst script (before ++ e ∷ [])
    next before e legal allowed known d j now is some = is_cancelled_push before e j ∙ by_seat (eqb e.seat 0) refl
      where
        may : may_come script before e.seat e.kind ≡ true
        may = (and_parts (leb e.seat script.workers) (may_come script before e.seat e.kind) allowed).1

        by_seat : (b : Bool) → eqb e.seat 0 ≡ b → (is_cancelled before j || cancels j e.kind) ≡ true
        by_seat true driver =
            let at = eqb-true e.seat 0 driver in
            cancel_next script before e closed legal at (subst (λ s. may_come script before s e.kind ≡ true) at may) known d j
            (rw (own_entries_push before e 0, driver) at now) is some
        by_seat false other = rw (known d j (rw (own_entries_push before e 0, other) at now) is some) refl

-- the end of the wait for a job that is cancelled, where nobody is inside
pub cancelled_allowed : (view : EnvView) (seat job : ℕ) → IsClosed view.script → IsLegal view.script view.history
    → IsWantedNext view seat (kinds.Cancelled job) → is_empty view.script view.history job ≡ true
    → IsAllowed view.script view.history (record { seat = seat; kind = kinds.Cancelled job })
unfolding may_come
cancelled_allowed view seat job closed legal next empty = driver_allowed view seat (kinds.Cancelled job) next.driver (rw (wanted, cancelled, empty) refl)
  where
    wanted : by_script view.script view.history seat (kinds.Cancelled job) ≡ true
    wanted = wanted_by_script view seat (kinds.Cancelled job) next

    behind_cancel : (x : Action) (made : List Entry) → wants (own_entries 0 view.history) x made (kinds.Cancelled job) ≡ true
        → (x ≡ actions.Cancel job) × (1 ≤ length made)
    behind_cancel (actions.Cancel j) made w =
        let parts = and_parts (eqb job j) (eqb (length made) 1) w in
        (ap actions.Cancel (sym (eqb-true job j parts.0)), omega (arith, eqb-true _ _ parts.1))
    behind_cancel x made w = absurd cc

    cancelled : is_cancelled view.history job ≡ true
    cancelled =
        let c = wanted_by view.script view.history seat (kinds.Cancelled job) closed wanted in
        let is = behind_cancel c.value.action c.value.made c.passes in
        cancel_goes_first view.script view.history closed legal c.value job c.is is.0 is.1

-- A driver that waits for a job goes into it.

-- a job without a reply was not refused, has items that are not done, is not cancelled, and is not forbidden
record HasNoReply (script : Plan) (past : List Entry) (j : ℕ) : Type 0 where
  not_refused : holds_of (λ p. not p.ok) (job_post_of past j) ≡ false
  unfinished : is_finished_job script past j ≡ false
  not_cancelled : is_cancelled past j ≡ false
  not_forbidden : is_job_forbidden script past j ≡ false

no_reply : (script : Plan) (past : List Entry) (j : ℕ) → reply_of script past j ≡ None → HasNoReply script past j
no_reply script past j h = by_refused (holds_of (λ p. not p.ok) (job_post_of past j)) (is_finished_job script past j) (is_cancelled past j)
    (is_job_forbidden script past j) refl refl refl refl h
  where
    by_refused : (a b c d : Bool) → holds_of (λ p. not p.ok) (job_post_of past j) ≡ a → is_finished_job script past j ≡ b → is_cancelled past j ≡ c
        → is_job_forbidden script past j ≡ d
        → cond a (Some replies.Refused) (cond b (Some (replies.Finished (job_sum past j)))
        (cond c (Some replies.Cancelled) (cond d (Some replies.Stopped) None))) ≡ None → HasNoReply script past j
    by_refused true b c d ra rb rc rd k = absurd cc
    by_refused false true c d ra rb rc rd k = absurd cc
    by_refused false false true d ra rb rc rd k = absurd cc
    by_refused false false false true ra rb rc rd k = absurd cc
    by_refused false false false false ra rb rc rd k = record { not_refused = ra; unfinished = rb; not_cancelled = rc; not_forbidden = rd }

-- a job that has items lets somebody in
some_cap : (script : Plan) (j n : ℕ) → IsSound script → n < items_of script j → 1 ≤ cap_of script j
some_cap script j n sound some = at (slice_get script.jobs j) refl some
  where
    at : (o : Option JobPlan) → slice_get script.jobs j ≡ o → n < option_map_or (λ job. job.items) o 0 → 1 ≤ option_map_or (λ job. job.cap) o 0
    at None is k = absurd (omega (arith, k))
    at (Some job) is k =
        let fits : IsJobSound job = subst (λ o. IfSome o IsJobSound) is (slice_get_all IsJobSound script.jobs j sound.declarations.jobs_sound) in fits.some_cap

-- a driver that joins a job may go into it, where nobody is inside and there is no reply yet
pub join_goes_on : (script : Plan) (past : List Entry) (j : ℕ) (c : Current) → IsSound script → IsLegal script past
    → current script (own_entries 0 past) ≡ Some c → follows_start j c.action ≡ true → is_empty script past j ≡ true → reply_of script past j ≡ None
    → may_enter script past j ≡ true
unfolding may_enter
join_goes_on script past j c sound legal now joins empty none = rw (
  accepted,
  known.not_cancelled,
  known.not_forbidden,
  lt-ltb (claimed past j) (items_of script j) (omega (arith, some, claimed_is script past j legal, nobody)),
  lt-ltb (length (inside script past j)) (concurrency script past j) (omega (arith, some, nobody, some_cap script j (done past j) sound some)),
) refl
  where
    known : HasNoReply script past j
    known = no_reply script past j none

    nobody : length (inside script past j) ≡ 0
    nobody = eqb-true (length (inside script past j)) 0 empty

    some : done past j < items_of script j
    some = less (eqb-false (done past j) (items_of script j) known.unfinished)
      where
        less : (done past j ≡ items_of script j → ⊥) → done past j < items_of script j
        less other = grind (arith, other, claimed_is script past j legal, claimed_within script past j legal)

    accepted : is_job_accepted past j ≡ true
    accepted = let (p, is) = joined_was_posted script past j c sound legal now joins in
        rw is (says p.ok (sym (ap (holds_of (λ q. not q.ok)) is) ∙ known.not_refused))
      where
        says : (ok : Bool) → not ok ≡ false → ok ≡ true
        says true h = refl
        says false h = absurd cc

-- so where a join waits and nobody is inside, the driver may go in
pub join_may_go_in : (view : EnvView) (seat j : ℕ) (reply : JobReply) → IsSound view.script → IsLegal view.script view.history
    → IsWantedNext view seat (kinds.Joined j reply) → is_empty view.script view.history j ≡ true → reply_of view.script view.history j ≡ None
    → may_enter view.script view.history j ≡ true
join_may_go_in view seat j reply sound legal wanted empty none =
    let c = wanted_by view.script view.history seat (kinds.Joined j reply) sound.closed (wanted_by_script view seat (kinds.Joined j reply) wanted) in
    join_goes_on view.script view.history j c.value sound legal c.is (joins c.value.action c.value.made c.passes) empty none
  where
    joins : (x : Action) (made : List Entry) → wants (own_entries 0 view.history) x made (kinds.Joined j reply) ≡ true → follows_start j x ≡ true
    joins (actions.Join i) made w = eq-eqb i j (sym (eqb-true j i (and_parts _ _ w).0))
    joins x made w = absurd cc
