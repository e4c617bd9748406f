-- What the pool knows of a past stays true with one more entry.
-- Cited by `Calls/EmptyPool`, `Calls/Ends`, `Calls/Others`, `Calls/Posts`, `Calls/Reprio`, `Calls/Scopes`, `Calls/Shutdown`, `Calls/Takes`,
-- `Calls/Ticks`, `Jobs/JobStands`, `Jobs/JobSteps`, `live_core`.
use Rattle.pool_laws.specs.Runs.{moves_runs, run_parts, RunsSingly}
use Rattle.pool_laws.proofs.Seats.Runs.{none_moved, singly_at_end, singly_at_start, singly_at_take, singly_kept}
use Rattle.list_laws.proofs.Elements.{AllByRecursion-append}
use Rattle.list_laws.proofs.Values.{eqb-same}
use Rattle.pool_core.proofs.Accepted.{head_accepted, new_is_not_taken, one_post}
use Rattle.pool_core.proofs.Jobs.Insides.{inside_at_driver, inside_at_start, inside_at_task, inside_kept}
use Rattle.pool_core.proofs.TakenKeys.{keys_at_post, keys_at_start, keys_at_take, keys_kept}
use Rattle.pool_core.specs.Calls.{after_end, after_enter, after_leave, after_post, after_tick}
use Rattle.pool_core.specs.Holdings.{AreInside}
use Rattle.pool_core.specs.Others.{past_parts, task_parts}
use Rattle.pool_core.specs.Pasts.{IsDeclared, IsPoolPast, TakenHaveKeys}
use Rattle.pool_core.specs.Queues.{same}
use Rattle.pool_laws.proofs.Keys.Arrivals.{arrivals_are_ready_at_start, arrivals_are_ready_grows}
use Rattle.pool_laws.proofs.Keys.Posts.{post_of_grows, posts_in_order, posts_same}
use Rattle.pool_laws.proofs.Keys.Ready.{no_tick_ahead_at_start, no_tick_ahead_grows}
use Rattle.pool_laws.proofs.Seats.Running.{both}
use Rattle.pool_laws.specs.Keys.{moves_posts}
use Rattle.pool_laws.specs.Room.{scopes}
use Rattle.pool_laws.specs.Seats.{moves_main, main_parts, running_parts}
use Rattle.std.proofs.Common.{Bool, List, None, Option, Some, [], ap, arith, false, ⊎_elim}
use Rattle.std.proofs.Common.{length, refl, sym, true, ℕ, ◌++◌, ◌<◌, ◌∙◌, ◌∷◌, ◌≡◌, ◌≤◌}
use Rattle.std.proofs.lemmas.Bool.{both_ways, eqb-true, ne_eqb, or_cases, or_parts, true≢false}
use Rattle.std.proofs.lemmas.Option.{none-some}
use Rattle.std.specs.List.{AllByRecursion}
use Rattle.std.specs.Prelude.{◌==◌}
use Rattle.task_base.specs.Plan.{Plan}
use Rattle.task_base.specs.declared.entry.Entry.{Entry}
use Rattle.task_base.specs.declared.limits.TheConstants.{LAST_MOMENT}
use Rattle.task_base.specs.declared.step.Scope.{Scope}
use Rattle.task_model.proofs.Growth.{is_taken_push, now_of_push, open_scope_push, posts_push}
use Rattle.task_model.specs.Capacity.{open_scope, scope_after}
use Rattle.task_model.specs.Keys.{Ready}
use Rattle.task_model.specs.Past.{fold_past}
use Rattle.task_model.specs.Posts.{Posted, is_taken, posted_by, posts, takes}
use Rattle.pool_laws.specs.Posts.{InOrder, post_of}
use Rattle.task_model.specs.Seats.{Running, holding, running, runs_sequence}
use Rattle.task_model.specs.Sequences.{head_of}
use Rattle.task_model.specs.Time.{now_after, now_of}
use Rattle.task_base.specs.declared.entry.Kind.TheVariants as kinds
use Rattle.task_base.specs.Entries.{next}
use Rattle.pool_laws.specs.Moves.{Posts, Items, moves}
use Rattle.pool_laws.proofs.Moves.{moves_fewer, moves_apart, same_moment, no_scope}
use Rattle.pool_laws.proofs.Room.Capacity.{scope_stays}

-- an entry behind a past posts what is declared and new, takes what was accepted, leaves one task of a sequence running, opens no
-- scope of what was not taken, and leaves known who is inside a job
record IsNext (script : Plan) (past : List Entry) (e : Entry) : Type 0 where
  in_order : InOrder (posts (past ++ e ∷ []))
  declared : AllByRecursion (IsDeclared script) (posts (past ++ e ∷ []))
  was_accepted : (t : ℕ) → takes t e.kind ≡ true → (p : Posted) × (post_of past t ≡ Some p)
  singly : RunsSingly script (past ++ e ∷ []) false
  later : now_of past ≤ now_after (now_of past) e.kind
  fits : now_after (now_of past) e.kind ≤ LAST_MOMENT
  scopes : (t : ℕ) → is_taken past t ≡ false → scope_after t past None e.kind ≡ None
  inside : AreInside script (past ++ e ∷ [])
  keys : TakenHaveKeys (past ++ e ∷ [])

-- such an entry keeps what the pool knows of the past
past_next : (script : Plan) (past : List Entry) (e : Entry) → IsNext script past e → IsPoolPast script past → IsPoolPast script (past ++ e ∷ [])
past_next script past e n c = record {
  in_order = n.in_order;
  declared = n.declared;
  taken_was_accepted = λ t h.
      grown t (⊎_elim (c.taken_was_accepted t) (n.was_accepted t) (or_cases (is_taken past t) (takes t e.kind) (rw is_taken_push at h)));
  singly = n.singly;
  moment_fits = rw now_of_push n.fits;
  no_tick_ahead = no_tick_ahead_grows past e n.later c.no_tick_ahead;
  arrivals_are_ready = arrivals_are_ready_grows past e c.no_tick_ahead c.arrivals_are_ready;
  scopes_of_taken = λ t h.
      let free = or_parts (is_taken past t) (takes t e.kind) (rw is_taken_push at h) in
      rw (open_scope_push, c.scopes_of_taken t free.0) (n.scopes t free.0);
  inside = n.inside;
  taken_have_keys = n.keys;
}
  where
    grown : (t : ℕ) → (p : Posted) × (post_of past t ≡ Some p) → (p : Posted) × (post_of (past ++ e ∷ []) t ≡ Some p)
    grown t (p, is) = (p, rw (post_of_grows past e t, is) refl)

-- an entry that posts and takes nothing
past_still : (script : Plan) (past : List Entry) (e : Entry) → moves_posts e.kind ≡ false → ((t : ℕ) → takes t e.kind ≡ false)
    → RunsSingly script (past ++ e ∷ []) false → now_of past ≤ now_after (now_of past) e.kind → now_after (now_of past) e.kind ≤ LAST_MOMENT
    → ((t : ℕ) → is_taken past t ≡ false → scope_after t past None e.kind ≡ None) → AreInside script (past ++ e ∷ []) → IsPoolPast script past
    → IsPoolPast script (past ++ e ∷ [])
past_still script past e no_posts none singly later last scopes inside c = past_next script past e (record {
  in_order = rw (posts_same past e no_posts) c.in_order;
  declared = rw (posts_same past e no_posts) c.declared;
  was_accepted = λ t h. absurd (both_ways _ (none t) h);
  singly = singly;
  later = later;
  fits = last;
  scopes = scopes;
  inside = inside;
  keys = keys_kept past e no_posts none c.taken_have_keys;
}) c

-- one that takes and ends nothing, and makes no tick
past_unmoved : (script : Plan) (past : List Entry) (e : Entry) → moves_posts e.kind ≡ false → moves_runs false e.kind ≡ false
    → now_after (now_of past) e.kind ≡ now_of past → ((t : ℕ) → is_taken past t ≡ false → scope_after t past None e.kind ≡ None)
    → AreInside script (past ++ e ∷ []) → IsPoolPast script past → IsPoolPast script (past ++ e ∷ [])
past_unmoved script past e no_posts still same scopes inside c = past_still script past e no_posts (λ t. (none_moved false t e.kind still).0)
    (singly_kept script past e false still c.singly) (rw same (omega arith)) (rw same c.moment_fits) scopes inside c

-- an entry that moves nothing of the pool's tasks
past_beside : (script : Plan) (past : List Entry) (e : Entry) → moves task_parts e.kind ≡ false → AreInside script (past ++ e ∷ [])
    → IsPoolPast script past → IsPoolPast script (past ++ e ∷ [])
past_beside script past e beside inside fits = past_unmoved script past e (moves_fewer (Posts ∷ []) task_parts e.kind refl beside)
    (moves_fewer (run_parts false) task_parts e.kind refl beside) (same_moment task_parts e.kind refl beside (now_of past))
    (λ t free. scope_stays t past None e.kind (no_scope task_parts e.kind refl beside t)) inside fits

pub past_at_start : (script : Plan) → IsPoolPast script []
unfolding posts fold_past is_taken now_of open_scope holding
past_at_start script = record {
  in_order = tt;
  declared = tt;
  taken_was_accepted = λ t h. absurd (true≢false (sym h));
  singly = singly_at_start script false;
  moment_fits = omega arith;
  no_tick_ahead = no_tick_ahead_at_start;
  arrivals_are_ready = arrivals_are_ready_at_start;
  scopes_of_taken = λ t h. refl;
  inside = inside_at_start script;
  taken_have_keys = keys_at_start;
}

pub past_at_post : (script : Plan) (past : List Entry) (seat task runner delay : ℕ) (ok : Bool) → IsPoolPast script past → runner < length script.runners
    → task < length script.tasks → post_of past task ≡ None → IsPoolPast script (after_post past seat task runner delay ok)
past_at_post script past seat task runner delay false fits declared known new =
    let e : Entry = record { seat = seat; kind = kinds.Post task runner delay false } in
    past_unmoved script past e refl refl refl (λ t h. refl) (inside_kept script past e refl refl fits.inside) fits
past_at_post script past seat task runner delay true fits declared known new =
    let e : Entry = record { seat = seat; kind = kinds.Post task runner delay true } in
    past_next script past e (record {
      in_order = posts_in_order past e task runner delay refl new fits.in_order;
      declared = rw posts_push (AllByRecursion-append (IsDeclared script) (posts past) (posted_by past e.kind) fits.declared ((declared, known), tt));
      was_accepted = λ t h. absurd (true≢false (sym h));
      singly = singly_kept script past e false refl fits.singly;
      later = omega arith;
      fits = fits.moment_fits;
      scopes = λ t h. refl;
      inside = inside_kept script past e refl refl fits.inside;
      keys = keys_at_post past seat task runner delay (new_is_not_taken script past task fits new).0 fits.taken_have_keys;
    }) fits

pub past_at_tick : (script : Plan) (past : List Entry) (seat moment : ℕ) → IsPoolPast script past → now_of past ≤ moment → moment ≤ LAST_MOMENT
    → IsPoolPast script (after_tick past seat moment)
past_at_tick script past seat moment fits later last =
    let e : Entry = record { seat = seat; kind = kinds.Tick moment } in
    past_still script past e refl (λ t. refl) (singly_kept script past e false refl fits.singly) later last (λ t h. refl)
    (inside_kept script past e refl refl fits.inside) fits

pub past_at_take : (script : Plan) (past : List Entry) (seat s found : ℕ) (head : Ready) → IsPoolPast script past → 1 ≤ seat → seat ≤ script.workers
    → holding past seat ≡ None → head_of script past s ≡ Some head → runs_sequence script past s ≡ false
    → IsPoolPast script (next past seat (kinds.Take head.posted.task head.posted.home found))
past_at_take script past seat s found head fits worker known nothing is_head idle =
    let task : ℕ = head.posted.task in
    let home : ℕ = head.posted.home in
    let e : Entry = record { seat = seat; kind = kinds.Take task home found } in
    let (among, is_of, free, allowed) = head_accepted script past s head is_head in
    past_next script past e (record {
      in_order = rw (posts_same past e refl) fits.in_order;
      declared = rw (posts_same past e refl) fits.declared;
      was_accepted = λ t same. (head.posted, ap (post_of past) (sym (eqb-true task t same)) ∙ one_post past head.posted fits.in_order among);
      singly = singly_at_take script past e (record { task = task; home = home; found = found; is_main = false }) false refl (eqb-same task) (λ t. refl)
          (record {
            accepted = head.posted;
            posted = among;
            task_is = refl;
            home_is = refl;
            worker = λ is. worker;
            driver = λ is. absurd (true≢false (sym is));
            known = known;
          }) free (λ is. rw is_of idle) fits.singly;
      later = omega arith;
      fits = fits.moment_fits;
      scopes = λ t h. refl;
      inside = inside_at_task script past e refl (λ h is. absurd (none-some h (sym nothing ∙ is))) fits.inside;
      keys = keys_at_take script past seat s found head fits.arrivals_are_ready (λ p in_posts. one_post past p fits.in_order in_posts) is_head
          fits.taken_have_keys;
    }) fits

pub past_at_end : (script : Plan) (past : List Entry) (seat left : ℕ) (w : Running) → IsPoolPast script past → running past seat ≡ Some w → w.is_main ≡ false
    → IsPoolPast script (after_end past seat w.task left)
past_at_end script past seat left w fits runs pool =
    let e : Entry = record { seat = seat; kind = kinds.End w.task left } in
    past_still script past e refl (λ t. refl) (singly_at_end script past e w false runs pool refl (λ t same. eqb-true w.task t same) fits.singly)
    (omega arith) fits.moment_fits (λ t h. refl) (inside_at_task script past e refl (λ h is. refl) fits.inside) fits

pub past_at_enter : (script : Plan) (past : List Entry) (seat : ℕ) (scope : Scope) (w : Running) → IsPoolPast script past → running past seat ≡ Some w
    → w.is_main ≡ false → IsPoolPast script (after_enter past seat w.task scope)
past_at_enter script past seat scope w fits runs pool =
    let e : Entry = record { seat = seat; kind = kinds.Enter w.task scope } in
    past_unmoved script past e refl refl refl
    (λ t free. rw (ne_eqb w.task t
    (λ same. both_ways (is_taken past t) free (ap (is_taken past) (sym same) ∙ (fits.singly.runs seat w runs pool).taken))) refl)
    (inside_kept script past e refl refl fits.inside) fits

pub past_at_leave : (script : Plan) (past : List Entry) (seat : ℕ) (w : Running) → IsPoolPast script past → IsPoolPast script (after_leave past seat w.task)
past_at_leave script past seat w fits =
    let e : Entry = record { seat = seat; kind = kinds.Leave w.task } in
    past_unmoved script past e refl refl refl (λ t free. both (w.task == t) None) (inside_kept script past e refl refl fits.inside) fits

pub past_kept : (script : Plan) (past : List Entry) (e : Entry) → moves past_parts e.kind ≡ false → IsPoolPast script past
    → IsPoolPast script (past ++ e ∷ [])
past_kept script past e quiet fits = past_beside script past e (moves_fewer task_parts past_parts e.kind refl quiet)
    (inside_kept script past e (moves_fewer (Items ∷ []) past_parts e.kind refl quiet) (moves_fewer running_parts past_parts e.kind refl quiet) fits.inside)
    fits

pub past_at_main : (script : Plan) (past : List Entry) (e : Entry) → moves_main e.kind ≡ true → e.seat ≡ 0 → IsPoolPast script past
    → IsPoolPast script (past ++ e ∷ [])
past_at_main script past e main driver fits = past_beside script past e (moves_apart main_parts task_parts e.kind refl main)
    (inside_at_driver script past e (moves_apart main_parts (Items ∷ []) e.kind refl main) driver fits.inside) fits

-- the entries of a job
pub past_at_job_post : (script : Plan) (past : List Entry) (seat job : ℕ) (ok : Bool) → IsPoolPast script past
    → IsPoolPast script (next past seat (kinds.JobPost job ok))
past_at_job_post script past seat job ok fits =
    let e : Entry = record { seat = seat; kind = kinds.JobPost job ok } in
    past_unmoved script past e refl refl refl (λ t h. refl) (inside_kept script past e refl refl fits.inside) fits

pub past_at_job_cancel : (script : Plan) (past : List Entry) (seat job : ℕ) → IsPoolPast script past → IsPoolPast script (next past seat (kinds.JobCancel job))
past_at_job_cancel script past seat job fits =
    let e : Entry = record { seat = seat; kind = kinds.JobCancel job } in
    past_unmoved script past e refl refl refl (λ t h. refl) (inside_kept script past e refl refl fits.inside) fits

pub past_at_job_take : (script : Plan) (past : List Entry) (seat job id item : ℕ) → AreInside script (next past seat (kinds.JobTake job id item))
    → IsPoolPast script past → IsPoolPast script (next past seat (kinds.JobTake job id item))
past_at_job_take script past seat job id item inside fits =
    past_unmoved script past (record { seat = seat; kind = kinds.JobTake job id item }) refl refl refl (λ t h. refl) inside fits

pub past_at_step : (script : Plan) (past : List Entry) (seat job id item value : ℕ) (goes_on : Option ℕ)
    → AreInside script (next past seat (kinds.JobStep job id item value goes_on)) → IsPoolPast script past
    → IsPoolPast script (next past seat (kinds.JobStep job id item value goes_on))
past_at_step script past seat job id item value goes_on inside fits =
    past_unmoved script past (record { seat = seat; kind = kinds.JobStep job id item value goes_on }) refl refl refl (λ t h. refl) inside fits
