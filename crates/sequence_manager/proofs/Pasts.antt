-- What the main queues know of a past stays true with one more entry.
-- Cited by `AtStart`, `DelayedPosts`, `Ends`, `Posts`, `Quiet`, `Takes`, `Ticks`, `Waiting`.
use Rattle.std.proofs.Common.{◌≡◌, ℕ, ◌≤◌, false, true, List, [], ◌∷◌, ◌++◌, refl, sym, ap, ◌∙◌, subst, None, ⊎_elim, arith}
use Rattle.std.specs.Prelude.{Contains}
use Rattle.std.specs.List.{AllByRecursion}
use Rattle.std.proofs.lemmas.Bool.{eqb-true, false_from_ne_true, or_cases, true≢false}
use Rattle.std.proofs.lemmas.Option.{none-some}
use Rattle.list_laws.proofs.Elements.{AllByRecursion-append}
use Rattle.list_laws.proofs.Values.{some-injective}
use Rattle.pool_laws.specs.Keys.{moves_main_posts}
use Rattle.pool_laws.proofs.Keys.Posts.{main_post_of_grows, main_posts_in_order, main_posts_same}
use Rattle.pool_laws.proofs.Keys.Ready.{no_tick_ahead_at_start, no_tick_ahead_grows}
use Rattle.queue_laws.proofs.Arrivals.{main_arrivals_are_ordered_at_start, main_arrivals_are_ordered_grows}
use Rattle.task_base.specs.Plan.{Plan}
use Rattle.task_base.specs.declared.entry.Entry.{Entry}
use Rattle.task_base.specs.declared.entry.Kind.TheVariants as kinds
use Rattle.task_base.specs.declared.limits.TheConstants.{LAST_MOMENT}
use Rattle.task_base.specs.Entries.{next}
use Rattle.task_model.proofs.Growth.{is_main_taken_push, main_posts_push, now_of_push}
use Rattle.queue_laws.specs.Orders.{Ordered, main_arrivals}
use Rattle.task_model.specs.Past.{fold_past}
use Rattle.task_model.specs.Posts.{Posted, is_main_taken, main_posted_by, main_posts, main_takes}
use Rattle.pool_laws.specs.Posts.{InOrder, main_post_of}
use Rattle.task_model.specs.Time.{now_after, now_of}
use Rattle.sequence_manager.specs.Calls.{after_end, after_main, after_tick}
use Rattle.sequence_manager.specs.Pasts.{IsDue, IsMainPast, IsPostedTo, WasDue}
use Rattle.sequence_manager.proofs.Accepted.{arrival_accepted, drawn_is_due, one_post}

-- an accepted task that was taken was due
pub was_due : (script : Plan) (past : List Entry) (p : Posted) → IsMainPast script past → Contains (main_posts past) p → is_main_taken past p.task ≡ true
    → IsDue past p
was_due script past p fits among taken =
    let w = fits.taken_was_due p.task taken in
    subst (IsDue past) (some-injective (sym w.accepted ∙ one_post past p fits.in_order among)) w.due

-- a task that was not accepted was not taken
pub untaken : {script : Plan} {past : List Entry} (task : ℕ) → IsMainPast script past → main_post_of past task ≡ None → is_main_taken past task ≡ false
untaken {past = past} task fits is_new = false_from_ne_true (is_main_taken past task)
    (λ taken. let w = fits.taken_was_due task taken in none-some w.post (sym is_new ∙ w.accepted))

-- an entry behind which each main task was posted once, as the script says, and that takes only what was due
past_next : (script : Plan) (past : List Entry) (e : Entry) → InOrder (main_posts (past ++ e ∷ []))
    → AllByRecursion (λ p. IsPostedTo script p.task p.home) (main_posts (past ++ e ∷ [])) → ((t : ℕ) → main_takes t e.kind ≡ true → WasDue past t)
    → now_of past ≤ now_after (now_of past) e.kind → now_after (now_of past) e.kind ≤ LAST_MOMENT → IsMainPast script past
    → IsMainPast script (past ++ e ∷ [])
past_next script past e order posted takes later last fits = record {
  in_order = order;
  posted = posted;
  taken_was_due = λ t h.
      grown t (⊎_elim (fits.taken_was_due t) (takes t) (or_cases (is_main_taken past t) (main_takes t e.kind) (rw is_main_taken_push at h)));
  moment_fits = rw now_of_push last;
  no_tick_ahead = no_tick_ahead_grows past e later fits.no_tick_ahead;
  arrivals_are_ordered = main_arrivals_are_ordered_grows past e fits.no_tick_ahead fits.arrivals_are_ordered;
}
  where
    grown : (t : ℕ) → WasDue past t → WasDue (past ++ e ∷ []) t
    grown t w = record {
      post = w.post;
      accepted = rw (main_post_of_grows past e t, w.accepted) refl;
      due = λ delayed. let was : w.post.ripe ≤ now_of past = w.due delayed in omega (arith, was, later, now_of_push past e);
    }

-- an entry that posts no main task
pub past_still : (script : Plan) (past : List Entry) (e : Entry) → moves_main_posts e.kind ≡ false → ((t : ℕ) → main_takes t e.kind ≡ true → WasDue past t)
    → now_of past ≤ now_after (now_of past) e.kind → now_after (now_of past) e.kind ≤ LAST_MOMENT → IsMainPast script past
    → IsMainPast script (past ++ e ∷ [])
past_still script past e no_post takes later last fits = past_next script past e (rw (main_posts_same past e no_post) fits.in_order)
    (rw (main_posts_same past e no_post) fits.posted) takes later last fits

pub past_at_start : (script : Plan) → IsMainPast script []
unfolding main_posts is_main_taken now_of fold_past
past_at_start script = record {
  in_order = tt;
  posted = tt;
  taken_was_due = λ t taken. absurd (true≢false (sym taken));
  moment_fits = omega arith;
  no_tick_ahead = no_tick_ahead_at_start;
  arrivals_are_ordered = main_arrivals_are_ordered_at_start;
}

pub past_at_post : {script : Plan} {past : List Entry} (seat task queue delay : ℕ) → IsMainPast script past → main_post_of past task ≡ None
    → IsPostedTo script task queue → IsMainPast script (after_main past seat task queue delay true)
past_at_post {script = script} {past = past} seat task queue delay fits is_new posted =
    let e : Entry = record { seat = seat; kind = kinds.Main task queue delay true } in
    past_next script past e (main_posts_in_order past e task queue delay refl is_new fits.in_order) (rw main_posts_push
    (AllByRecursion-append (λ p. IsPostedTo script p.task p.home) (main_posts past) (main_posted_by past e.kind) fits.posted (posted, tt)))
    (λ t h. absurd (true≢false (sym h))) (omega arith) fits.moment_fits fits

pub past_at_tick : (script : Plan) (past : List Entry) (seat moment : ℕ) → IsMainPast script past → now_of past ≤ moment → moment ≤ LAST_MOMENT
    → IsMainPast script (after_tick past seat moment)
past_at_tick script past seat moment fits later last =
    past_still script past (record { seat = seat; kind = kinds.Tick moment }) refl (λ t h. absurd (true≢false (sym h))) later last fits

-- the driver takes a task that has drawn
pub past_at_take : (script : Plan) (past : List Entry) (task queue found : ℕ) (o : Ordered) → IsMainPast script past → Contains (main_arrivals past) o
    → task ≡ o.posted.task → IsMainPast script (next past 0 (kinds.MainTake task queue found))
past_at_take script past task queue found o fits among is =
    let (posted, drew) = arrival_accepted past o fits.arrivals_are_ordered among in
    past_still script past (record { seat = 0; kind = kinds.MainTake task queue found }) refl
    (λ t same. record {
      post = o.posted;
      accepted = ap (main_post_of past) (sym (eqb-true task t same) ∙ is) ∙ one_post past o.posted fits.in_order posted;
      due = drawn_is_due past o.posted o.order fits.no_tick_ahead drew;
    }) (omega arith) fits.moment_fits fits

pub past_at_end : (script : Plan) (past : List Entry) (task left : ℕ) → IsMainPast script past → IsMainPast script (after_end past task left)
past_at_end script past task left fits =
    past_still script past (record { seat = 0; kind = kinds.MainEnd task left }) refl (λ t h. absurd (true≢false (sym h))) (omega arith) fits.moment_fits fits
