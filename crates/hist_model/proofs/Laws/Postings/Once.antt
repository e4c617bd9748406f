-- What follows for the accepted tasks, and for a task that is posted now.
-- Cited by `each_task_is_posted_once`, `Laws/LegalPast`, `postings.rt`, `env_core`, `log_count`, `next_entry`, `situation`, `task_reply`.
use Rattle.std.proofs.Common.{◌≡◌, ℕ, ◌<◌, Bool, true, false, eqb, List, [], ◌∷◌, ◌++◌, length, refl, sym, ap, subst, ◌∙◌, arith, length-append, append-nil}
use Rattle.std.specs.List.{AllByRecursion}
use Rattle.std.proofs.lemmas.Bool.{false_from_ne_true, eq-eqb, eqb-false}
use Rattle.task_base.specs.Plan.{Plan}
use Rattle.task_base.specs.declared.entry.Entry.{Entry}
use Rattle.task_base.specs.declared.entry.Kind.{Kind}
use Rattle.task_base.specs.declared.entry.Kind.TheVariants as kinds
use Rattle.task_model.specs.Past.{fold_past}
use Rattle.task_model.specs.Posts.{Posted, post_behind, posts, main_posts, is_taken, is_main_taken}
use Rattle.pool_laws.specs.Posts.{Before, InOrder}
use Rattle.list_laws.proofs.Elements.{AllByRecursion-append, AllByRecursion-map, AllByRecursion-both}
use Rattle.hist_model.specs.Allowed.{IsAllowed}
use Rattle.hist_model.specs.Legal.{IsLegal}
use Rattle.list_laws.proofs.Finds.{none_counted, none_found, found_counts}
use Rattle.hist_model.specs.Laws.Postings.{kind_posts, posted_in, AreAcceptedOnce, IsNew}
use Rattle.script_model.specs.Laws.Postings.{times, IsPostedOnce}
use Rattle.hist_model.proofs.Laws.Legal.{is_legal_push, legal_induction}
use Rattle.pool_laws.specs.Runs.{posts_as, posted_as}
use Rattle.pool_laws.proofs.Seats.Runs.{posts_as_push, singly_unended}
use Rattle.hist_model.proofs.Laws.Consistent.{legal_is_consistent}
use Rattle.hist_model.proofs.Laws.Postings.Counts.{of_task, Counted, counted, posted_in_push, posted_at_most_once}

pub once_in_one : (t : ℕ) → times t (t ∷ []) ≡ 1
once_in_one t = rw (eq-eqb t t refl) refl

-- what is posted now was not posted before
not_posted_before : (script : Plan) (past : List Entry) (e : Entry) (t : ℕ) → IsPostedOnce script → IsLegal script past
    → IsAllowed script past e → kind_posts e.kind ≡ t ∷ [] → times t (posted_in past) ≡ 0
not_posted_before script past e t once legal allowed posts_it =
    let longer : IsLegal script (past ++ e ∷ []) = is_legal_push script past e ∙ rw (legal, allowed) refl in
    let one : times t (kind_posts e.kind) ≡ 1 = ap (times t) posts_it ∙ once_in_one t in
    omega (arith, posted_at_most_once script (past ++ e ∷ []) t once longer, posted_in_push t past e, one)

-- the history knows nothing of a task that is posted now
pub a_posted_task_is_new : (script : Plan) (past : List Entry) (e : Entry) (t : ℕ) → IsPostedOnce script → IsLegal script past
    → IsAllowed script past e → kind_posts e.kind ≡ t ∷ [] → IsNew past t
a_posted_task_is_new script past e t once legal allowed posts_it =
    let zero_times : times t (posted_in past) ≡ 0 = not_posted_before script past e t once legal allowed posts_it in
    let known : Counted script past = counted script once past legal in
    let free : is_taken past t ≡ false = false_from_ne_true (is_taken past t) (λ k. omega (arith, zero_times, known.taken false t k, known.accepted t)) in
    record {
      not_posted = zero_times;
      not_accepted = none_found (λ p. eqb p.task t) (posts past) (omega (arith, zero_times, known.accepted t));
      not_main_accepted = none_found (λ p. eqb p.task t) (main_posts past) (omega (arith, zero_times, known.accepted t));
      not_taken = free;
      not_main_taken = false_from_ne_true (is_main_taken past t) (λ k. omega (arith, zero_times, known.taken true t k, known.accepted t));
      not_ended = singly_unended script past false t (legal_is_consistent script past legal false) free;
    }

in_order_push : (ps : List Posted) (q : Posted) → InOrder ps → AllByRecursion (λ p. Before p q) ps → InOrder (ps ++ q ∷ [])
in_order_push [] q h before = (tt, tt)
in_order_push (p ∷ ps) q h before = (AllByRecursion-append (Before p) ps (q ∷ []) h.0 (before.0, tt), in_order_push ps q h.1 before.1)

-- the accepted tasks are in order and were posted in the past, of the pool and of main queues
record Ordered (past : List Entry) : Type 0 where
  order : (main : Bool) → InOrder (posts_as main past)
  places : (main : Bool) → AllByRecursion (λ p. p.place < length past) (posts_as main past)

-- a post behind the past is in order behind posts of it that name other tasks
behind_all : (past : List Entry) (ps : List Posted) (task home delay : ℕ) → AllByRecursion (λ p. p.place < length past) ps → of_task task ps ≡ 0
    → AllByRecursion (λ p. Before p (post_behind past task home delay)) ps
behind_all past ps task home delay places none =
    AllByRecursion-map (λ p. (p.place < length past) × (eqb p.task task ≡ false)) (λ p. Before p (post_behind past task home delay)) ps
    (λ p known. record { earlier = known.0; another = eqb-false p.task task known.1 })
    (AllByRecursion-both (λ p. p.place < length past) (λ p. eqb p.task task ≡ false) ps places (none_counted (λ p. eqb p.task task) ps none))

places_next : (past : List Entry) (e : Entry) (ps more : List Posted) → AllByRecursion (λ p. p.place < length past) ps
    → AllByRecursion (λ p. p.place ≡ length past) more → AllByRecursion (λ p. p.place < length (past ++ e ∷ [])) (ps ++ more)
places_next past e ps more places new = AllByRecursion-append (λ p. p.place < length (past ++ e ∷ [])) ps more
    (AllByRecursion-map (λ p. p.place < length past) (λ p. p.place < length (past ++ e ∷ [])) ps (λ p below. omega (arith, length-append past (e ∷ []))) places)
    (AllByRecursion-map (λ p. p.place ≡ length past) (λ p. p.place < length (past ++ e ∷ [])) more (λ p here. omega (arith, length-append past (e ∷ []))) new)

posted_here : (main : Bool) (past : List Entry) (kind : Kind) → AllByRecursion (λ p. p.place ≡ length past) (posted_as main past kind)
posted_here false past (kinds.Post task runner delay true) = (refl, tt)
posted_here true past (kinds.Main task queue delay true) = (refl, tt)
posted_here false past (kinds.Post task runner delay false) = tt
posted_here true past (kinds.Main task queue delay false) = tt
posted_here false past kind = tt
posted_here true past kind = tt

order_next : (main : Bool) (past : List Entry) (kind : Kind) → InOrder (posts_as main past)
    → AllByRecursion (λ p. p.place < length past) (posts_as main past)
    → ((t : ℕ) → kind_posts kind ≡ t ∷ [] → of_task t (posts_as main past) ≡ 0) → InOrder (posts_as main past ++ posted_as main past kind)
order_next false past (kinds.Post task runner delay true) order places new = in_order_push (posts past) (post_behind past task runner delay) order
    (behind_all past (posts past) task runner delay places (new task refl))
order_next true past (kinds.Main task queue delay true) order places new = in_order_push (main_posts past) (post_behind past task queue delay) order
    (behind_all past (main_posts past) task queue delay places (new task refl))
order_next false past (kinds.Post task runner delay false) order places new = subst InOrder (sym (append-nil (posts past))) order
order_next true past (kinds.Main task queue delay false) order places new = subst InOrder (sym (append-nil (main_posts past))) order
order_next false past kind order places new = subst InOrder (sym (append-nil (posts past))) order
order_next true past kind order places new = subst InOrder (sym (append-nil (main_posts past))) order

ordered_next : (script : Plan) → IsPostedOnce script → (past : List Entry) (e : Entry) → IsLegal script past → IsAllowed script past e
    → Ordered past → Ordered (past ++ e ∷ [])
ordered_next script once past e legal allowed known = record {
  order = λ main. subst InOrder (sym (posts_as_push main past e)) (order_next main past e.kind (known.order main) (known.places main) (not_before main));
  places = λ main. subst (AllByRecursion (λ p. p.place < length (past ++ e ∷ []))) (sym (posts_as_push main past e))
      (places_next past e (posts_as main past) (posted_as main past e.kind) (known.places main) (posted_here main past e.kind));
}
  where
    counts : Counted script past
    counts = counted script once past legal

    not_before : (main : Bool) (t : ℕ) → kind_posts e.kind ≡ t ∷ [] → of_task t (posts_as main past) ≡ 0
    not_before false t is = omega (arith, counts.accepted t, not_posted_before script past e t once legal allowed is)
    not_before true t is = omega (arith, counts.accepted t, not_posted_before script past e t once legal allowed is)

nothing_ordered : Ordered []
unfolding fold_past posts main_posts
nothing_ordered = record { order = order; places = places }
  where
    order : (main : Bool) → InOrder (posts_as main [])
    order false = tt
    order true = tt

    places : (main : Bool) → AllByRecursion (λ p. p.place < 0) (posts_as main [])
    places false = tt
    places true = tt

-- the accepted tasks are in order and differ
pub each_is_accepted_once : (script : Plan) (past : List Entry) → IsPostedOnce script → IsLegal script past → AreAcceptedOnce past
each_is_accepted_once script past once legal =
    let order : Ordered past = legal_induction script Ordered nothing_ordered (ordered_next script once) past legal in
    let known : Counted script past = counted script once past legal in
    record {
      pool = order.order false;
      main = order.order true;
      apart = λ t one other. omega (
        arith,
        found_counts (λ p. eqb p.task t) (posts past) one,
        found_counts (λ p. eqb p.task t) (main_posts past) other,
        known.accepted t,
        posted_at_most_once script past t once legal,
      );
    }
