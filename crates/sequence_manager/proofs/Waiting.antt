-- The delayed main tasks that are not ripe: they rise, none of them was taken, and at a tick those of them ripen whose moment
-- has come.
-- Cited by `Arriving`, `Closes`, `DelayedPosts`, `Ripens`, `Ticks`.
use Rattle.list_laws.proofs.Elements.{AllByRecursion-both, AllByRecursion-contains_itself, AllByRecursion-filter, AllByRecursion-map}
use Rattle.list_laws.proofs.Filters.{filter-filter, filter_congr, filter_passes}
use Rattle.list_laws.proofs.Rises.{sort_by-filter}
use Rattle.list_laws.proofs.Sorts.{AllByRecursion-sort_by, differ-filter, rises-sort_by}
use Rattle.list_laws.specs.Sorts.{Differ, Rises, sort_by}
use Rattle.pool_laws.proofs.Keys.Arrivals.{main_posts_differ, ranks_ripens}
use Rattle.pool_laws.proofs.Keys.Posts.{main_posts_same}
use Rattle.sequence_manager.proofs.Pasts.{was_due}
use Rattle.sequence_manager.proofs.Kept.{closed_kept}
use Rattle.sequence_manager.specs.Calls.{after_tick}
use Rattle.sequence_manager.specs.Pasts.{IsMainPast}
use Rattle.sequence_manager.specs.Queues.{unripe, waits}
use Rattle.std.proofs.Common.{Bool, List, [], ap, arith, false, refl, sym, true, ℕ, ◌++◌, ◌<◌, ◌∙◌, ◌∷◌, ◌≡◌, ◌≤◌}
use Rattle.std.proofs.lemmas.Bool.{and_parts, false_from_ne_true, ltb-true, true≢false}
use Rattle.std.specs.List.{AllByRecursion}
use Rattle.std.specs.Prelude.{Contains, filter, nat_le, nat_lt, not, ◌&&◌}
use Rattle.task_base.specs.Plan.{Plan}
use Rattle.task_base.specs.declared.entry.Entry.{Entry}
use Rattle.task_model.proofs.Growth.{now_of_push}
use Rattle.task_model.specs.Orders.{ripening}
use Rattle.task_model.specs.Posts.{Posted, is_delayed, is_main_taken, main_posts, ripens_before}
use Rattle.task_model.specs.Refusal.{is_closed}
use Rattle.task_model.specs.Time.{now_of}
use Rattle.task_base.specs.declared.entry.Kind.TheVariants as kinds

-- of two of them one ripens first
pub unripe_differ : (past : List Entry) → Differ ripens_before (filter (waits past) (main_posts past))
unripe_differ past = differ-filter ripens_before (waits past) (main_posts past) (main_posts_differ past)

-- they stand in the order in which they ripen
pub unripe_rises : (past : List Entry) → Rises ripens_before (unripe past)
unripe_rises past = rises-sort_by ripens_before ranks_ripens (filter (waits past) (main_posts past)) (unripe_differ past)

-- a sort of those that pass a test is what the test keeps of them
pub sort_unripe : (past : List Entry) (test : Posted → Bool)
    → sort_by ripens_before (filter (λ p. waits past p && test p) (main_posts past)) ≡ filter test (unripe past)
sort_unripe past test =
    ap (sort_by ripens_before) (sym (filter-filter test (waits past) (main_posts past)))
    ∙ sort_by-filter ripens_before ranks_ripens test (filter (waits past) (main_posts past)) (unripe_differ past)

-- at a tick those ripen whose moment has come, in their order
pub ripe_at_tick : (past : List Entry) (moment : ℕ) → sort_by ripens_before (ripening past moment) ≡ filter (λ p. nat_le p.ripe moment) (unripe past)
unfolding ripening
ripe_at_tick past moment = sort_unripe past (λ p. nat_le p.ripe moment)

-- and the others are left
pub unripe_at_tick : (past : List Entry) (seat moment : ℕ) → now_of past ≤ moment
    → unripe (after_tick past seat moment) ≡ filter (λ p. nat_lt moment p.ripe) (unripe past)
unripe_at_tick past seat moment later =
    ap (λ ps. sort_by ripens_before (filter (waits (past ++ e ∷ [])) ps)) (main_posts_same past e refl)
    ∙ ap (sort_by ripens_before) (filter_congr (waits (past ++ e ∷ [])) (λ p. waits past p && nat_lt moment p.ripe) (main_posts past) left)
    ∙ sort_unripe past (λ p. nat_lt moment p.ripe)
  where
    e : Entry
    e = record { seat = seat; kind = kinds.Tick moment }

    still : (n : ℕ) (b : Bool) → (b && nat_lt moment n) ≡ ((b && nat_lt (now_of past) n) && nat_lt moment n)
    still n false = refl
    still n true = grind arith

    left : (p : Posted) → waits (past ++ e ∷ []) p ≡ (waits past p && nat_lt moment p.ripe)
    left p =
        ap (λ b. is_delayed p && not b && nat_lt (now_of (past ++ e ∷ [])) p.ripe) (closed_kept past e p.home refl)
        ∙ ap (λ n. is_delayed p && not (is_closed past p.home) && nat_lt n p.ripe) (now_of_push past e)
        ∙ still p.ripe (is_delayed p && not (is_closed past p.home))

-- a task that waits for its moment was accepted, as a delayed one, its queue is not closed, and it was not taken
pub record IsWaiting (past : List Entry) (p : Posted) : Type 0 where
  pub among : Contains (main_posts past) p
  pub delayed : is_delayed p ≡ true
  pub still_open : is_closed past p.home ≡ false
  pub untaken : is_main_taken past p.task ≡ false

-- what was taken was due, so its moment had come
is_waiting : (script : Plan) (past : List Entry) (p : Posted) → IsMainPast script past → Contains (main_posts past) p → waits past p ≡ true
    → IsWaiting past p
is_waiting script past p fits among waiting = record {
  among = among;
  delayed = first.0;
  still_open = false_from_ne_true (is_closed past p.home) (λ closed. true≢false (sym first.1 ∙ ap not closed));
  untaken = false_from_ne_true (is_main_taken past p.task) (λ taken.
      let ahead : now_of past < p.ripe = ltb-true (now_of past) p.ripe both.1 in
      let due : p.ripe ≤ now_of past = was_due script past p fits among taken first.0 in
      omega (arith, ahead, due));
}
  where
    both : ((is_delayed p && not (is_closed past p.home)) ≡ true) × (nat_lt (now_of past) p.ripe ≡ true)
    both = and_parts (is_delayed p && not (is_closed past p.home)) (nat_lt (now_of past) p.ripe) waiting

    first : (is_delayed p ≡ true) × (not (is_closed past p.home) ≡ true)
    first = and_parts (is_delayed p) (not (is_closed past p.home)) both.0

-- each of them is such a task
pub unripe_waiting : (script : Plan) (past : List Entry) → IsMainPast script past → AllByRecursion (IsWaiting past) (unripe past)
unripe_waiting script past fits =
    AllByRecursion-sort_by (IsWaiting past) ripens_before (filter (waits past) (main_posts past))
    (AllByRecursion-map (λ p. Contains (main_posts past) p × (waits past p ≡ true)) (IsWaiting past) (filter (waits past) (main_posts past))
    (λ p h. is_waiting script past p fits h.0 h.1)
    (AllByRecursion-both (Contains (main_posts past)) (λ p. waits past p ≡ true) (filter (waits past) (main_posts past))
    (AllByRecursion-filter (Contains (main_posts past)) (waits past) (main_posts past) (AllByRecursion-contains_itself (main_posts past)))
    (filter_passes (waits past) (main_posts past))))
