-- The delayed tasks that are not ripe, as the past grows.
-- Cited by `Pool::post`, `Calls/Ends`, `Calls/Kept`, `Calls/Posts`, `Calls/Reprio`, `Calls/Ripening`, `Calls/Shutdown`, `Calls/Takes`,
-- `Calls/Ticks`, `Jobs/JobStands`.
use Rattle.list_laws.proofs.Rises.{map-insert_by, sort_by-filter, sort_by-push}
use Rattle.list_laws.proofs.Counts.{count_le}
use Rattle.list_laws.proofs.Elements.{AllByRecursion-filter, AllByRecursion-map, AllByRecursion-mapped}
use Rattle.list_laws.proofs.Filters.{filter-filter, filter_congr}
use Rattle.list_laws.proofs.Options.{option_or-none}
use Rattle.list_laws.proofs.Sorts.{AllByRecursion-sort_by, differ-filter, length-sort_by}
use Rattle.list_laws.specs.Sorts.{Differ, insert_by, sort_by}
use Rattle.pool_core.specs.Calls.{after_post, after_tick}
use Rattle.pool_core.specs.Tables.{is_unripe, ripening_of, unripe}
use Rattle.pool_laws.proofs.Keys.Arrivals.{one_ripens_first, posts_differ, ranks_ripens}
use Rattle.pool_laws.proofs.Keys.Posts.{posts_same}
use Rattle.pool_laws.proofs.Keys.Ready.{posts_within, tick_from_push}
use Rattle.pool_laws.specs.Keys.{NoTickAhead, moves_ready, tick_by, ready_parts, becomes_ripe}
use Rattle.std.proofs.Common.{Bool, List, None, Option, Some, [], ap, arith, cond, false, length}
use Rattle.std.proofs.Common.{map, refl, sym, true, ℕ, ◌++◌, ◌+◌, ◌<◌, ◌∙◌, ◌∷◌, ◌≡◌, ◌≢◌, ◌≤◌}
use Rattle.std.proofs.lemmas.Bool.{ltb-true}
use Rattle.std.proofs.lemmas.List.{append-nil}
use Rattle.std.proofs.lemmas.List.Elements.{All-from_recursion, filter-append}
use Rattle.std.specs.List.{AllByRecursion}
use Rattle.std.specs.Option.{option_or}
use Rattle.std.specs.Prelude.{All, filter, is_none, nat_le, nat_lt, not, ◌&&◌, ◌⊎◌}
use Rattle.task_base.specs.declared.entry.Entry.{Entry}
use Rattle.task_model.proofs.Growth.{posts_push}
use Rattle.task_model.specs.Posts.{Posted, is_delayed, post_behind, posts, ripens_before}
use Rattle.task_model.specs.Time.{now_of, tick_from}
use Rattle.delayed_manager.specs.Delayed as ripenings
use Rattle.task_base.specs.declared.entry.Kind.TheVariants as kinds
use Rattle.pool_laws.specs.Moves.{Posts}
use Rattle.pool_laws.proofs.Moves.{moves_fewer, no_tick}

unripe_differ : (past : List Entry) → Differ ripens_before (filter (is_unripe past) (posts past))
unripe_differ past = differ-filter ripens_before (is_unripe past) (posts past) (posts_differ past)

pub few_unripe : (past : List Entry) → length (unripe past) ≤ length (posts past)
few_unripe past = rw (length-sort_by ripens_before (filter (is_unripe past) (posts past))) (count_le (is_unripe past) (posts past))

-- an entry that is no tick leaves unripe what is unripe
still_unripe : (past : List Entry) (e : Entry) → ((moment : ℕ) → tick_by past moment e.kind ≡ None)
    → filter (is_unripe (past ++ e ∷ [])) (posts past) ≡ filter (is_unripe past) (posts past)
still_unripe past e none = filter_congr (is_unripe (past ++ e ∷ [])) (is_unripe past) (posts past)
    (λ p. ap (λ o. is_delayed p && is_none o)
    (tick_from_push past e p.ripe ∙ ap (option_or (tick_from past p.ripe)) (none p.ripe) ∙ option_or-none (tick_from past p.ripe)))

-- an entry that neither posts to the pool nor is a tick
pub unripe_kept : (past : List Entry) (e : Entry) → moves_ready e.kind ≡ false → unripe (past ++ e ∷ []) ≡ unripe past
unripe_kept past e still = ap (sort_by ripens_before)
    (ap (filter (is_unripe (past ++ e ∷ []))) (posts_same past e (moves_fewer (Posts ∷ []) ready_parts e.kind refl still))
    ∙ still_unripe past e (λ moment. rw (no_tick ready_parts e.kind refl still moment) refl))

-- what an accepted post leaves unripe: those before, and the new task if it is unripe
unripe_behind_post : (past : List Entry) (seat task runner delay : ℕ)
    → filter (is_unripe (after_post past seat task runner delay true)) (posts (after_post past seat task runner delay true))
    ≡ filter (is_unripe past) (posts past)
    ++ filter (is_unripe (after_post past seat task runner delay true)) (post_behind past task runner delay ∷ [])
unripe_behind_post past seat task runner delay =
    ap (filter (is_unripe (after_post past seat task runner delay true))) (posts_push past e)
    ∙ filter-append (is_unripe (after_post past seat task runner delay true)) (posts past) (post_behind past task runner delay ∷ [])
    ∙ ap (λ xs. xs ++ filter (is_unripe (after_post past seat task runner delay true)) (post_behind past task runner delay ∷ []))
    (still_unripe past e (λ moment. refl))
  where
    e : Entry
    e = record { seat = seat; kind = kinds.Post task runner delay true }

pub unripe_at_post : (past : List Entry) (seat task runner delay : ℕ) → nat_lt 0 delay ≡ false
    → unripe (after_post past seat task runner delay true) ≡ unripe past
unripe_at_post past seat task runner delay now = ap (sort_by ripens_before)
    (unripe_behind_post past seat task runner delay
    ∙ ap (λ b. filter (is_unripe past) (posts past)
    ++ cond (b && is_none (tick_from (after_post past seat task runner delay true) (now_of past + delay))) (post_behind past task runner delay ∷ []) []) now
    ∙ append-nil (filter (is_unripe past) (posts past)))

pub unripe_at_delayed_post : (past : List Entry) (seat task runner delay : ℕ) → nat_lt 0 delay ≡ true → NoTickAhead past
    → map ripening_of (unripe (after_post past seat task runner delay true))
    ≡ insert_by ripenings.ripens_before (record { ripe = now_of past + delay; post = length past; task = task }) (map ripening_of (unripe past))
unripe_at_delayed_post past seat task runner delay later ahead =
    ap (λ xs. map ripening_of (sort_by ripens_before xs)) (unripe_behind_post past seat task runner delay ∙ ap (λ b. known ++ cond b (new ∷ []) []) is)
    ∙ ap (map ripening_of) (sort_by-push ripens_before ranks_ripens known new (unripe_differ past) behind)
    ∙ map-insert_by ripens_before ripenings.ripens_before ripening_of new (unripe past) (λ p q. refl)
  where
    e : Entry
    e = record { seat = seat; kind = kinds.Post task runner delay true }

    new : Posted
    new = post_behind past task runner delay

    known : List Posted
    known = filter (is_unripe past) (posts past)

    none : tick_from (past ++ e ∷ []) (now_of past + delay) ≡ None
    none =
        let positive : 0 < delay = ltb-true 0 delay later in
        tick_from_push past e (now_of past + delay)
        ∙ option_or-none (tick_from past (now_of past + delay))
        ∙ ahead (now_of past + delay) (omega (arith, positive))

    is : is_unripe (past ++ e ∷ []) new ≡ true
    is = ap (λ b. b && is_none (tick_from (past ++ e ∷ []) (now_of past + delay))) later ∙ ap is_none none

    behind : AllByRecursion (λ p. (ripens_before p new ≡ true) ⊎ (ripens_before new p ≡ true)) known
    behind = AllByRecursion-filter (λ p. (ripens_before p new ≡ true) ⊎ (ripens_before new p ≡ true)) (is_unripe past) (posts past)
        (AllByRecursion-map (λ p. nat_lt p.place (length past) ≡ true) (λ p. (ripens_before p new ≡ true) ⊎ (ripens_before new p ≡ true)) (posts past)
        (λ p lt. one_ripens_first p new (ltb-true p.place (length past) lt)) (posts_within past))

-- the post of a new task is none of theirs
pub other_posts : (past : List Entry) → All (λ other. other.post ≢ length past) (map ripening_of (unripe past))
other_posts past = All-from_recursion (λ other. other.post ≢ length past) (map ripening_of (unripe past))
    (AllByRecursion-mapped (λ other. other.post ≢ length past) ripening_of (unripe past)
    (AllByRecursion-sort_by (λ p. p.place ≢ length past) ripens_before (filter (is_unripe past) (posts past))
    (AllByRecursion-filter (λ p. p.place ≢ length past) (is_unripe past) (posts past)
    (AllByRecursion-map (λ p. nat_lt p.place (length past) ≡ true) (λ p. p.place ≢ length past) (posts past)
    (λ p is. let lt : p.place < length past = ltb-true p.place (length past) is in λ same. omega (arith, lt, same)) (posts_within past)))))

-- a sort of those unripe that pass a test
sort_unripe : (past : List Entry) (test : Posted → Bool)
    → sort_by ripens_before (filter (λ p. is_unripe past p && test p) (posts past)) ≡ filter test (unripe past)
sort_unripe past test =
    ap (sort_by ripens_before) (sym (filter-filter test (is_unripe past) (posts past)))
    ∙ sort_by-filter ripens_before ranks_ripens test (filter (is_unripe past) (posts past)) (unripe_differ past)

-- a tick makes those ripe whose moment has come, in their order, and leaves the others
pub ripe_at_tick : (past : List Entry) (moment : ℕ) → sort_by ripens_before (filter (becomes_ripe past moment) (posts past))
    ≡ filter (λ p. nat_le p.ripe moment) (unripe past)
ripe_at_tick past moment =
    ap (sort_by ripens_before) (filter_congr (becomes_ripe past moment) (λ p. is_unripe past p && nat_le p.ripe moment) (posts past)
    (λ p. turned (is_delayed p) (nat_le p.ripe moment) (is_none (tick_from past p.ripe))))
    ∙ sort_unripe past (λ p. nat_le p.ripe moment)
  where
    turned : (a b c : Bool) → (a && b && c) ≡ ((a && c) && b)
    turned true true true = refl
    turned true true false = refl
    turned true false true = refl
    turned true false false = refl
    turned false b c = refl

pub unripe_at_tick : (past : List Entry) (seat moment : ℕ) → unripe (after_tick past seat moment) ≡ filter (λ p. nat_lt moment p.ripe) (unripe past)
unripe_at_tick past seat moment =
    ap (sort_by ripens_before)
    (ap (filter (is_unripe (past ++ e ∷ []))) (posts_same past e refl)
    ∙ filter_congr (is_unripe (past ++ e ∷ [])) (λ p. is_unripe past p && nat_lt moment p.ripe) (posts past)
    (λ p. ap (λ o. is_delayed p && is_none o) (tick_from_push past e p.ripe)
    ∙ left (is_delayed p) (tick_from past p.ripe) (nat_le p.ripe moment)
    ∙ ap (λ b. is_unripe past p && b) (above p.ripe)))
    ∙ sort_unripe past (λ p. nat_lt moment p.ripe)
  where
    e : Entry
    e = record { seat = seat; kind = kinds.Tick moment }

    above : (n : ℕ) → not (nat_le n moment) ≡ nat_lt moment n
    above n = grind arith

    left : (delayed : Bool) (o : Option ℕ) (come : Bool)
        → (delayed && is_none (option_or o (cond come (Some (length past)) None))) ≡ ((delayed && is_none o) && not come)
    left false o come = refl
    left true None true = refl
    left true None false = refl
    left true (Some place) come = refl
