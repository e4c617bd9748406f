-- The arrivals: they rise in key, they are the accepted tasks that have keys, and the head of a sequence is the first of
-- them that is of it and may start.
-- Cited by `hist_model`, `pool_core`, `queue_laws`, `sequence_manager`, `situation`.
use Rattle.std.proofs.Common.{◌≡◌, ℕ, ◌+◌, ◌<◌, Bool, true, false, cond, eqb, List, [], ◌∷◌, ◌++◌, length}
use Rattle.std.proofs.Common.{map, refl, sym, ap, ◌∙◌, subst, Option, Some, None, inl, inr, arith}
use Rattle.std.specs.Prelude.{◌&&◌, ◌||◌, ◌⊎◌, nat_lt, nat_le, find, filter, is_none}
use Rattle.std.specs.Option.{option_map, option_or}
use Rattle.std.specs.List.{AllByRecursion, filter_map}
use Rattle.std.proofs.lemmas.Bool.{true≢false, lt-ltb, ltb-true, cases_order}
use Rattle.std.proofs.lemmas.Option.{none-some}
use Rattle.std.proofs.lemmas.List.{append-nil, length-append}
use Rattle.task_base.specs.Plan.{Plan}
use Rattle.task_base.specs.declared.entry.Entry.{Entry}
use Rattle.task_base.specs.declared.entry.Kind.{Kind}
use Rattle.task_base.specs.declared.entry.Kind.TheVariants as kinds
use Rattle.task_base.specs.declared.source.Key.{Key}
use Rattle.list_laws.specs.Sorts.{sort_by, Rises, Differ, SameMembers}
use Rattle.task_model.specs.Past.{fold_past}
use Rattle.task_model.specs.Time.{now_of, tick_from}
use Rattle.task_model.specs.Posts.{Posted, is_delayed, ripens_before, post_behind, posted_by, posts, main_posted_by, main_posts}
use Rattle.task_model.specs.Keys.{Ready, key_at, key_of, ready}
use Rattle.pool_laws.specs.Keys.{ready_behind, becomes_ripe, ripe_behind, arriving_by, arrivals, key_by, moves_ready, ready_at_tick_of, ripe_at_tick_of, ready_below, NoTickAhead}
use Rattle.task_model.specs.Sequences.{is_of, may_start, eligible, head_of}
use Rattle.list_laws.proofs.Filters.{filter_map_congr, filter_map-passing}
use Rattle.list_laws.proofs.Elements.{AllByRecursion-map, AllByRecursion-append, AllByRecursion-mapped, AllByRecursion-always, push_induction}
use Rattle.list_laws.specs.Lists.{Ranks}
use Rattle.list_laws.proofs.Ranks.{ranks_by, ranks_then_by, by_same, by_less}
use Rattle.list_laws.proofs.Members.{same_members-refl, same_members-trans, same_members-append, same_members-map, same_members-either}
use Rattle.list_laws.proofs.Sorts.{rises-sort_by, rises-append, rises-map, differ-filter, differ-push, least_is_first, same_members-sort_by}
use Rattle.task_base.specs.Entries.{entry_by as by}
use Rattle.task_model.proofs.Growth.{fold_past-push, posts_push, main_posts_push}
use Rattle.pool_laws.proofs.Choice.Least.{ranks_key}
use Rattle.pool_laws.proofs.Keys.Ready.{ready_same, ready_at_post, ready_at_delayed_post, ready_at_tick, posts_within, main_posts_within}

pub arrivals_push : (past : List Entry) (e : Entry) → arrivals (past ++ e ∷ []) ≡ arrivals past ++ arriving_by past e.kind
unfolding arrivals
arrivals_push past e = fold_past-push (λ before known x. known ++ arriving_by before x.kind) [] past e

-- The order in which tasks become ripe.

pub ranks_ripens : Ranks ripens_before
ranks_ripens = ranks_then_by (λ p. p.ripe) (λ p q. nat_lt p.place q.place) (ranks_by (λ p. p.place))

-- of two tasks of different places, one ripens before the other
pub one_ripens_first : (p q : Posted) → p.place < q.place → (ripens_before p q ≡ true) ⊎ (ripens_before q p ≡ true)
one_ripens_first p q earlier = by_order (cases_order p.ripe q.ripe)
  where
    by_order : (p.ripe ≡ q.ripe) ⊎ ((p.ripe < q.ripe) ⊎ (q.ripe < p.ripe)) → (ripens_before p q ≡ true) ⊎ (ripens_before q p ≡ true)
    by_order (inl same) = inl (by_same (λ r. r.ripe) (λ a b. nat_lt a.place b.place) p q same ∙ lt-ltb p.place q.place earlier)
    by_order (inr (inl less)) = inl (by_less (λ r. r.ripe) (λ a b. nat_lt a.place b.place) p q less)
    by_order (inr (inr more)) = inr (by_less (λ r. r.ripe) (λ a b. nat_lt a.place b.place) q p more)

-- each is posted behind those before it
differ_push : (past : List Entry) (xs added : List Posted) → AllByRecursion (λ p. nat_lt p.place (length past) ≡ true) xs
    → ((added ≡ []) ⊎ ((p : Posted) × (added ≡ p ∷ []) × (p.place ≡ length past))) → Differ ripens_before xs → Differ ripens_before (xs ++ added)
differ_push past xs added within (inl none) differ = subst (Differ ripens_before) (sym (ap (λ ys. xs ++ ys) none ∙ append-nil xs)) differ
differ_push past xs added within (inr new) differ =
    subst (λ ys. Differ ripens_before (xs ++ ys)) (sym new.1)
    (differ-push ripens_before xs new.0 differ
    (AllByRecursion-map (λ p. nat_lt p.place (length past) ≡ true) (λ p. (ripens_before p new.0 ≡ true) ⊎ (ripens_before new.0 p ≡ true)) xs
    (λ p is. let lt : p.place < length past = ltb-true p.place (length past) is in
    let at : new.0.place ≡ length past = new.2 in one_ripens_first p new.0 (omega (arith, lt, at))) within))

-- of two accepted tasks, one ripens before the other
pub posts_differ : (past : List Entry) → Differ ripens_before (posts past)
unfolding posts fold_past
posts_differ = push_induction (λ past. Differ ripens_before (posts past)) tt
    (λ past e differ. subst (Differ ripens_before) (sym (posts_push past e))
    (differ_push past (posts past) (posted_by past e.kind) (posts_within past) (added past e.kind) differ))
  where
    added : (past : List Entry) (kind : Kind)
        → (posted_by past kind ≡ []) ⊎ ((p : Posted) × (posted_by past kind ≡ p ∷ []) × (p.place ≡ length past))
    added past (kinds.Post task runner delay true) = inr (post_behind past task runner delay, refl, refl)
    added past kind = inl refl

pub main_posts_differ : (past : List Entry) → Differ ripens_before (main_posts past)
unfolding main_posts fold_past
main_posts_differ = push_induction (λ past. Differ ripens_before (main_posts past)) tt
    (λ past e differ. subst (Differ ripens_before) (sym (main_posts_push past e))
    (differ_push past (main_posts past) (main_posted_by past e.kind) (main_posts_within past) (added past e.kind) differ))
  where
    added : (past : List Entry) (kind : Kind)
        → (main_posted_by past kind ≡ []) ⊎ ((p : Posted) × (main_posted_by past kind ≡ p ∷ []) × (p.place ≡ length past))
    added past (kinds.Main task queue delay true) = inr (post_behind past task queue delay, refl, refl)
    added past kind = inl refl

-- What one more entry does to the arrivals.

pub arrivals_same : (past : List Entry) (e : Entry) → moves_ready e.kind ≡ false → arrivals (past ++ e ∷ []) ≡ arrivals past
arrivals_same past e quiet = arrivals_push past e ∙ ap (λ xs. arrivals past ++ xs) (none e.kind quiet) ∙ append-nil (arrivals past)
  where
    none : (kind : Kind) → moves_ready kind ≡ false → arriving_by past kind ≡ []
    none (kinds.Post task runner delay true) h = absurd (true≢false h)
    none (kinds.Tick now) h = absurd (true≢false h)
    none kind h = refl

pub arrivals_at_post : (past : List Entry) (e : Entry) (task runner delay : ℕ) → e.kind ≡ kinds.Post task runner delay true → nat_lt 0 delay ≡ false
    → arrivals (past ++ e ∷ []) ≡ arrivals past ++ ready_behind past task runner delay ∷ []
arrivals_at_post past e task runner delay is immediate =
    arrivals_push past e
    ∙ ap (λ kind. arrivals past ++ arriving_by past kind) is
    ∙ ap (λ (b : Bool). arrivals past ++ cond b [] (ready_behind past task runner delay ∷ [])) immediate

pub arrivals_at_delayed_post : (past : List Entry) (e : Entry) (task runner delay : ℕ) → e.kind ≡ kinds.Post task runner delay true → nat_lt 0 delay ≡ true
    → arrivals (past ++ e ∷ []) ≡ arrivals past
arrivals_at_delayed_post past e task runner delay is delayed =
    arrivals_push past e
    ∙ ap (λ kind. arrivals past ++ arriving_by past kind) is
    ∙ ap (λ (b : Bool). arrivals past ++ cond b [] (ready_behind past task runner delay ∷ [])) delayed
    ∙ append-nil (arrivals past)

pub arrivals_at_tick : (past : List Entry) (e : Entry) (moment : ℕ) → e.kind ≡ kinds.Tick moment → arrivals (past ++ e ∷ [])
    ≡ arrivals past ++ map (ripe_behind past) (sort_by ripens_before (filter (becomes_ripe past moment) (posts past)))
arrivals_at_tick past e moment is = arrivals_push past e ∙ ap (λ kind. arrivals past ++ arriving_by past kind) is

-- The arrivals rise in key.

-- what arrives at an entry has its key there
arriving_here : (past : List Entry) (kind : Kind) → AllByRecursion (λ r. r.key.place ≡ length past) (arriving_by past kind)
arriving_here past (kinds.Post task runner delay true) = by_order (nat_lt 0 delay)
  where
    by_order : (b : Bool) → AllByRecursion (λ r. r.key.place ≡ length past) (cond b [] (ready_behind past task runner delay ∷ []))
    by_order true = tt
    by_order false = (refl, tt)
arriving_here past (kinds.Tick moment) = AllByRecursion-mapped (λ r. r.key.place ≡ length past) (ripe_behind past) ripe
    (AllByRecursion-always (λ p. length past ≡ length past) ripe (λ p. refl))
  where
    ripe : List Posted
    ripe = sort_by ripens_before (filter (becomes_ripe past moment) (posts past))
arriving_here past kind = tt

-- each has its key in the past
pub arrivals_within : (past : List Entry) → AllByRecursion (λ r. r.key.place < length past) (arrivals past)
unfolding arrivals fold_past
arrivals_within = push_induction (λ past. AllByRecursion (λ r. r.key.place < length past) (arrivals past)) tt
    (λ past e within. subst (AllByRecursion (λ r. r.key.place < length (past ++ e ∷ []))) (sym (arrivals_push past e))
    (AllByRecursion-append (λ r. r.key.place < length (past ++ e ∷ [])) (arrivals past) (arriving_by past e.kind)
    (AllByRecursion-map (λ r. r.key.place < length past) (λ r. r.key.place < length (past ++ e ∷ [])) (arrivals past)
    (λ r lt. omega (arith, lt, length-append past (e ∷ []))) within)
    (AllByRecursion-map (λ r. r.key.place ≡ length past) (λ r. r.key.place < length (past ++ e ∷ [])) (arriving_by past e.kind)
    (λ r at. omega (arith, at, length-append past (e ∷ []))) (arriving_here past e.kind))))

-- what arrives at an entry rises in key
arriving_rises : (past : List Entry) (kind : Kind) → Rises ready_below (arriving_by past kind)
arriving_rises past (kinds.Post task runner delay true) = by_order (nat_lt 0 delay)
  where
    by_order : (b : Bool) → Rises ready_below (cond b [] (ready_behind past task runner delay ∷ []))
    by_order true = tt
    by_order false = (tt, tt)
arriving_rises past (kinds.Tick moment) = rises-map ripens_before ready_below (ripe_behind past) (sort_by ripens_before newly) below
    (rises-sort_by ripens_before ranks_ripens newly (differ-filter ripens_before (becomes_ripe past moment) (posts past) (posts_differ past)))
  where
    newly : List Posted
    newly = filter (becomes_ripe past moment) (posts past)

    below : (p q : Posted) → ripens_before p q ≡ true → ready_below (ripe_behind past p) (ripe_behind past q) ≡ true
    below p q before = by_same (λ r. r.key.place) (λ a b. nat_lt a.key.ripe b.key.ripe || (eqb a.key.ripe b.key.ripe && nat_lt a.key.post b.key.post))
        (ripe_behind past p) (ripe_behind past q) refl ∙ before
arriving_rises past kind = tt

pub arrivals_rise : (past : List Entry) → Rises ready_below (arrivals past)
unfolding arrivals fold_past
arrivals_rise = push_induction (λ past. Rises ready_below (arrivals past)) tt
    (λ past e rises. subst (Rises ready_below) (sym (arrivals_push past e))
    (rises-append ready_below (arrivals past) (arriving_by past e.kind) rises (arriving_rises past e.kind)
    (AllByRecursion-map (λ r. r.key.place < length past) (λ r. AllByRecursion (λ q. ready_below r q ≡ true) (arriving_by past e.kind)) (arrivals past)
    (λ r lt. AllByRecursion-map (λ q. q.key.place ≡ length past) (λ q. ready_below r q ≡ true) (arriving_by past e.kind)
    (λ q at. first past r q (omega (arith, lt, at))) (arriving_here past e.kind)) (arrivals_within past))))
  where
    first : (past : List Entry) (r q : Ready) → r.key.place < q.key.place → ready_below r q ≡ true
    first past r q lt = by_less (λ x. x.key.place) (λ a b. nat_lt a.key.ripe b.key.ripe || (eqb a.key.ripe b.key.ripe && nat_lt a.key.post b.key.post)) r q lt

-- The arrivals are the accepted tasks that have keys.

pub arrivals_are_ready_at_start : SameMembers (arrivals []) (ready [])
unfolding arrivals ready posts fold_past
arrivals_are_ready_at_start = same_members-refl []

-- at a tick those arrive that become ripe
arriving_is_ripe : (past : List Entry) (moment : ℕ) → SameMembers (ready past ++ arriving_by past (kinds.Tick moment)) (ready_at_tick_of past moment)
unfolding ready
arriving_is_ripe past moment =
    same_members-trans (ready past ++ arriving_by past (kinds.Tick moment)) (ready past ++ filter_map (ripe_at_tick_of past moment) (posts past))
    (ready_at_tick_of past moment)
    (same_members-append (ready past) (ready past) (arriving_by past (kinds.Tick moment)) (filter_map (ripe_at_tick_of past moment) (posts past))
    (same_members-refl (ready past))
    (subst (SameMembers (arriving_by past (kinds.Tick moment)))
    (sym (filter_map-passing (ripe_at_tick_of past moment) (becomes_ripe past moment) (ripe_behind past) (posts past)
    (λ p. made p (is_delayed p) (tick_from past p.ripe) (nat_le p.ripe moment))))
    (same_members-map (ripe_behind past) (sort_by ripens_before newly) newly (same_members-sort_by ripens_before newly))))
    (subst (SameMembers (ready past ++ filter_map (ripe_at_tick_of past moment) (posts past)))
    (filter_map_congr (λ p. option_or (option_map (λ key. record { posted = p; key = key }) (key_of past p)) (ripe_at_tick_of past moment p))
    (λ p. option_map (λ key. record { posted = p; key = key }) (option_or (key_of past p) (key_by past p (kinds.Tick moment)))) (posts past)
    (λ p. either p (key_of past p)))
    (same_members-either (λ p. option_map (λ key. record { posted = p; key = key }) (key_of past p)) (ripe_at_tick_of past moment) (posts past)
    (λ p r. apart p (key_of past p) r)))
  where
    newly : List Posted
    newly = filter (becomes_ripe past moment) (posts past)

    with : Posted → Key → Ready
    with p key = record { posted = p; key = key }

    at_tick : Posted → ℕ → Key
    at_tick p place = record { place = place; ripe = p.ripe; post = p.place }

    made : (p : Posted) (delayed : Bool) (ticked : Option ℕ) (come : Bool)
        → cond (is_none (cond delayed (option_map (at_tick p) ticked) (Some (key_at p.place))))
        (option_map (with p) (cond delayed (option_map (at_tick p) (cond come (Some (length past)) None)) None)) None
        ≡ cond (delayed && come && is_none ticked) (Some (ripe_behind past p)) None
    made p false ticked come = refl
    made p true None true = refl
    made p true None false = refl
    made p true (Some n) true = refl
    made p true (Some n) false = refl

    either : (p : Posted) (o : Option Key) → option_or (option_map (with p) o) (cond (is_none o) (option_map (with p) (key_by past p (kinds.Tick moment))) None)
        ≡ option_map (with p) (option_or o (key_by past p (kinds.Tick moment)))
    either p None = refl
    either p (Some key) = refl

    apart : (p : Posted) (o : Option Key) (r : Ready) → option_map (with p) o ≡ Some r
        → cond (is_none o) (option_map (with p) (key_by past p (kinds.Tick moment))) None ≡ None
    apart p None r h = absurd (none-some r h)
    apart p (Some key) r h = refl

pub arrivals_are_ready_grows : (past : List Entry) (e : Entry) → NoTickAhead past → SameMembers (arrivals past) (ready past)
    → SameMembers (arrivals (past ++ e ∷ [])) (ready (past ++ e ∷ []))
arrivals_are_ready_grows past e none same = by_kind e.kind refl
  where
    kept : arrivals (past ++ e ∷ []) ≡ arrivals past → ready (past ++ e ∷ []) ≡ ready past → SameMembers (arrivals (past ++ e ∷ [])) (ready (past ++ e ∷ []))
    kept one two = rw (one, two) same

    posted : (task runner delay : ℕ) → e.kind ≡ kinds.Post task runner delay true → (b : Bool) → nat_lt 0 delay ≡ b
        → SameMembers (arrivals (past ++ e ∷ [])) (ready (past ++ e ∷ []))
    posted task runner delay is false immediate =
        rw (arrivals_at_post past e task runner delay is immediate, ready_at_post past e task runner delay is immediate)
        (same_members-append (arrivals past) (ready past) (ready_behind past task runner delay ∷ []) (ready_behind past task runner delay ∷ []) same
        (same_members-refl (ready_behind past task runner delay ∷ [])))
    posted task runner delay is true delayed =
        let positive : 0 < delay = ltb-true 0 delay delayed in
        kept (arrivals_at_delayed_post past e task runner delay is delayed)
        (ready_at_delayed_post past e task runner delay is delayed (none (now_of past + delay) (omega (arith, positive))))

    by_kind : (kind : Kind) → e.kind ≡ kind → SameMembers (arrivals (past ++ e ∷ [])) (ready (past ++ e ∷ []))
    by_kind (kinds.Post task runner delay true) is = posted task runner delay is (nat_lt 0 delay) refl
    by_kind (kinds.Tick moment) is =
        rw (arrivals_at_tick past e moment is, ready_at_tick past e moment is)
        (same_members-trans (arrivals past ++ arriving_by past (kinds.Tick moment)) (ready past ++ arriving_by past (kinds.Tick moment))
        (ready_at_tick_of past moment)
        (same_members-append (arrivals past) (ready past) (arriving_by past (kinds.Tick moment)) (arriving_by past (kinds.Tick moment)) same
        (same_members-refl (arriving_by past (kinds.Tick moment))))
        (arriving_is_ripe past moment))
    by_kind kind is = kept (arrivals_same past e (ap moves_ready is)) (ready_same past e (ap moves_ready is))

-- The head of a sequence is the first arrival of it that may start.

pub head_is_first_arrival : (script : Plan) (past : List Entry) (s : ℕ) → SameMembers (arrivals past) (ready past)
    → head_of script past s ≡ find (λ r. is_of script s r.posted && may_start script past r.posted) (arrivals past)
unfolding head_of eligible
head_is_first_arrival script past s same = least_is_first ready_below (λ r. is_of script s r.posted && may_start script past r.posted) (ready past)
    (arrivals past)
    (ranks_key (λ r. r.key)) (arrivals_rise past) same

-- Two short histories, by computing.

rows : List Ready → List (ℕ × ℕ × ℕ × ℕ)
rows rs = map (λ r. (r.posted.task, r.key.place, r.key.ripe, r.key.post)) rs

-- an immediate task arrives at its post, a refused one never; at a tick those arrive that are ripe, the earliest first, and
-- those of one moment by their posts
worked_ticks : rows (arrivals (by 0 (kinds.Post 7 0 5 true) ∷ by 0 (kinds.Post 8 0 3 true) ∷ by 0 (kinds.Post 9 0 0 true) ∷ by 0 (kinds.Post 10 1 3 true)
    ∷ by 0 (kinds.Post 11 0 9 true) ∷ by 0 (kinds.Tick 6) ∷ by 0 (kinds.Post 12 0 0 false) ∷ by 0 (kinds.Tick 9) ∷ []))
    ≡ (9, 2, 0, 2) ∷ (8, 5, 3, 1) ∷ (10, 5, 3, 3) ∷ (7, 5, 5, 0) ∷ (11, 7, 9, 4) ∷ []
unfolding arrivals posts fold_past now_of tick_from rows
worked_ticks = refl

-- a delay counts from the moment of the post, and a tick that comes again gives no second key
worked_again : rows (arrivals (by 0 (kinds.Tick 4) ∷ by 0 (kinds.Post 1 0 2 true) ∷ by 0 (kinds.Tick 5) ∷ by 0 (kinds.Post 2 0 1 true)
    ∷ by 0 (kinds.Tick 6) ∷ by 0 (kinds.Tick 6) ∷ by 0 (kinds.Post 3 0 0 true) ∷ []))
    ≡ (1, 4, 6, 1) ∷ (2, 4, 6, 3) ∷ (3, 6, 0, 6) ∷ []
unfolding arrivals posts fold_past now_of tick_from rows
worked_again = refl
