-- One more entry after two pasts in the same situation: the tasks that are not ripe.
-- Cited by `Onward/Whole`, `log_count`.
use Rattle.std.proofs.Common.{◌≡◌, ℕ, ◌+◌, ◌<◌, Bool, true, false, cond, List, [], ◌∷◌, ◌++◌, length, map, refl, sym, ap, ◌∙◌, Option, Some, None, inl, inr}
use Rattle.std.proofs.Common.{arith}
use Rattle.std.specs.Prelude.{◌&&◌, ◌||◌, not, nat_le, nat_lt, is_none, filter, ◌⊎◌}
use Rattle.std.specs.Option.{option_or}
use Rattle.std.specs.List.{AllByRecursion}
use Rattle.std.proofs.lemmas.Bool.{cases_order, false_from_ne_true, le-leb, leb-true, lt-ltb, ltb-true}
use Rattle.list_laws.proofs.Ranks.{by_less, by_more, by_same}
use Rattle.std.proofs.lemmas.List.{append-nil}
use Rattle.std.proofs.lemmas.List.Elements.{filter-append}
use Rattle.task_base.specs.Plan.{Plan}
use Rattle.task_base.specs.declared.entry.Entry.{Entry}
use Rattle.task_base.specs.declared.entry.Kind.{Kind}
use Rattle.task_base.specs.declared.entry.Kind.TheVariants as kinds
use Rattle.task_traits.specs.Behaviour.{forbids}
use Rattle.list_laws.specs.Sorts.{insert_by, sort_by}
use Rattle.list_laws.proofs.Elements.{AllByRecursion-map, AllByRecursion-filter}
use Rattle.list_laws.proofs.Filters.{filter_congr, filter-filter, filter-map}
use Rattle.list_laws.proofs.Rises.{sort_by-filter, sort_by-push}
use Rattle.list_laws.proofs.Sorts.{differ-filter, AllByRecursion-sort_by}
use Rattle.task_model.specs.Time.{now_of, is_tick_from, tick_from}
use Rattle.task_model.specs.Phase.{phase_of}
use Rattle.task_model.specs.Posts.{Posted, is_delayed, is_taken, takes, posts, posted_by, post_behind, ripens_before}
use Rattle.task_model.specs.Refusal.{effective_at}
use Rattle.task_model.specs.Sequences.{may_start}
use Rattle.task_model.proofs.Growth.{is_taken_push, posts_push}
use Rattle.pool_laws.specs.Keys.{NoTickAhead, tick_by}
use Rattle.pool_laws.proofs.Keys.Arrivals.{ranks_ripens, posts_differ, one_ripens_first}
use Rattle.pool_laws.proofs.Keys.Ready.{tick_from_push, posts_within}
use Rattle.situation.specs.Situation.{is_unripe, without_place, unripe_of}
use Rattle.situation.specs.Onward.{task_stays, unripe_stays, not_later, put_in, new_unripe}
use Rattle.situation.proofs.Onward.Line.{may_start_push}

map_insert_in : {A B : Type 0} (below : A → A → Bool) (above : B → B → Bool) (f : A → B) (x : A) (ys : List A)
    → AllByRecursion (λ y. below y x ≡ above (f y) (f x)) ys → map f (insert_by below x ys) ≡ insert_by above (f x) (map f ys)
map_insert_in below above f x [] same = refl
map_insert_in {A = A} {B = B} below above f x (y ∷ ys) same =
    by_test (below y x)
    ∙ ap (λ b. cond b (f y ∷ map f (insert_by below x ys)) (f x ∷ f y ∷ map f ys)) same.0
    ∙ ap (λ zs. cond (above (f y) (f x)) (f y ∷ zs) (f x ∷ f y ∷ map f ys)) (map_insert_in below above f x ys same.1)
  where
    by_test : (b : Bool) → map f (cond b (y ∷ insert_by below x ys) (x ∷ y ∷ ys)) ≡ cond b (f y ∷ map f (insert_by below x ys)) (f x ∷ f y ∷ map f ys)
    by_test true = refl
    by_test false = refl

module _ (script : Plan) (past : List Entry) (e : Entry) where
  test_push : (p : Posted) → is_unripe script (past ++ e ∷ []) p
      ≡ (is_unripe script past p && unripe_stays script (phase_of (past ++ e ∷ [])) e.kind (without_place p))
  test_push p = ap (λ o. is_delayed p && is_none o && may_start script (past ++ e ∷ []) p) (tick_from_push past e p.ripe)
      ∙ ap (λ b. is_delayed p && is_none (option_or (tick_from past p.ripe) (tick_by past p.ripe e.kind)) && b) (may_start_push script past e p)
      ∙ by_tests (is_delayed p) (tick_from past p.ripe) (is_tick_from p.ripe e.kind) (may_start script past p)
      (task_stays script (phase_of (past ++ e ∷ [])) e.kind p.task p.home p.delay)
    where
      by_tests : (d : Bool) (o : Option ℕ) (t m s : Bool)
          → (d && is_none (option_or o (cond t (Some (length past)) None)) && (m && s)) ≡ ((d && is_none o && m) && (not t && s))
      by_tests false o t m s = refl
      by_tests true (Some n) t m s = refl
      by_tests true None true true s = refl
      by_tests true None true false s = refl
      by_tests true None false true s = refl
      by_tests true None false false s = refl

  kept : List Posted
  kept = filter (is_unripe script (past ++ e ∷ [])) (posts past)

  -- those that stay, in order
  stay : map without_place (sort_by ripens_before (filter (is_unripe script (past ++ e ∷ [])) (posts past)))
      ≡ filter (unripe_stays script (phase_of (past ++ e ∷ [])) e.kind) (unripe_of script past)
  unfolding unripe_of
  stay =
      ap (λ ps. map without_place (sort_by ripens_before ps)) (filter_congr (is_unripe script (past ++ e ∷ []))
      (λ p. is_unripe script past p && unripe_stays script (phase_of (past ++ e ∷ [])) e.kind (without_place p)) (posts past) test_push
      ∙ sym (filter-filter (λ p. unripe_stays script (phase_of (past ++ e ∷ [])) e.kind (without_place p)) (is_unripe script past) (posts past)))
      ∙ ap (map without_place) (sort_by-filter ripens_before ranks_ripens (λ p. unripe_stays script (phase_of (past ++ e ∷ [])) e.kind (without_place p))
      (filter (is_unripe script past) (posts past)) (differ-filter ripens_before (is_unripe script past) (posts past) (posts_differ past)))
      ∙ sym (filter-map (unripe_stays script (phase_of (past ++ e ∷ [])) e.kind) without_place (sort_by ripens_before (filter (is_unripe script past)
      (posts past))))

  -- and one more
  one_more : (p : Posted) → p.place ≡ length past
      → map without_place (sort_by ripens_before (filter (is_unripe script (past ++ e ∷ [])) (posts past) ++ p ∷ []))
      ≡ insert_by not_later (without_place p) (map without_place (sort_by ripens_before (filter (is_unripe script (past ++ e ∷ [])) (posts past))))
  unfolding kept
  one_more p at =
      ap (map without_place) (sort_by-push ripens_before ranks_ripens kept p
      (differ-filter ripens_before (is_unripe script (past ++ e ∷ [])) (posts past) (posts_differ past))
      (AllByRecursion-map (λ q. nat_lt q.place (length past) ≡ true) (λ q. (ripens_before q p ≡ true) ⊎ (ripens_before p q ≡ true)) kept
      (λ q lt. one_ripens_first q p (before q lt)) within))
      ∙ map_insert_in ripens_before not_later without_place p (sort_by ripens_before kept)
      (AllByRecursion-sort_by (λ q. ripens_before q p ≡ not_later (without_place q) (without_place p)) ripens_before kept
      (AllByRecursion-map (λ q. nat_lt q.place (length past) ≡ true) (λ q. ripens_before q p ≡ not_later (without_place q) (without_place p)) kept
      (λ q lt. by_ripe q (before q lt)) within))
    where
      before : (q : Posted) → nat_lt q.place (length past) ≡ true → q.place < p.place
      before q lt = let less : q.place < length past = ltb-true q.place (length past) lt in omega (arith, less, at)

      within : AllByRecursion (λ q. nat_lt q.place (length past) ≡ true) kept
      within = AllByRecursion-filter (λ q. nat_lt q.place (length past) ≡ true) (is_unripe script (past ++ e ∷ [])) (posts past) (posts_within past)

      by_ripe : (q : Posted) → q.place < p.place → ripens_before q p ≡ not_later (without_place q) (without_place p)
      by_ripe q less = by_order (cases_order q.ripe p.ripe)
        where
          by_order : (q.ripe ≡ p.ripe) ⊎ ((q.ripe < p.ripe) ⊎ (p.ripe < q.ripe)) → ripens_before q p ≡ not_later (without_place q) (without_place p)
          by_order (inl same) = by_same (λ r. r.ripe) (λ a b. nat_lt a.place b.place) q p same ∙ lt-ltb q.place p.place less
              ∙ sym (le-leb q.ripe p.ripe (omega (arith, same)))
          by_order (inr (inl sooner)) = by_less (λ r. r.ripe) (λ a b. nat_lt a.place b.place) q p sooner ∙ sym (le-leb q.ripe p.ripe (omega (arith, sooner)))
          by_order (inr (inr later)) = by_more (λ r. r.ripe) (λ a b. nat_lt a.place b.place) q p later
              ∙ sym (false_from_ne_true (nat_le q.ripe p.ripe) (λ h. absurd (omega (arith, leb-true q.ripe p.ripe h, later))))

  -- a task that is posted now was not taken, and no tick was ahead
  pub unripe_push : NoTickAhead past → ((task runner delay : ℕ) → e.kind ≡ kinds.Post task runner delay true → is_taken past task ≡ false)
      → unripe_of script (past ++ e ∷ []) ≡ put_in (new_unripe script (now_of past) (phase_of (past ++ e ∷ [])) e.kind)
      (filter (unripe_stays script (phase_of (past ++ e ∷ [])) e.kind) (unripe_of script past))
  unfolding unripe_of
  unripe_push none_ahead fresh =
      ap (λ ps. map without_place (sort_by ripens_before (filter (is_unripe script (past ++ e ∷ [])) ps))) (posts_push past e)
      ∙ ap (λ ps. map without_place (sort_by ripens_before ps)) (filter-append (is_unripe script (past ++ e ∷ [])) (posts past) (posted_by past e.kind))
      ∙ by_kind e.kind refl
      ∙ ap (put_in (new_unripe script (now_of past) (phase_of (past ++ e ∷ [])) e.kind)) stay
    where
      none_more : map without_place (sort_by ripens_before (filter (is_unripe script (past ++ e ∷ [])) (posts past) ++ []))
          ≡ map without_place (sort_by ripens_before (filter (is_unripe script (past ++ e ∷ [])) (posts past)))
      none_more = ap (λ ps. map without_place (sort_by ripens_before ps)) (append-nil (filter (is_unripe script (past ++ e ∷ [])) (posts past)))

      passes : (task runner delay : ℕ) → e.kind ≡ kinds.Post task runner delay true → is_unripe script (past ++ e ∷ []) (post_behind past task runner delay)
          ≡ (nat_lt 0 delay && not (forbids (phase_of (past ++ e ∷ [])) (effective_at script runner delay)))
      passes task runner delay is = by_delay (nat_lt 0 delay) refl
        where
          by_delay : (b : Bool) → nat_lt 0 delay ≡ b
              → (b && is_none (tick_from (past ++ e ∷ []) (now_of past + delay)) && may_start script (past ++ e ∷ []) (post_behind past task runner delay))
              ≡ (b && not (forbids (phase_of (past ++ e ∷ [])) (effective_at script runner delay)))
          by_delay false h = refl
          by_delay true h =
              let some : 0 < delay = ltb-true 0 delay h in
              let none : tick_from past (now_of past + delay) ≡ None = none_ahead (now_of past + delay) (omega (arith, some)) in
              let still : tick_from (past ++ e ∷ []) (now_of past + delay) ≡ None =
              tick_from_push past e (now_of past + delay) ∙ ap (λ o. option_or o (tick_by past (now_of past + delay) e.kind)) none
              ∙ ap (tick_by past (now_of past + delay)) is in
              let untaken : is_taken (past ++ e ∷ []) task ≡ false =
              is_taken_push past e task ∙ ap (λ b. b || takes task e.kind) (fresh task runner delay is) ∙ ap (takes task) is in
              rw (still, untaken) refl

      by_test : (task runner delay : ℕ) (b : Bool)
          → map without_place (sort_by ripens_before (filter (is_unripe script (past ++ e ∷ [])) (posts past) ++ cond b
          (post_behind past task runner delay ∷ []) []))
          ≡ put_in (cond b (Some (record { task = task; home = runner; delay = delay; ripe = now_of past + delay })) None)
          (map without_place (sort_by ripens_before (filter (is_unripe script (past ++ e ∷ [])) (posts past))))
      by_test task runner delay true = one_more (post_behind past task runner delay) refl
      by_test task runner delay false = none_more

      by_kind : (kind : Kind) → e.kind ≡ kind
          → map without_place (sort_by ripens_before (filter (is_unripe script (past ++ e ∷ [])) (posts past)
          ++ filter (is_unripe script (past ++ e ∷ [])) (posted_by past kind)))
          ≡ put_in (new_unripe script (now_of past) (phase_of (past ++ e ∷ [])) kind)
          (map without_place (sort_by ripens_before (filter (is_unripe script (past ++ e ∷ [])) (posts past))))
      by_kind (kinds.Post task runner delay true) is = rw (passes task runner delay is)
          (by_test task runner delay (nat_lt 0 delay && not (forbids (phase_of (past ++ e ∷ [])) (effective_at script runner delay))))
      by_kind kind is = none_more
