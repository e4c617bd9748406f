-- The layers of paths of situations are the layers of pasts.
-- Cited by `count_logs`.
use Rattle.std.proofs.Common.{◌≡◌, ℕ, zero, suc, ◌+◌, ◌-◌, ◌<◌, ◌≤◌, Bool, true, false, cond, if◌then◌else◌, List, [], ◌∷◌}
use Rattle.std.proofs.Common.{◌++◌, length, map, refl, sym, ap, subst, ◌∙◌, arith}
use Rattle.std.specs.Prelude.{fold, sum_by}
use Rattle.std.specs.List.{range_with_len}
use Rattle.std.proofs.lemmas.Bool.{false≢true}
use Rattle.std.proofs.lemmas.List.{length-map, map-append}
use Rattle.std.proofs.lemmas.List.Sums.{sum_by-append, sum_by-cons}
use Rattle.task_base.specs.Plan.{Plan}
use Rattle.script_model.specs.Bound.{events_bound_of}
use Rattle.script_model.specs.Laws.Sound.{IsSound}
use Rattle.list_laws.proofs.Ranges.{range_split}
use Rattle.situation.specs.Counts.{whole_logs}
use Rattle.situation.specs.Situation.{Situation, is_pool_script, situation_of}
use Rattle.situation_key.specs.Words.{key_of}
use Rattle.situation_key.proofs.Apart.{told_by_key}
use Rattle.log_count.specs.Equal.{same_situation}
use Rattle.log_count.specs.Layers as logs
use Rattle.log_count.specs.Layers.{Counted, count_of_logs, found_after, onward, whole_of_layer}
use Rattle.log_count.specs.Ways.{is_whole_in}
use Rattle.log_count.proofs.Equal.{same_is, same_itself}
use Rattle.log_count.proofs.Layers.{logs_are_counted}
use Rattle.key_tally.specs.Counts.{with_more}
use Rattle.path_count.specs.Answers as paths
use Rattle.path_count.specs.Layers.{ending, gathered, layer, paths_below, spread}
use Rattle.log_counting.specs.Answers.{AreFew, count_below}
use Rattle.log_counting.specs.Keys.{same_key}
use lib.Pointwise.{bytes_decides}

-- the counts of situations as pairs
abbrev pair : Counted → Situation × ℕ
pair c = (c.situation, c.pasts)

abbrev pairs : List Counted → List (Situation × ℕ)
pairs counts = map pair counts

-- both tests tell equal situations
same_test : (a b : Situation) → same_key a b ≡ same_situation b a
same_test a b = by_tests (same_key a b) (same_situation b a) refl refl
  where
    by_tests : (k s : Bool) → same_key a b ≡ k → same_situation b a ≡ s → k ≡ s
    by_tests true true is other = refl
    by_tests false false is other = refl
    by_tests true false is other =
        let same : a ≡ b = told_by_key a b ((bytes_decides (key_of a) (key_of b)).0 is) in
        absurd (false≢true (sym other ∙ ap (λ x. same_situation b x) same ∙ same_itself b))
    by_tests false true is other =
        absurd (false≢true (sym is ∙ (bytes_decides (key_of a) (key_of b)).1 (ap key_of (sym (same_is b a other)))))

more_pairs : (more : Counted) (known : List Counted) → with_more same_key more.situation more.pasts (pairs known) ≡ pairs (logs.with_more more known)
more_pairs more [] = refl
more_pairs more (c ∷ known) =
    ap (λ b. cond b ((c.situation, c.pasts + more.pasts) ∷ pairs known) (pair c ∷ with_more same_key more.situation more.pasts (pairs known)))
    (same_test more.situation c.situation)
    ∙ by_test (same_situation c.situation more.situation) (more_pairs more known)
  where
    by_test : (b : Bool) → with_more same_key more.situation more.pasts (pairs known) ≡ pairs (logs.with_more more known)
        → cond b ((c.situation, c.pasts + more.pasts) ∷ pairs known) (pair c ∷ with_more same_key more.situation more.pasts (pairs known))
        ≡ pairs (cond b (record { situation = c.situation; pasts = c.pasts + more.pasts } ∷ known) (c ∷ logs.with_more more known))
    by_test true rest = refl
    by_test false rest = ap (λ l. pair c ∷ l) rest

gathered_pairs : (found known : List Counted)
    → fold (λ counts (c : Situation × ℕ). with_more same_key c.0 c.1 counts) (pairs known) (pairs found) ≡ pairs (fold (λ counts c. logs.with_more c
    counts) known found)
gathered_pairs [] known = refl
gathered_pairs (c ∷ found) known =
    ap (λ l. fold (λ counts (e : Situation × ℕ). with_more same_key e.0 e.1 counts) l (pairs found)) (more_pairs c known)
    ∙ gathered_pairs found (logs.with_more c known)

module _ (script : Plan) (tick : Situation → ℕ) where
  led_pairs : (n : ℕ) (ss : List Situation) → map (λ s. (s, n)) ss ≡ pairs (map (λ s. record { situation = s; pasts = n }) ss)
  led_pairs n [] = refl
  led_pairs n (s ∷ ss) = ap (λ l. (s, n) ∷ l) (led_pairs n ss)

  spread_pairs : (counts : List Counted) → spread (onward script tick) (pairs counts) ≡ pairs (found_after script tick counts)
  spread_pairs [] = refl
  spread_pairs (c ∷ counts) =
      ap (λ l. l ++ spread (onward script tick) (pairs counts)) (led_pairs c.pasts (onward script tick c.situation))
      ∙ ap (λ l. pairs (map (λ s. record { situation = s; pasts = c.pasts }) (onward script tick c.situation)) ++ l) (spread_pairs counts)
      ∙ sym (map-append pair (map (λ s. record { situation = s; pasts = c.pasts }) (onward script tick c.situation)) (found_after script tick counts))

  layer_pairs : (n : ℕ) → layer same_key (onward script tick) (situation_of script []) n ≡ pairs (logs.layer script tick n)
  unfolding layer logs.layer
  layer_pairs zero = refl
  layer_pairs (suc n) =
      ap (λ l. gathered same_key (spread (onward script tick) l)) (layer_pairs n)
      ∙ ap (gathered same_key) (spread_pairs (logs.layer script tick n))
      ∙ gathered_pairs (found_after script tick (logs.layer script tick n)) []

  layer_long : (n : ℕ) → length (layer same_key (onward script tick) (situation_of script []) n) ≡ length (logs.layer script tick n)
  layer_long n = ap length (layer_pairs n) ∙ length-map (logs.layer script tick n) pair

  ending_pairs : (counts : List Counted) → ending (is_whole_in script) (pairs counts) ≡ whole_of_layer script counts
  ending_pairs [] = refl
  ending_pairs (c ∷ counts) =
      sum_by-cons (λ (e : Situation × ℕ). if is_whole_in script e.0 then e.1 else 0) (pair c) (pairs counts)
      ∙ ap (λ n. (if is_whole_in script c.situation then c.pasts else 0) + n) (ending_pairs counts)
      ∙ sym (sum_by-cons (λ (e : Counted). if is_whole_in script e.situation then e.pasts else 0) c counts)

  sums_alike : (f g : ℕ → ℕ) → ((n : ℕ) → f n ≡ g n) → (ns : List ℕ) → sum_by f ns ≡ sum_by g ns
  sums_alike f g same [] = refl
  sums_alike f g same (n ∷ ns) = sum_by-cons f n ns ∙ ap (λ k. k + sum_by f ns) (same n) ∙ ap (λ k. g n + k) (sums_alike f g same ns) ∙ sym (sum_by-cons g n ns)

  below_is : (n : ℕ) → paths_below same_key (onward script tick) (is_whole_in script) (situation_of script []) n ≡ count_below script tick n
  unfolding paths_below
  below_is n =
      sums_alike (λ k. ending (is_whole_in script) (layer same_key (onward script tick) (situation_of script []) k))
      (λ k. whole_of_layer script (logs.layer script tick k))
      (λ k. ap (ending (is_whole_in script)) (layer_pairs k) ∙ ending_pairs (logs.layer script tick k)) (range_with_len 0 n)

  few_are : (most n : ℕ) → paths.AreFew same_key (onward script tick) (situation_of script []) most n → AreFew script tick most n
  few_are most n few k below = subst (λ (m : ℕ). m ≤ most) (layer_long k) (few k below)

  whole_is : count_below script tick (suc (events_bound_of script)) ≡ count_of_logs script tick
  unfolding count_of_logs
  whole_is = refl

  -- what is answered of paths, of logs
  pub whole_answer : (start : Situation) (steps most number : ℕ) → start ≡ situation_of script [] → steps ≡ events_bound_of script
      → (number ≡ paths_below same_key (onward script tick) (is_whole_in script) start (suc steps)) × paths.AreFew same_key (onward script tick)
      start most (suc steps)
      → (number ≡ count_of_logs script tick) × AreFew script tick most (suc (events_bound_of script))
  whole_answer start steps most number first bound answer = (
    answer.0 ∙ ap (λ s. paths_below same_key (onward script tick) (is_whole_in script) s (suc steps)) first ∙ below_is (suc steps)
        ∙ ap (λ n. count_below script tick (suc n)) bound ∙ whole_is,
    few_are most (suc (events_bound_of script))
        (subst (λ (n : ℕ). paths.AreFew same_key (onward script tick) (situation_of script []) most (suc n)) bound
        (subst (λ (s : Situation). paths.AreFew same_key (onward script tick) s most (suc steps)) first answer.1)),
  )

  pub gave_up_answer : (start : Situation) (steps most entries at_least : ℕ) → start ≡ situation_of script [] → steps ≡ events_bound_of script
      → (entries ≤ steps) × (most < length (layer same_key (onward script tick) start entries)) × paths.AreFew same_key (onward script tick) start most entries
      × (at_least ≡ paths_below same_key (onward script tick) (is_whole_in script) start entries)
      → (entries ≤ events_bound_of script) × (most < length (logs.layer script tick entries)) × AreFew script tick most entries
      × (at_least ≡ count_below script tick entries)
  gave_up_answer start steps most entries at_least first bound answer = (
    subst (λ (n : ℕ). entries ≤ n) bound answer.0,
    subst (λ (n : ℕ). most < n) (layer_long entries) (subst (λ (s : Situation). most < length (layer same_key (onward script tick) s entries)) first answer.1),
    few_are most entries (subst (λ (s : Situation). paths.AreFew same_key (onward script tick) s most entries) first answer.2),
    answer.3 ∙ ap (λ s. paths_below same_key (onward script tick) (is_whole_in script) s entries) first ∙ below_is entries,
  )

  pub whole_logs_are : (number : ℕ) → IsSound script → is_pool_script script ≡ true → number ≡ count_of_logs script tick
      → number ≡ length (whole_logs script tick)
  whole_logs_are number sound pool is = is ∙ logs_are_counted script tick sound pool

  below_le : (f : ℕ → ℕ) (n m : ℕ) → n ≤ m → sum_by f (range_with_len 0 n) ≤ sum_by f (range_with_len 0 (suc m))
  below_le f n m within =
      let split : range_with_len 0 (suc m) ≡ range_with_len 0 n ++ n ∷ range_with_len (n + 1) (m - n) =
      range_split 0 n (m - n) (suc m) n (omega arith) (omega arith) in
      omega (arith, ap (sum_by f) split, sum_by-append f (range_with_len 0 n) (n ∷ range_with_len (n + 1) (m - n)))

  pub at_least_logs : (entries at_least : ℕ) → IsSound script → is_pool_script script ≡ true → entries ≤ events_bound_of script
      → at_least ≡ count_below script tick entries → at_least ≤ length (whole_logs script tick)
  at_least_logs entries at_least sound pool within is =
      omega (
        arith,
        is,
        below_le (λ k. whole_of_layer script (logs.layer script tick k)) entries (events_bound_of script) within,
        whole_is,
        logs_are_counted script tick sound pool,
      )
