-- Layers count the pasts of each length by their situations.
-- Cited by `counted.rt`.
use Rattle.std.proofs.Common.{append_assoc, ◌≡◌, ℕ, zero, suc, ◌+◌, ◌*◌, ◌≤◌, Bool, true, false, cond, List, [], ◌∷◌, ◌++◌, length, map, refl, sym}
use Rattle.std.proofs.Common.{ap, ◌∙◌, Option, Some, None, arith}
use Rattle.std.specs.Prelude.{flat_map, fold, sum_by, option_and_then}
use Rattle.std.specs.Option.{option_map, option_map_or}
use Rattle.std.specs.List.{AllByRecursion, cons_option, filter_map, range_with_len}
use Rattle.std.proofs.lemmas.List.{append-nil, length-map}
use Rattle.std.proofs.lemmas.List.Concat.{length-flat_map}
use Rattle.std.proofs.lemmas.List.Sums.{sum_by-append, sum_by-cons}
use Rattle.task_base.specs.Plan.{Plan}
use Rattle.task_base.specs.declared.entry.Entry.{Entry}
use Rattle.task_base.specs.declared.entry.Kind.{Kind}
use Rattle.list_laws.proofs.Ranges.{AllByRecursion-range}
use Rattle.script_model.specs.Bound.{events_bound_of}
use Rattle.script_model.specs.Laws.Sound.{IsSound}
use Rattle.task_model.specs.Seats.{all_seats}
use Rattle.hist_model.specs.Allowed.{IsAllowed, is_allowed}
use Rattle.hist_model.specs.Legal.{IsLegal}
use Rattle.hist_model.specs.Script.{is_whole}
use Rattle.hist_model.specs.Laws.Ways.{way_on}
use Rattle.hist_model.proofs.Laws.Legal.{legal_next, nothing_is_legal}
use Rattle.situation.specs.Alike.{without_items}
use Rattle.situation.specs.Counts.{at_moment, beginning_with, futures, goings, if_allowed, next_of, whole_logs}
use Rattle.situation.specs.Situation.{Situation, is_pool_script, situation_of}
use Rattle.log_count.specs.After.{after_in}
use Rattle.log_count.specs.Equal.{same_situation}
use Rattle.log_count.specs.Layers.{CountAlike, Counted, count_of_logs, gathered, found_after, layer, onward, pasts, whole_of_layer, with_more}
use Rattle.log_count.specs.Ways.{is_whole_in, next_in}
use Rattle.log_count.proofs.Equal.{same_is}
use Rattle.log_count.proofs.Promised.{after_told, next_told, whole_told}

-- ---- sums

nothing_before : (k : ℕ) → 0 + k ≡ k
nothing_before k = omega arith

sum_by_same : {A : Type 0} (f g : A → ℕ) (xs : List A) → AllByRecursion (λ x. f x ≡ g x) xs → sum_by f xs ≡ sum_by g xs
sum_by_same f g [] all = refl
sum_by_same f g (x ∷ xs) all = sum_by-cons f x xs ∙ ap (λ n. n + sum_by f xs) all.0 ∙ ap (λ n. g x + n) (sum_by_same f g xs all.1) ∙ sym (sum_by-cons g x xs)

sum_by_always : {A : Type 0} (f g : A → ℕ) (xs : List A) → ((x : A) → f x ≡ g x) → sum_by f xs ≡ sum_by g xs
sum_by_always f g [] all = refl
sum_by_always f g (x ∷ xs) all = sum_by-cons f x xs ∙ ap (λ n. n + sum_by f xs) (all x) ∙ ap (λ n. g x + n) (sum_by_always f g xs all)
    ∙ sym (sum_by-cons g x xs)

sum_by-flat_map : {A B : Type 0} (g : B → ℕ) (f : A → List B) (xs : List A) → sum_by g (flat_map f xs) ≡ sum_by (λ x. sum_by g (f x)) xs
sum_by-flat_map g f [] = refl
sum_by-flat_map g f (x ∷ xs) = sum_by-append g (f x) (flat_map f xs) ∙ ap (λ n. sum_by g (f x) + n) (sum_by-flat_map g f xs)
    ∙ sym (sum_by-cons (λ z. sum_by g (f z)) x xs)

sum_by-mapped : {A B : Type 0} (g : B → ℕ) (f : A → B) (xs : List A) → sum_by g (map f xs) ≡ sum_by (λ x. g (f x)) xs
sum_by-mapped g f [] = refl
sum_by-mapped g f (x ∷ xs) = sum_by-cons g (f x) (map f xs) ∙ ap (λ n. g (f x) + n) (sum_by-mapped g f xs) ∙ sym (sum_by-cons (λ z. g (f z)) x xs)

-- of those that are found, of each that there may be
sum_by-filter_map : {A B : Type 0} (g : B → ℕ) (f : A → Option B) (xs : List A) → sum_by g (filter_map f xs) ≡ sum_by (λ x. option_map_or g (f x) 0) xs
sum_by-filter_map g f [] = refl
sum_by-filter_map {A = A} {B = B} g f (x ∷ xs) = by_found (f x) (filter_map f xs) ∙ ap (λ n. option_map_or g (f x) 0 + n) (sum_by-filter_map g f xs)
    ∙ sym (sum_by-cons (λ z. option_map_or g (f z) 0) x xs)
  where
    by_found : (o : Option B) (ys : List B) → sum_by g (cons_option o ys) ≡ option_map_or g o 0 + sum_by g ys
    by_found None ys = omega arith
    by_found (Some y) ys = sum_by-cons g y ys

times_sum : {A : Type 0} (k : ℕ) (g : A → ℕ) (xs : List A) → sum_by (λ x. k * g x) xs ≡ k * sum_by g xs
times_sum k g [] = omega arith
times_sum k g (x ∷ xs) = sum_by-cons (λ z. k * g z) x xs ∙ ap (λ n. k * g x + n) (times_sum k g xs) ∙ shared (g x) (sum_by g xs)
    ∙ ap (λ n. k * n) (sym (sum_by-cons g x xs))
  where
    shared : (a b : ℕ) → k * a + k * b ≡ k * (a + b)
    shared a b = grind arith

-- ---- what is said of a past by what it may go on to

-- the sum of a number over the situations that so many entries lead to
abbrev ahead : Plan → (Situation → ℕ) → (Situation → ℕ) → ℕ → Situation → ℕ
ahead script tick g zero s = g s
ahead script tick g (suc n) s = sum_by (ahead script tick g n) (onward script tick s)

module _ (script : Plan) (tick : Situation → ℕ) (sound : IsSound script) (pool : is_pool_script script ≡ true) where
  -- a seat's next entry leads where the situation says
  at_seat : {A : Type 0} (past : List Entry) (seat : ℕ) → IsLegal script past → seat ≤ script.workers → (found : Entry → A) (told : Situation → A) (none : A)
      → ((e : Entry) → IsAllowed script past e → found e ≡ told (situation_of script (past ++ e ∷ [])))
      → option_map_or found (next_of script tick past seat) none
      ≡ option_map_or told (option_map (after_in script (situation_of script past) seat) (next_in script tick (situation_of script past) seat)) none
  at_seat {A = A} past seat legal known found told none same =
      by_next (way_on script past seat) (next_told script tick past seat sound pool legal known)
    where
      made : Kind → Entry
      made way = record { seat = seat; kind = at_moment (tick (situation_of script past)) way }

      by_allowed : (way : Kind) (b : Bool) → is_allowed script past (made way) ≡ b
          → option_map_or found (cond b (Some (made way)) None) none
          ≡ option_map_or told (option_map (after_in script (situation_of script past) seat) (option_map (λ (e : Entry). without_items e.kind)
          (cond b (Some (made way)) None))) none
      by_allowed way false is = refl
      by_allowed way true is = same (made way) is ∙ ap told (after_told script past (made way) sound pool legal is)

      by_way : (o : Option Kind) → option_map_or found (option_and_then (λ way. if_allowed script past (made way)) o) none
          ≡ option_map_or told (option_map (after_in script (situation_of script past) seat) (option_map (λ (e : Entry). without_items e.kind)
          (option_and_then (λ way. if_allowed script past (made way)) o))) none
      by_way None = refl
      by_way (Some way) = by_allowed way (is_allowed script past (made way)) refl

      by_next : (o : Option Kind)
          → option_map (λ (e : Entry). without_items e.kind) (next_of script tick past seat) ≡ next_in script tick (situation_of script past) seat
          → option_map_or found (next_of script tick past seat) none
          ≡ option_map_or told (option_map (after_in script (situation_of script past) seat) (next_in script tick (situation_of script past) seat)) none
      by_next o is = by_way (way_on script past seat)
          ∙ ap (λ k. option_map_or told (option_map (after_in script (situation_of script past) seat) k) none) is

  -- a number that situations have, over the pasts that go on from a past
  pasts_are_ahead : (g : Situation → ℕ) (n : ℕ) (past : List Entry) → IsLegal script past
      → sum_by (λ rest. g (situation_of script (past ++ rest))) (goings (λ p. true) script tick n past) ≡ ahead script tick g n (situation_of script past)
  unfolding onward
  pasts_are_ahead g zero past legal = ap (λ p. 0 + g (situation_of script p)) (append-nil past) ∙ omega arith
  pasts_are_ahead g (suc n) past legal =
      sum_by-flat_map there (λ seat. beginning_with (next_of script tick past seat) (λ e. goings (λ p. true) script tick n (past ++ e ∷ []))) (all_seats script)
      ∙ sum_by_same (λ seat. sum_by there (beginning_with (next_of script tick past seat) (λ e. goings (λ p. true) script tick n (past ++ e ∷ []))))
      (λ seat. option_map_or (ahead script tick g n) (option_map (after_in script (situation_of script past) seat)
      (next_in script tick (situation_of script past) seat)) 0) (all_seats script)
      (AllByRecursion-range (λ seat. sum_by there (beginning_with (next_of script tick past seat) (λ e. goings (λ p. true) script tick n (past ++ e ∷ [])))
      ≡ option_map_or (ahead script tick g n) (option_map (after_in script (situation_of script past) seat)
      (next_in script tick (situation_of script past) seat)) 0) 0 (script.workers + 1)
      (λ seat from to. inside (next_of script tick past seat)
      ∙ at_seat past seat legal (omega (arith, to)) (λ e. sum_by (from_there e) (goings (λ p. true) script tick n (past ++ e ∷ [])))
      (ahead script tick g n) 0 (λ e allowed. pasts_are_ahead g n (past ++ e ∷ []) (legal_next script past e legal allowed))))
      ∙ sym (sum_by-filter_map (ahead script tick g n) (λ seat. option_map (after_in script (situation_of script past) seat)
      (next_in script tick (situation_of script past) seat)) (all_seats script))
    where
      there : List Entry → ℕ
      there rest = g (situation_of script (past ++ rest))

      from_there : Entry → List Entry → ℕ
      from_there e rest = g (situation_of script ((past ++ e ∷ []) ++ rest))

      inside : (o : Option Entry) → sum_by there (beginning_with o (λ e. goings (λ p. true) script tick n (past ++ e ∷ [])))
          ≡ option_map_or (λ e. sum_by (from_there e) (goings (λ p. true) script tick n (past ++ e ∷ []))) o 0
      inside None = refl
      inside (Some e) = sum_by-mapped there (λ rest. e ∷ rest) (goings (λ p. true) script tick n (past ++ e ∷ []))
          ∙ sum_by_always (λ rest. there (e ∷ rest)) (from_there e) (goings (λ p. true) script tick n (past ++ e ∷ []))
          (λ rest. ap (λ p. g (situation_of script p)) (sym (append_assoc past (e ∷ []) rest)))

-- ---- what layers say

-- with what weight a number counts in a layer
abbrev weighed : (Situation → ℕ) → Counted → ℕ
weighed g c = c.pasts * g c.situation

with_more_weighs : (g : Situation → ℕ) (more : Counted) (known : List Counted)
    → sum_by (weighed g) (with_more more known) ≡ sum_by (weighed g) known + weighed g more
with_more_weighs g more [] = omega arith
with_more_weighs g more (c ∷ known) = by_test (same_situation c.situation more.situation) refl (with_more_weighs g more known)
    ∙ ap (λ n. n + weighed g more) (sym (sum_by-cons (weighed g) c known))
  where
    by_test : (b : Bool) → same_situation c.situation more.situation ≡ b
        → sum_by (weighed g) (with_more more known) ≡ sum_by (weighed g) known + weighed g more
        → sum_by (weighed g) (cond b (record { situation = c.situation; pasts = c.pasts + more.pasts } ∷ known) (c ∷ with_more more known))
        ≡ (weighed g c + sum_by (weighed g) known) + weighed g more
    by_test true is rest =
        let one : g more.situation ≡ g c.situation = ap g (sym (same_is c.situation more.situation is)) in
        sum_by-cons (weighed g) (record { situation = c.situation; pasts = c.pasts + more.pasts }) known
        ∙ ap (λ n. n + sum_by (weighed g) known) (shared c.pasts more.pasts (g c.situation))
        ∙ omega (arith, ap (λ n. more.pasts * n) one)
      where
        shared : (a b k : ℕ) → (a + b) * k ≡ a * k + b * k
        shared a b k = grind arith
    by_test false is rest = sum_by-cons (weighed g) c (with_more more known) ∙ ap (λ n. weighed g c + n) rest ∙ omega arith

gathered_weighs : (g : Situation → ℕ) (found known : List Counted)
    → sum_by (weighed g) (fold (λ all c. with_more c all) known found) ≡ sum_by (weighed g) known + sum_by (weighed g) found
gathered_weighs g [] known = omega arith
gathered_weighs g (c ∷ found) known = gathered_weighs g found (with_more c known) ∙ ap (λ n. n + sum_by (weighed g) found) (with_more_weighs g c known)
    ∙ omega (arith, sum_by-cons (weighed g) c found)

pub gathered_alike : (found : List Counted) → CountAlike (gathered found) found
gathered_alike found number = gathered_weighs number found [] ∙ nothing_before (sum_by (weighed number) found)

-- the whole pasts of a list of counts
whole_weighs : (script : Plan) (known : List Counted)
    → whole_of_layer script known ≡ sum_by (weighed (λ s. cond (is_whole_in script s) 1 0)) known
whole_weighs script known = sum_by_always (λ c. cond (is_whole_in script c.situation) c.pasts 0) (weighed (λ s. cond (is_whole_in script s) 1 0)) known
    (λ c. once (is_whole_in script c.situation) c.pasts)
  where
    once : (b : Bool) (k : ℕ) → cond b k 0 ≡ k * cond b 1 0
    once true k = omega arith
    once false k = omega arith

pub whole_alike : (script : Plan) (one other : List Counted) → CountAlike one other → whole_of_layer script one ≡ whole_of_layer script other
whole_alike script one other alike = whole_weighs script one ∙ alike (λ s. cond (is_whole_in script s) 1 0) ∙ sym (whole_weighs script other)

module _ (script : Plan) (tick : Situation → ℕ) where
  -- a number over a layer is the same number, one entry further, over the layer before
  found_weighs : (g : Situation → ℕ) (known : List Counted)
      → sum_by (weighed g) (found_after script tick known) ≡ sum_by (weighed (λ s. sum_by g (onward script tick s))) known
  found_weighs g known = sum_by-flat_map (weighed g) (λ c. map (λ s. record { situation = s; pasts = c.pasts }) (onward script tick c.situation)) known
      ∙ sum_by_always (λ c. sum_by (weighed g) (map (λ s. record { situation = s; pasts = c.pasts }) (onward script tick c.situation)))
      (weighed (λ s. sum_by g (onward script tick s))) known
      (λ c. sum_by-mapped (weighed g) (λ s. record { situation = s; pasts = c.pasts }) (onward script tick c.situation)
      ∙ times_sum c.pasts g (onward script tick c.situation))

  pub found_alike : (one other : List Counted) → CountAlike one other → CountAlike (found_after script tick one) (gathered (found_after script tick other))
  found_alike one other alike number =
      found_weighs number one ∙ alike (λ s. sum_by number (onward script tick s)) ∙ sym (found_weighs number other)
      ∙ sym (gathered_weighs number (found_after script tick other) [] ∙ nothing_before (sum_by (weighed number) (found_after script tick other)))

  layer_weighs : (g : Situation → ℕ) (n : ℕ) → sum_by (weighed g) (layer script tick n) ≡ ahead script tick g n (situation_of script [])
  unfolding layer
  layer_weighs g zero = omega arith
  layer_weighs g (suc n) =
      gathered_weighs g (found_after script tick (layer script tick n)) [] ∙ nothing_before (sum_by (weighed g) (found_after script tick (layer script tick n)))
      ∙ found_weighs g (layer script tick n) ∙ layer_weighs (λ s. sum_by g (onward script tick s)) n ∙ one_further n (situation_of script [])
    where
      -- one entry further at the end is one entry further at the beginning
      one_further : (m : ℕ) (s : Situation) → ahead script tick (λ t. sum_by g (onward script tick t)) m s ≡ ahead script tick g (suc m) s
      one_further zero s = refl
      one_further (suc m) s = sum_by_always (ahead script tick (λ t. sum_by g (onward script tick t)) m) (ahead script tick g (suc m)) (onward script tick s)
          (one_further m)

  -- ---- whole logs

  module _ (sound : IsSound script) (pool : is_pool_script script ≡ true) where
    -- what situations have, over a layer, is what they have over the pasts of its length
    pub layer_is : (g : Situation → ℕ) (n : ℕ)
        → sum_by (λ c. c.pasts * g c.situation) (layer script tick n) ≡ sum_by (λ past. g (situation_of script past)) (pasts script tick n)
    layer_is g n = layer_weighs g n ∙ sym (pasts_are_ahead script tick sound pool g n [] (nothing_is_legal script))

    -- 1 of a whole situation
    abbrev whole_one : Situation → ℕ
    whole_one s = cond (is_whole_in script s) 1 0

    futures_are_ahead : (n : ℕ) (past : List Entry) → IsLegal script past
        → length (futures script tick n past) ≡ ahead script tick whole_one n (situation_of script past)
    unfolding onward
    futures_are_ahead zero past legal = by_whole (is_whole script past) ∙ ap (λ b. cond b 1 0) (whole_told script past sound pool legal)
      where
        by_whole : (b : Bool) → length {A = List Entry} (cond b ([] ∷ []) []) ≡ cond b 1 0
        by_whole true = refl
        by_whole false = refl
    futures_are_ahead (suc n) past legal =
        length-flat_map (λ seat. beginning_with (next_of script tick past seat) (λ e. futures script tick n (past ++ e ∷ []))) (all_seats script)
        ∙ sum_by_same (λ seat. length (beginning_with (next_of script tick past seat) (λ e. futures script tick n (past ++ e ∷ []))))
        (λ seat. option_map_or (ahead script tick whole_one n) (option_map (after_in script (situation_of script past) seat)
        (next_in script tick (situation_of script past) seat)) 0) (all_seats script)
        (AllByRecursion-range (λ seat. length (beginning_with (next_of script tick past seat) (λ e. futures script tick n (past ++ e ∷ [])))
        ≡ option_map_or (ahead script tick whole_one n) (option_map (after_in script (situation_of script past) seat)
        (next_in script tick (situation_of script past) seat)) 0) 0 (script.workers + 1)
        (λ seat from to. inside (next_of script tick past seat)
        ∙ at_seat script tick sound pool past seat legal (omega (arith, to)) (λ e. length (futures script tick n (past ++ e ∷ [])))
        (ahead script tick whole_one n) 0 (λ e allowed. futures_are_ahead n (past ++ e ∷ []) (legal_next script past e legal allowed))))
        ∙ sym (sum_by-filter_map (ahead script tick whole_one n) (λ seat. option_map (after_in script (situation_of script past) seat)
        (next_in script tick (situation_of script past) seat)) (all_seats script))
      where
        inside : (o : Option Entry) → length (beginning_with o (λ e. futures script tick n (past ++ e ∷ [])))
            ≡ option_map_or (λ e. length (futures script tick n (past ++ e ∷ []))) o 0
        inside None = refl
        inside (Some e) = length-map (futures script tick n (past ++ e ∷ [])) (λ rest. e ∷ rest)

    whole_is : (n : ℕ) → whole_of_layer script (layer script tick n) ≡ length (futures script tick n [])
    whole_is n = whole_weighs script (layer script tick n) ∙ layer_weighs whole_one n ∙ sym (futures_are_ahead n [] (nothing_is_legal script))

    pub logs_are_counted : count_of_logs script tick ≡ length (whole_logs script tick)
    unfolding count_of_logs whole_logs
    logs_are_counted =
        sum_by_always (λ n. whole_of_layer script (layer script tick n)) (λ n. length (futures script tick n []))
        (range_with_len 0 (suc (events_bound_of script)))
        whole_is
        ∙ sym (length-flat_map (λ n. futures script tick n []) (range_with_len 0 (suc (events_bound_of script))))
