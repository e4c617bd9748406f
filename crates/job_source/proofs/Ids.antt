-- The least free id, and a job where a worker enters, and where one ends its item.
-- Cited by `JobSource::done`, `JobSource::enter`.
use Rattle.std.proofs.Common.{◌≡◌, ℕ, suc, ◌+◌, ◌≤◌, ◌<◌, Bool, true, false, cond, List, [], ◌∷◌, length}
use Rattle.std.proofs.Common.{get_or, set, refl, sym, ap, ◌∙◌, Option, Some, None, add-one, arith}
use Rattle.std.specs.Prelude.{◌||◌, nat_lt, not, find, is_none, is_some, slice_get, unwrap_or, IsSome}
use Rattle.std.specs.List.{position, position_or_len, range_with_len}
use Rattle.std.proofs.lemmas.Bool.{and_parts, or_parts, ltb-true, not-true, not-false}
use Rattle.std.proofs.lemmas.List.{length-set}
use Rattle.std.proofs.lemmas.List.Quantifiers.{position-Some}
use Rattle.std.proofs.lemmas.Option.{none-some, same_Some, slice_get_within, unwrap_or-slice_get}
use Rattle.list_laws.specs.Lists.{count}
use Rattle.list_laws.proofs.Counts.{count-cons, count-set, count_step}
use Rattle.list_laws.proofs.Finds.{position_none}
use Rattle.job_source.specs.Job.{JobView, IsConsistent, held_by, inside, has_unclaimed, concurrency, may_enter, is_free_id, free_id, entered, next_item}

-- where ids from the first one on are free as their places say, the first free id is the first place at which nothing is held
free_from : {A : Type 0} (held : List (Option A)) (free : ℕ → Bool) (first : ℕ)
    → ((i id : ℕ) → id ≡ first + i → free id ≡ is_none (unwrap_or (slice_get held i) None))
    → find free (range_with_len first (suc (count is_some held))) ≡ Some (first + position_or_len is_none held)
free_from [] free first at = rw (at 0 first (omega arith)) (ap Some (omega arith))
free_from (None ∷ held) free first at = rw (at 0 first (omega arith)) (ap Some (omega arith))
free_from (Some item ∷ held) free first at =
    rw (at 0 first (omega arith)) (free_from held free (first + 1) (λ i id is. at (suc i) id (omega (arith, is))) ∙ ap Some (omega arith))

-- where something is held at each place, as many are held as there are places
all_held : {A : Type 0} (held : List (Option A)) → length held ≤ position_or_len is_none held → count is_some held ≡ length held
all_held [] past = refl
all_held (None ∷ held) past = absurd (omega (arith, past))
all_held (Some item ∷ held) past = ap suc (all_held held (omega (arith, past)))

-- the place that is found is the first one
position_is : {A : Type 0} (test : A → Bool) (xs : List A) (place : ℕ) → position test xs ≡ Some place → position_or_len test xs ≡ place
position_is test xs place found = by_order (nat_lt (position_or_len test xs) (length xs)) found
  where
    by_order : (b : Bool) → cond b (Some (position_or_len test xs)) None ≡ Some place → position_or_len test xs ≡ place
    by_order true is = same_Some _ _ is
    by_order false is = absurd (none-some place is)

-- the first place at which nothing is held is the least free id
free_id_is : (job : JobView) (id : ℕ) → position is_none job.held ≡ Some id → free_id job ≡ Some id
free_id_is job id found =
    let first : 0 + position_or_len is_none job.held ≡ id = omega (arith, position_is is_none job.held id found) in
    rw add-one (free_from job.held (is_free_id job) 0 (λ i j is. ap (is_free_id job) (is ∙ omega arith)) ∙ ap Some first)

-- where a worker may enter, an item is unclaimed, and there is room inside
may_enter-parts : (job : JobView) → may_enter job ≡ true → (job.claimed < job.items) × (inside job < concurrency job)
may_enter-parts job may =
    let parts = and_parts _ _ may in
    let front = and_parts _ _ parts.0 in
    (ltb-true _ _ front.1, ltb-true _ _ parts.1)

-- where a worker may enter, it gets the first place at which nothing is held, and the least unclaimed item
pub entered_is : (job now : JobView) (id : ℕ) → job ≡ now → may_enter now ≡ true → position is_none job.held ≡ Some id
    → Some (id, job.claimed) ≡ entered now
entered_is job now id same may found = rw (← same) (rw (ap may_enter same ∙ may, free_id_is job id found) refl)

-- where a worker may enter, such a place is found
pub place_found : (job : JobView) → IsConsistent job → may_enter job ≡ true → position is_none job.held ≡ None → ⊥
place_found job is may none =
    omega (arith, (may_enter-parts job may).1, is.places, all_held job.held (position_none is_none job.held none))

-- a job that a worker has entered
pub IsConsistent-entered : (job : JobView) (id item : ℕ) → IsConsistent job → may_enter job ≡ true → position is_none job.held ≡ Some id
    → IsConsistent (record job { claimed = job.claimed + 1; held = set job.held id (Some item) })
IsConsistent-entered job id item is may found =
    let at = position-Some is_none job.held id None found in
    let parts = may_enter-parts job may in
    let free : is_some (get_or job.held id None) ≡ false = not-true _ at.1 in
    let more : count is_some (set job.held id (Some item)) ≡ inside job + 1 =
    omega (
      arith,
      count-set is_some job.held id None (get_or job.held id None) (Some item) at.0 refl,
      count_step is_some (get_or job.held id None) [] false free,
      count-cons is_some (Some item) [],
    ) in
    record {
      places = length-set job.held id (Some item) ∙ is.places;
      parted = omega (arith, more, is.parted);
      within = omega (arith, parts.0);
      few = omega (arith, more, parts.1);
    }

-- the item that is held is at a place
held-within : (job : JobView) (id : ℕ) → IsSome (held_by job id) → id < length job.held
held-within job id held = by_holder (slice_get job.held id) refl held
  where
    by_holder : (o : Option (Option ℕ)) → slice_get job.held id ≡ o → IsSome (unwrap_or o None) → id < length job.held
    by_holder None is some = absurd cc
    by_holder (Some item) is some = slice_get_within job.held id item is

-- where a worker inside goes on with an item or none, one less is inside, and one more where there is an item
inside-set : (job : JobView) (id : ℕ) (next : Option ℕ) → IsSome (held_by job id)
    → count is_some (set job.held id next) + 1 ≡ inside job + cond (is_some next) 1 0
inside-set job id next held =
    let here : is_some (get_or job.held id None) ≡ true = ap is_some (sym (unwrap_or-slice_get job.held id None)) ∙ held in
    omega (
      arith,
      count-set is_some job.held id None (get_or job.held id None) next (held-within job id held) refl,
      count_step is_some (get_or job.held id None) [] true here,
      count-cons is_some next [],
    )

-- who holds an item is inside
pub inside-some : (job : JobView) (id : ℕ) → IsSome (held_by job id) → 1 ≤ inside job
inside-some job id held = omega (arith, inside-set job id None held)

-- a job in which a worker has ended its item
pub IsConsistent-done : (job : JobView) (id more sum : ℕ) (leave : Bool) (next : Option ℕ) → IsConsistent job → IsSome (held_by job id)
    → next ≡ next_item job leave → more ≡ cond (is_some next) 1 0
    → IsConsistent (record job { claimed = job.claimed + more; done = job.done + 1; held = set job.held id next; sum = sum })
IsConsistent-done job id more sum leave next is held goes_on claimed = record {
  places = length-set job.held id next ∙ is.places;
  parted = omega (arith, inside-set job id next held, is.parted, claimed);
  within = within (leave || job.cancelled || not (has_unclaimed job)) refl goes_on;
  few = omega (arith, inside-set job id next held, is.few, at_most next);
}
  where
    at_most : (o : Option ℕ) → cond (is_some o) 1 0 ≤ 1
    at_most None = omega arith
    at_most (Some item) = omega arith

    within : (b : Bool) → (leave || job.cancelled || not (has_unclaimed job)) ≡ b → next ≡ cond b None (Some job.claimed) → job.claimed + more ≤ job.items
    within true stops none = omega (arith, claimed, ap {B = ℕ} (λ (o : Option ℕ). cond (is_some o) 1 0) none, is.within)
    within false goes some = omega (
      arith,
      claimed,
      ap {B = ℕ} (λ (o : Option ℕ). cond (is_some o) 1 0) some,
      ltb-true job.claimed job.items (not-false (has_unclaimed job) (or_parts (leave || job.cancelled) (not (has_unclaimed job)) goes).1),
    )
