-- Tasks that are posted behind others.
-- Cited by `steps_post_again`, `posts.rt`.
use Rattle.std.proofs.Common.{◌≡◌, ℕ, suc, ◌+◌, ◌<◌, Bool, true, false, eqb, List, [], ◌∷◌, ◌++◌, length, get_or, drop, refl, add-one, drop-cons, append_assoc}
use Rattle.std.specs.Prelude.{◌||◌, flat_map}
use Rattle.std.specs.List.{list_any}
use Rattle.std.proofs.lemmas.List.{append-nil}
use Rattle.std.proofs.lemmas.List.Concat.{flat_map-cons}
use Rattle.script_model.specs.Draft.{is_any_posted}
use Rattle.nested_loop.specs.declared.nest.NestStep.{NestStep}
use Rattle.nested_loop.specs.Sound.{posts_of_nest_step}

-- only which tasks were posted matters, not their order
is_any_posted-same : (xs ys new : List ℕ) → ((t : ℕ) → list_any (λ posted. eqb posted t) xs ≡ list_any (λ posted. eqb posted t) ys)
    → is_any_posted xs new ≡ is_any_posted ys new
is_any_posted-same xs ys [] same = refl
is_any_posted-same xs ys (t ∷ new) same = rw (same t, is_any_posted-same (t ∷ xs) (t ∷ ys) new (λ u. rw (same u) refl)) refl

or-swap : (a b c : Bool) → (a || (b || c)) ≡ (b || (a || c))
or-swap true true c = refl
or-swap true false c = refl
or-swap false b c = refl

or-assoc : (a b c : Bool) → (a || (b || c)) ≡ ((a || b) || c)
or-assoc true b c = refl
or-assoc false b c = refl

-- one moves to the front
list_any-moved : (p : ℕ → Bool) (x : ℕ) (xs ys : List ℕ) → list_any p (x ∷ xs ++ ys) ≡ list_any p (xs ++ x ∷ ys)
list_any-moved p x [] ys = refl
list_any-moved p x (y ∷ xs) ys = rw (← list_any-moved p x xs ys) (or-swap (p x) (p y) (list_any p (xs ++ ys)))

-- tasks are posted one part after the other
pub is_any_posted_append : (earlier new more : List ℕ)
    → is_any_posted earlier (new ++ more) ≡ (is_any_posted earlier new || is_any_posted (earlier ++ new) more)
is_any_posted_append earlier [] more = rw append-nil refl
is_any_posted_append earlier (t ∷ new) more = rw (
  is_any_posted_append (t ∷ earlier) new more,
  is_any_posted-same (t ∷ earlier ++ new) (earlier ++ t ∷ new) more (λ u. list_any-moved (λ posted. eqb posted u) t earlier new),
) (or-assoc (list_any (λ posted. eqb posted t) earlier) (is_any_posted (t ∷ earlier) new) (is_any_posted (earlier ++ t ∷ new) more))

-- the posts of the steps from this one on
rest-cons : (steps : List NestStep) (i : ℕ) (d : NestStep) → i < length steps
    → flat_map posts_of_nest_step (drop i steps) ≡ posts_of_nest_step (get_or steps i d) ++ flat_map posts_of_nest_step (drop (i + 1) steps)
rest-cons steps i d lt = rw (add-one, drop-cons steps i d) (flat_map-cons posts_of_nest_step (get_or steps i d) (drop (suc i) steps))

-- the posts of a step, none of which was posted, move behind the earlier ones
pub noted-more : (earlier now : List ℕ) (steps : List NestStep) (i : ℕ) (d : NestStep) → i < length steps
    → is_any_posted earlier (posts_of_nest_step (get_or steps i d)) ≡ false → now ≡ earlier ++ posts_of_nest_step (get_or steps i d)
    → (is_any_posted now (flat_map posts_of_nest_step (drop (i + 1) steps)) ≡ is_any_posted earlier (flat_map posts_of_nest_step (drop i steps)))
    × (now ++ flat_map posts_of_nest_step (drop (i + 1) steps) ≡ earlier ++ flat_map posts_of_nest_step (drop i steps))
noted-more earlier now steps i d lt fresh is =
    let here = posts_of_nest_step (get_or steps i d) in
    let behind = flat_map posts_of_nest_step (drop (i + 1) steps) in (
      rw (rest-cons steps i d lt, is, is_any_posted_append earlier here behind, fresh) refl,
      rw (rest-cons steps i d lt, is) (append_assoc earlier here behind),
    )
