-- What one more entry does to the moments that are awaited.
-- Cited by `Awaited::next`, `Awaited::note`, `Awaited::nothing`.
use Rattle.std.proofs.Common.{◌≡◌, ◌≢◌, ℕ, zero, suc, ◌+◌, ◌<◌, ◌≤◌, true, cond, eqb, List, [], ◌∷◌, ◌++◌, refl, sym, ap, ◌∙◌, arith}
use Rattle.std.specs.Prelude.{fold, map, nat_lt, replicate, slice_set, unwrap_or, None}
use Rattle.std.proofs.lemmas.List.Sums.{fold-append}
use Rattle.std.specs.List.{range_with_len}
use Rattle.std.proofs.lemmas.Bool.{eq-eqb, eqb-true, false_from_ne_true}
use Rattle.task_base.specs.Plan.{Plan}
use Rattle.task_base.specs.declared.entry.Entry.{Entry}
use Rattle.task_model.specs.Past.{fold_past}
use Rattle.task_model.specs.Seats.{all_seats}
use Rattle.task_model.specs.Time.{now_of}
use Rattle.task_model.proofs.Growth.{fold_past-push}
use Rattle.simulation.specs.Awaited.{counts_after, counts_from, next_moment, ripe_by, ripe_moments, sooner}

-- ---- the ripe moments

pub ripe_push : (past : List Entry) (e : Entry) → ripe_moments (past ++ e ∷ []) ≡ ripe_moments past ++ ripe_by (now_of past) e.kind
unfolding ripe_moments
ripe_push past e = fold_past-push (λ before known x. known ++ ripe_by (now_of before) x.kind) [] past e

-- what lies ahead of a later moment lies ahead of an earlier one
pub later_is_later : (earlier later moment : ℕ) → earlier ≤ later → nat_lt later moment ≡ true → nat_lt earlier moment ≡ true
later_is_later earlier later moment ordered ahead = grind arith

-- ---- the scopes

pub counts_push : (script : Plan) (past : List Entry) (e : Entry) (seat : ℕ)
    → counts_from script (past ++ e ∷ []) seat
    ≡ cond (eqb e.seat seat) (counts_after script.threshold (now_of past) (counts_from script past seat) e.kind) (counts_from script past seat)
unfolding counts_from
counts_push script past e seat =
    fold_past-push (λ before counts x. cond (eqb x.seat seat) (counts_after script.threshold (now_of before) counts x.kind) counts) 0 past e

map_ahead : {A : Type 0} (f g : ℕ → A) (a n k : ℕ) → k < a → ((s : ℕ) → s ≢ k → g s ≡ f s) → map f (range_with_len a n) ≡ map g (range_with_len a n)
map_ahead f g a zero k before same = refl
map_ahead f g a (suc n) k before same =
    ap (λ x. x ∷ map f (range_with_len (a + 1) n)) (sym (same a (λ is. omega (arith, is, before))))
    ∙ ap (λ xs. g a ∷ xs) (map_ahead f g (a + 1) n k (omega (arith, before)) same)

-- a function that differs at one number alone, over a row of numbers
pub set_in_range : {A : Type 0} (f g : ℕ → A) (a n i k : ℕ) → i < n → k ≡ a + i → ((s : ℕ) → s ≢ k → g s ≡ f s)
    → slice_set (map f (range_with_len a n)) i (g k) ≡ map g (range_with_len a n)
set_in_range f g a zero i k within at same = absurd (omega (arith, within))
set_in_range f g a (suc n) zero k within at same =
    let first : k ≡ a = omega (arith, at) in
    ap (λ m. g m ∷ map f (range_with_len (a + 1) n)) first ∙ ap (λ xs. g a ∷ xs) (map_ahead f g (a + 1) n k (omega (arith, first)) same)
set_in_range f g a (suc n) (suc i) k within at same =
    ap (λ x. x ∷ slice_set (map f (range_with_len (a + 1) n)) i (g k)) (sym (same a (λ is. omega (arith, is, at))))
    ∙ ap (λ xs. g a ∷ xs) (set_in_range f g (a + 1) n i k (omega (arith, within)) (omega (arith, at)) same)

-- those of all seats after one more entry
pub counts_set : (script : Plan) (past : List Entry) (e : Entry) → e.seat < script.workers + 1
    → slice_set (map (counts_from script past) (all_seats script)) e.seat
    (counts_after script.threshold (now_of past) (counts_from script past e.seat) e.kind)
    ≡ map (counts_from script (past ++ e ∷ [])) (all_seats script)
counts_set script past e within =
    ap (slice_set (map (counts_from script past) (all_seats script)) e.seat)
    (sym (counts_push script past e e.seat ∙ ap (λ b. cond b (counts_after script.threshold (now_of past) (counts_from script past e.seat) e.kind) (counts_from script past e.seat)) (eq-eqb e.seat e.seat refl)))
    ∙ set_in_range (counts_from script past) (counts_from script (past ++ e ∷ [])) 0 (script.workers + 1) e.seat e.seat within (omega arith)
    (λ s differs. counts_push script past e s ∙ ap (λ b. cond b (counts_after script.threshold (now_of past) (counts_from script past s) e.kind) (counts_from script past s))
    (false_from_ne_true (eqb e.seat s) (λ same. differs (sym (eqb-true e.seat s same)))))

-- ---- before the first entry

none_counts : (script : Plan) (a n : ℕ) → map (counts_from script []) (range_with_len a n) ≡ replicate n 0
unfolding counts_from fold_past
none_counts script a zero = refl
none_counts script a (suc n) = ap (λ xs. 0 ∷ xs) (none_counts script (a + 1) n)

pub nothing_counts : (script : Plan) → map (counts_from script []) (all_seats script) ≡ replicate (script.workers + 1) 0
nothing_counts script = none_counts script 0 (script.workers + 1)

pub nothing_ripens : ripe_moments [] ≡ []
unfolding ripe_moments fold_past
nothing_ripens = refl

pub begins_at_0 : now_of [] ≡ 0
unfolding now_of
begins_at_0 = refl

-- ---- the soonest

-- the soonest of those that ripen, and of the scopes, is the next moment
pub next_is : (script : Plan) (past : List Entry) → unwrap_or (fold (sooner (now_of past)) (fold (sooner (now_of past)) None (ripe_moments past))
    (map (counts_from script past) (all_seats script))) (now_of past) ≡ next_moment script past
unfolding next_moment
next_is script past = ap (λ best. unwrap_or best (now_of past))
    (sym (fold-append (sooner (now_of past)) None (ripe_moments past) (map (counts_from script past) (all_seats script))))
