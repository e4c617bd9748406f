-- There is only one best source: the only one that waits, may be taken, and has none before it that may be taken, as no two
-- sources that wait have one key.
-- Cited by `pool_core`, `situation`.
use Rattle.std.proofs.Common.{◌≡◌, ℕ, true, false, eqb, List, refl, sym, ap, ◌∙◌, Option, Some, None}
use Rattle.std.specs.Prelude.{◌&&◌, ◌||◌, nat_lt}
use Rattle.std.proofs.lemmas.Bool.{true≢false}
use Rattle.std.proofs.lemmas.List.Elements.{All-contains}
use Rattle.task_base.specs.Plan.{Plan}
use Rattle.task_base.specs.declared.entry.Entry.{Entry}
use Rattle.task_base.specs.Keys.{key_below}
use Rattle.task_base.specs.Groups.{importance}
use Rattle.task_model.specs.Sources.{Candidate, waiting, is_takeable, goes_before, best_of}
use Rattle.pool_laws.specs.Choice.{IsBest}
use Rattle.pool_laws.proofs.Choice.Least.{best_is_best, no_best, keys_total}
use Rattle.list_laws.proofs.Ranks.{tied}
use Rattle.pool_laws.proofs.Choice.Sources.{one_key}

-- two between which the order decides neither way have one key
tied_keys : (a b : Candidate) → goes_before a b ≡ false → goes_before b a ≡ false → a.key ≡ b.key
tied_keys a b h k =
    let outer = tied (λ c. importance c.priority) (λ x y. nat_lt y.inside x.inside || (eqb y.inside x.inside && key_below y.key x.key)) b a h k in
    let inner = tied (λ c. c.inside) (λ x y. key_below x.key y.key) a b outer.1 outer.2 in
    keys_total a.key b.key inner.1 inner.2

-- what may be taken, and has none before it, is the best
pub only_best : (script : Plan) (past : List Entry) (seat : ℕ) (c : Candidate) → IsBest script past seat c → best_of script past seat ≡ Some c
only_best script past seat c best = by_best (best_of script past seat) refl
  where
    by_best : (o : Option Candidate) → best_of script past seat ≡ o → o ≡ Some c
    by_best None is = absurd (true≢false (sym best.takeable.1 ∙ All-contains (λ d. is_takeable script past seat d ≡ false) (waiting script past) c
        (no_best script past seat is) best.takeable.0))
    by_best (Some d) is =
        let other : IsBest script past seat d = best_is_best script past seat d is in
        ap Some (one_key script past d c other.takeable.0 best.takeable.0
        (tied_keys d c
        (All-contains (λ x. is_takeable script past seat x ≡ true → goes_before x c ≡ false)
        (waiting script past) d best.none_before other.takeable.0 other.takeable.1)
        (All-contains (λ x. is_takeable script past seat x ≡ true → goes_before x d ≡ false)
        (waiting script past) c other.none_before best.takeable.0 best.takeable.1)))
