use Rattle.std.proofs.Common.{List, None, Option, Some, ap, arith, length, suc, sym, true, zero, [], ℕ, ◌<◌, ◌∙◌, ◌∷◌, ◌≡◌}
use Rattle.std.proofs.lemmas.Option.{slice_get-get_or}
use Rattle.std.specs.Prelude.{is_some, slice_get, slice_index_or, unwrap_or}
use Rattle.env_core.proofs.drawer.take_body.Goals as goal

-- what is found stands within the list
found_within : {X : Type 0} (xs : List (Option X)) (i : ℕ) → is_some (unwrap_or (slice_get xs i) None) ≡ true → i < length xs
found_within [] i is = absurd cc
found_within (x ∷ xs) zero is = omega arith
found_within (x ∷ xs) (suc i) is = omega (arith, found_within xs i is)

-- what stands at the place is what was found
stands_there : {X : Type 0} (xs : List (Option X)) (i : ℕ) (slot : Option X) → is_some (unwrap_or (slice_get xs i) None) ≡ true
    → slot ≡ slice_index_or xs i slot → slice_get xs i ≡ Some slot
stands_there xs i slot is at = slice_get-get_or xs i slot (found_within xs i is) ∙ ap Some (sym at)

pub index_mut-requires : goal.index_mut-requires
index_mut-requires g c = omega (arith, found_within c.args.bodies.now.items c.args.task c.requires, c.args.bodies.now.ok.0)

pub unwrap-requires : goal.unwrap-requires
unwrap-requires g c =
    let there = stands_there c.args.bodies.now.items c.args.task c.index_mut.result.now c.requires c.index_mut.ensures.value in
    rw c.take.ensures.value (sym (ap (λ o. is_some (unwrap_or o None)) there) ∙ c.requires)

pub returns-clause-body : goal.returns-clause-body
returns-clause-body g c =
    stands_there c.args.bodies.now.items c.args.task c.index_mut.result.now c.requires c.index_mut.ensures.value
    ∙ ap Some (sym c.take.ensures.value ∙ c.unwrap.ensures)
