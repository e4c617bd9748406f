-- What is found, a seat at a time.
-- Cited by `places_onward`.
use Rattle.std.proofs.Common.{◌≡◌, ℕ, ◌+◌, [], ◌∷◌, ◌++◌, Option, Some, None, refl, ap, ◌∙◌, arith}
use Rattle.std.specs.List.{cons_option, filter_map, range_with_len}
use Rattle.std.specs.Option.{option_to_list}
use Rattle.std.proofs.lemmas.List.Elements.{filter_map-append}
use Rattle.list_laws.proofs.Ranges.{range_split}

pub seat_more : {A : Type 0} (f : ℕ → Option A) (n : ℕ)
    → filter_map f (range_with_len 0 (n + 1)) ≡ filter_map f (range_with_len 0 n) ++ option_to_list (f n)
seat_more {A = A} f n =
    ap (filter_map f) (range_split 0 n 0 (n + 1) n (omega arith) (omega arith)) ∙ filter_map-append f (range_with_len 0 n) (n ∷ [])
    ∙ ap (λ l. filter_map f (range_with_len 0 n) ++ l) (alone (f n))
  where
    alone : (o : Option A) → cons_option o [] ≡ option_to_list o
    alone None = refl
    alone (Some x) = refl
