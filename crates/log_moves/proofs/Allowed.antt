-- At the places that are named the entry is legal.
-- Cited by `place_after`, `place_before`.
use Rattle.std.proofs.Common.{◌≡◌, ℕ, ◌+◌, ◌-◌, ◌<◌, ◌≤◌, Bool, true, false, List, length, Option, Some, None, IfSome, refl, arith}
use Rattle.std.specs.Prelude.{find, if◌then◌else◌, min, nat_lt}
use Rattle.std.specs.List.{range_with_len}
use Rattle.std.specs.Option.{option_map}
use Rattle.list_laws.proofs.Pigeons.{found_in_range}
use Rattle.task_base.specs.Plan.{Plan}
use Rattle.task_base.specs.declared.entry.Entry.{Entry}
use Rattle.log_moves.specs.Moves.{IsAfter, IsBefore, after_of, before_of, fits_after, fits_before, place_back}
use Rattle.log_moves.specs.declared.moves.TheConstants.{MOST_BEFORE, REACH}

pub before_allowed : (script : Plan) (past : List Entry) (e : Entry) → IfSome (before_of script past e) (IsBefore script past e)
unfolding before_of
before_allowed script past e = by_length (nat_lt MOST_BEFORE (length past))
  where
    by_found : (o : Option ℕ) → find (fits_before script past e) (range_with_len 0 (min REACH (length past))) ≡ o
        → IfSome (option_map (place_back past) o) (IsBefore script past e)
    by_found None is = tt
    by_found (Some back) is =
        let found = found_in_range (fits_before script past e) 0 (min REACH (length past)) back is in
        record { within = omega (arith, found.1); legal = found.0 }

    by_length : (b : Bool) → IfSome (if b then None else option_map (place_back past) (find (fits_before script past e)
        (range_with_len 0 (min REACH (length past))))) (IsBefore script past e)
    by_length true = tt
    by_length false = by_found (find (fits_before script past e) (range_with_len 0 (min REACH (length past)))) refl

pub after_allowed : (script : Plan) (past : List Entry) (e : Entry) (rest : List Entry) → IfSome (after_of script past e rest) (IsAfter script past e rest)
unfolding after_of
after_allowed script past e rest = by_length (nat_lt MOST_BEFORE (length past))
  where
    by_found : (o : Option ℕ) → find (fits_after script past e rest) (range_with_len 0 (min REACH (length rest))) ≡ o
        → IfSome o (IsAfter script past e rest)
    by_found None is = tt
    by_found (Some n) is =
        let found = found_in_range (fits_after script past e rest) 0 (min REACH (length rest)) n is in
        record { within = omega (arith, found.1); legal = found.0 }

    by_length : (b : Bool) → IfSome (if b then None else find (fits_after script past e rest) (range_with_len 0 (min REACH (length rest))))
        (IsAfter script past e rest)
    by_length true = tt
    by_length false = by_found (find (fits_after script past e rest) (range_with_len 0 (min REACH (length rest)))) refl
