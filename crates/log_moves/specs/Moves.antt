-- Where else in its log an entry might have come (this project's own rule).
use Rattle.std.specs.Prelude.{ℕ, ◌+◌, ◌-◌, ◌<◌, Bool, if◌then◌else◌, min, nat_lt, List, [], ◌∷◌, ◌++◌, length, take, Option, None}
use Rattle.std.specs.List.{find, range_with_len}
use Rattle.std.specs.Option.{option_map}
use Rattle.task_base.specs.Plan.{Plan}
use Rattle.task_base.specs.declared.entry.Entry.{Entry}
use Rattle.hist_model.specs.Legal.{IsLegal, is_legal}
use Rattle.log_moves.specs.declared.moves.TheConstants.{MOST_BEFORE, REACH}

-- the entry might have come before this one of the past: after those before that, it is legal
pub record IsBefore (script : Plan) (past : List Entry) (e : Entry) (place : ℕ) : Type 0 where
  pub within : place < length past
  pub legal : IsLegal script (take place past ++ e ∷ [])

-- the entry might have come after this one of those that follow it: the past, those up to there, and then the entry are legal
pub record IsAfter (script : Plan) (past : List Entry) (e : Entry) (rest : List Entry) (n : ℕ) : Type 0 where
  pub within : n < length rest
  pub legal : IsLegal script ((past ++ take (n + 1) rest) ++ e ∷ [])

-- the place of an entry of the past that has this number before the past's end, from 0
abbrev pub place_back : List Entry → ℕ → ℕ
place_back past back = length past - 1 - back

-- the entry might have come before that one
abbrev pub fits_before : Plan → List Entry → Entry → ℕ → Bool
fits_before script past e back = is_legal script (take (place_back past back) past ++ e ∷ [])

-- it might have come after this one of those that follow it
abbrev pub fits_after : Plan → List Entry → Entry → List Entry → ℕ → Bool
fits_after script past e rest n = is_legal script ((past ++ take (n + 1) rest) ++ e ∷ [])

-- the nearest entry of the past, of the last few, before which it might have come; none after a past that is too long
unfoldable pub before_of : Plan → List Entry → Entry → Option ℕ
before_of script past e =
    if nat_lt MOST_BEFORE (length past)
    then None
    else option_map (place_back past) (find (fits_before script past e) (range_with_len 0 (min REACH (length past))))

-- the nearest of the entries that follow it, of the first few, after which it might have come; none after a past that is too long
unfoldable pub after_of : Plan → List Entry → Entry → List Entry → Option ℕ
after_of script past e rest =
    if nat_lt MOST_BEFORE (length past) then None else find (fits_after script past e rest) (range_with_len 0 (min REACH (length rest)))
