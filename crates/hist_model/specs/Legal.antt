-- Which histories are legal.
use Rattle.std.specs.Prelude.{◌≡◌, ℕ, Bool, true, false, ◌&&◌, if◌then◌else◌, List, [], ◌∷◌, ◌++◌, length, Option, Some, None, IsTrue}
use Rattle.task_base.specs.Plan.{Plan}
use Rattle.task_base.specs.declared.entry.Entry.{Entry}
use Rattle.hist_model.specs.Allowed.{is_allowed}

-- each of these entries is allowed behind the past and those before it
abbrev pub legal_from : Plan → List Entry → List Entry → Bool
legal_from script past [] = true
legal_from script past (e ∷ rest) = is_allowed script past e && legal_from script (past ++ e ∷ []) rest

-- each entry is allowed after those before it
unfoldable pub is_legal : Plan → List Entry → Bool
is_legal script log = legal_from script [] log

-- the history is legal for the script
abbrev pub IsLegal : Plan → List Entry → Type 0
IsLegal script log = IsTrue (is_legal script log)

-- the place of the first of these entries that is not allowed
abbrev pub illegal_from : Plan → List Entry → List Entry → Option ℕ
illegal_from script past [] = None
illegal_from script past (e ∷ rest) = if is_allowed script past e then illegal_from script (past ++ e ∷ []) rest else Some (length past)

-- the least place whose entry is not allowed after those before it
unfoldable pub first_illegal : Plan → List Entry → Option ℕ
first_illegal script log = illegal_from script [] log

-- the history is legal up to this place, and the entry there is not allowed
pub record IsIllegalAt (script : Plan) (log : List Entry) (place : ℕ) : Type 0 where
  pub past : List Entry
  pub entry : Entry
  pub rest : List Entry
  pub parts : log ≡ past ++ entry ∷ rest
  pub place_is : length past ≡ place
  pub legal_before : IsLegal script past
  pub not_allowed : is_allowed script past entry ≡ false
