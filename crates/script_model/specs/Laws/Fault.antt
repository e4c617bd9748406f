-- What the first fault of bytes is, without a recursion over the lines.
use Rattle.std.specs.Prelude.{◌≡◌, ℕ, List, take, slice_get, Some, Ok, Err}
use Rattle.script_model.specs.Words.{lines_of}
use Rattle.script_model.specs.Draft.{Draft, empty_draft}
use Rattle.script_model.specs.Lines.{line_read}
use Rattle.script_model.specs.Grammar.{lines_read}

-- the first k lines give a draft, and the line behind them is bad behind that draft, for this reason (this project's
-- own rule)
pub record IsFaultBehind (bytes : List ℕ) (k reason : ℕ) : Type 0 where
  pub draft : Draft
  pub line : List ℕ
  pub before : lines_read empty_draft 1 (take k (lines_of bytes)) ≡ Ok draft
  pub here : slice_get (lines_of bytes) k ≡ Some line
  pub fault : line_read draft line ≡ Err reason
