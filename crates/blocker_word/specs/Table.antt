-- The rule of the table: its one word counts its tokens (this project's own rule).
use Rattle.std.specs.Prelude.{◌≡◌, ℕ, [], ◌∷◌}
use Rattle.atomic_table.specs.Table.{State}
use Rattle.blocker_word.specs.Word.{IsCounted}
use Rattle.blocker_word.specs.declared.view.View.{View}

-- the table has one word, which counts the views of its seats
pub record TableCounts (s : State ℕ View) : Type 0 where
  pub word : ℕ
  pub words_are : s.words ≡ word ∷ []
  pub counted : IsCounted word s.views
