-- What following one entry of a log tells and leaves.
use Rattle.std.specs.Prelude.{◌≡◌, Bool, true, [], ◌∷◌, ◌++◌}
use Rattle.task_base.specs.declared.entry.Entry.{Entry}
use Rattle.hist_model.specs.Allowed.{is_allowed}
use Rattle.env_core.specs.Views.{EnvView}

-- the answer says whether the entry may come, and where it may the history has it at its end
pub record Follows (before after : EnvView) (entry : Entry) (answer : Bool) : Type 0 where
  pub judged : answer ≡ is_allowed before.script before.history entry
  pub goes_on : answer ≡ true → after ≡ record before { history = before.history ++ entry ∷ [] }
