-- The parts of an entry as JSON data, and what stands before a row.
use Rattle.std.specs.Prelude.{ℕ, ◌==◌, if◌then◌else◌, List, [], ◌∷◌}
use Rattle.serde_json.specs.Data.{Data, unsigned}
use Rattle.serde_json.specs.Data as data_
use Rattle.log_model.specs.LogText.{Part, word, number}

-- a part as JSON data: a word is a string
abbrev pub data_of : Part → Data
data_of (word bytes) = data_.string bytes
data_of (number n) = data_.number (unsigned n)

-- what stands before the row of a place: a comma, where it is not the first
abbrev pub before_row : ℕ → List ℕ
before_row place = if place == 0 then [] else 44 ∷ []
