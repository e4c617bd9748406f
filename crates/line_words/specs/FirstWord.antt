-- Where the first word of a text stands.
use Rattle.std.specs.Prelude.{◌≡◌, ℕ, ◌+◌, ◌<◌, ◌≤◌, List, ◌∷◌, length, take, drop, slice_range}
use Rattle.script_model.specs.Words.{words_of}

-- the first word stands from start to end: wherever the text is cut behind it, the words of the front are this one and those behind it
pub record IsFirstWord (text : List ℕ) (start end : ℕ) : Type 0 where
  pub some : start < end
  pub within : end ≤ length text
  pub cut : (k : ℕ) → words_of (take (end + k) text) ≡ slice_range text start end ∷ words_of (take k (drop end text))
