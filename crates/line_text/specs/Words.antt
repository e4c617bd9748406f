-- The words of a line, and how a line grows by words.
use Rattle.std.specs.Prelude.{ℕ, List, [], ◌∷◌, ◌++◌, map}
use Rattle.std.specs.Borrow.{Bor}

-- the bytes of each word
abbrev pub texts : List (Bor (List ℕ)) → List (List ℕ)
texts words = map (λ word. word.now) words

-- a line with words behind it, each after a space
abbrev pub with_words : List ℕ → List (List ℕ) → List ℕ
with_words line [] = line
with_words line (word ∷ words) = with_words (line ++ 32 ∷ word) words
