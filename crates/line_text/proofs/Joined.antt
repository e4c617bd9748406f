-- Words behind words are all of them joined by spaces.
-- Cited by `entry_lines`, `script_text`.
use Rattle.std.proofs.Common.{◌≡◌, ℕ, List, [], ◌∷◌, ◌++◌, refl, ◌∙◌, append_assoc}
use Rattle.std.specs.List.{join_with_byte}
use Rattle.line_text.specs.Words.{with_words}

-- a first word that is two texts is joined as the two texts
pub joins_first : (text word : List ℕ) (words : List (List ℕ)) → join_with_byte 32 ((text ++ word) ∷ words) ≡ text ++ join_with_byte 32 (word ∷ words)
joins_first text word [] = refl
joins_first text word (next ∷ words) = append_assoc text word (32 ∷ join_with_byte 32 (next ∷ words))

-- words behind a first word are all of them joined
pub with_words_joins : (first : List ℕ) (words : List (List ℕ)) → with_words first words ≡ join_with_byte 32 (first ∷ words)
with_words_joins first [] = refl
with_words_joins first (word ∷ []) = refl
with_words_joins first (word ∷ next ∷ words) =
    with_words_joins (first ++ 32 ∷ word) (next ∷ words) ∙ joins_first first (32 ∷ word) (next ∷ words)
