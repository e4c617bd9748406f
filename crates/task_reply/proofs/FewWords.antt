-- The first six words of a line tell what it says.
-- Cited by `read_line`.
use Rattle.std.proofs.Common.{◌≡◌, ℕ, List, [], ◌∷◌, take, refl}
use Rattle.task_reply.specs.Replies.{reply_said, reply_words_said}

pub words_said-six : (words : List (List ℕ)) → reply_words_said (take 6 words) ≡ reply_words_said words
unfolding reply_said
words_said-six [] = refl
words_said-six (a ∷ []) = refl
words_said-six (a ∷ b ∷ []) = refl
words_said-six (a ∷ b ∷ c ∷ []) = refl
words_said-six (a ∷ b ∷ c ∷ d ∷ []) = refl
words_said-six (a ∷ b ∷ c ∷ d ∷ e ∷ []) = refl
words_said-six (a ∷ b ∷ c ∷ d ∷ e ∷ f ∷ words) = refl
