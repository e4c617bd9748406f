-- The words of a short run, worked out by hand: each is what its tokens come to.
use Rattle.std.proofs.Common.{◌≡◌, ℕ, ◌+◌, ◌*◌, List, [], ◌∷◌, refl}
use Rattle.blocker_word.specs.Roles.{idle, item, refused, control, started, done}
use Rattle.blocker_word.specs.Word.{live_items, refused_begins, bits}
use Rattle.blocker_word.specs.Tokens.{fresh_token}
use Rattle.blocker_word.specs.declared.view.View.{View}

-- the word that counts these tokens
abbrev word_of : List View → ℕ
word_of tokens = 4 * (live_items tokens + refused_begins tokens) + bits tokens

made : word_of (fresh_token control 0 ∷ fresh_token idle 2 ∷ []) ≡ 0
made = refl

two_begun : word_of (fresh_token control 0 ∷ fresh_token item 1 ∷ fresh_token item 1 ∷ []) ≡ 8
two_begun = refl

shutdown_started : word_of (fresh_token started 0 ∷ fresh_token item 1 ∷ fresh_token item 1 ∷ []) ≡ 9
shutdown_started = refl

one_ended : word_of (fresh_token started 0 ∷ fresh_token idle 1 ∷ fresh_token item 1 ∷ []) ≡ 5
one_ended = refl

both_ended : word_of (fresh_token started 0 ∷ fresh_token idle 1 ∷ fresh_token idle 1 ∷ []) ≡ 1
both_ended = refl

shutdown_done : word_of (fresh_token done 0 ∷ fresh_token idle 1 ∷ fresh_token idle 1 ∷ []) ≡ 3
shutdown_done = refl

one_refused : word_of (fresh_token done 0 ∷ fresh_token refused 1 ∷ fresh_token idle 1 ∷ []) ≡ 7
one_refused = refl
