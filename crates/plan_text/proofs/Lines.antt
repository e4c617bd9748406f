-- The line of the first action, a line at a time.
-- Cited by `action_line`.
use Rattle.std.proofs.Common.{◌≡◌, ℕ, ◌+◌, true, false, cond, List, [], ◌∷◌, length, drop, refl, ap, ◌∙◌, Some, None, arith}
use Rattle.std.specs.Prelude.{slice_get}
use Rattle.plan_text.specs.ActionLine.{first_action, is_action}

-- where the first line is an action, its number
pub first_found : (number : ℕ) (lines : List (List ℕ)) (line : List ℕ) → slice_get lines 0 ≡ Some line → is_action line ≡ true → first_action number lines ≡
    number
unfolding first_action
first_found number [] line here acts = absurd cc
first_found number (first ∷ lines) line here acts =
    let same : first ≡ line = cc in
    ap (λ it. cond (is_action it) number (first_action (number + 1) lines)) same ∙ ap (λ it. cond it number (first_action (number + 1) lines)) acts

-- where it is none, that of the lines after it
pub first_later : (number : ℕ) (lines : List (List ℕ)) (line : List ℕ) → slice_get lines 0 ≡ Some line → is_action line ≡ false
    → first_action number lines ≡ first_action (number + 1) (drop 1 lines)
unfolding first_action
first_later number [] line here acts = absurd cc
first_later number (first ∷ lines) line here acts =
    let same : first ≡ line = cc in
    ap (λ it. cond (is_action it) number (first_action (number + 1) lines)) same ∙ ap (λ it. cond it number (first_action (number + 1) lines)) acts

-- where there is no line, 0
pub first_none : (number : ℕ) (lines : List (List ℕ)) → slice_get lines 0 ≡ None → first_action number lines ≡ 0
unfolding first_action
first_none number [] here = refl
first_none number (first ∷ lines) here = absurd cc

-- there is a line, so one fewer is left after it
pub one_fewer : (lines : List (List ℕ)) (line : List ℕ) → slice_get lines 0 ≡ Some line → length (drop 1 lines) + 1 ≡ length lines
one_fewer [] line here = absurd cc
one_fewer (first ∷ lines) line here = omega arith
