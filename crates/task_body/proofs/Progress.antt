-- What each step of a body brings: it does some steps at the front, or none is left.
-- Cited by `Assignment::step`, `ScriptBodyTaskBody::step`, `Consistent`, `env_core`, `env_crew`, `env_step`.
use Rattle.std.proofs.Common.{◌≡◌, ℕ, zero, suc, ◌+◌, ◌-◌, ◌<◌, List, [], ◌∷◌, ◌++◌, length, take, drop, refl}
use Rattle.std.proofs.Common.{sym, ap, ◌∙◌, add-one, Some, arith, length-append, length-drop}
use Rattle.std.proofs.Math.Seq.{take-append_seam, drop-cons}
use Rattle.std.proofs.lemmas.List.{take-append-drop}
use Rattle.std.proofs.lemmas.Option.{slice_get_within, get_or_from_slice_get}
use Rattle.std.specs.Prelude.{filter, slice_get}
use Rattle.task_base.specs.Steps.{after}
use Rattle.task_base.specs.declared.step.Step.{Step}
use Rattle.task_base.specs.declared.step.Step.TheVariants as steps
use Rattle.task_body.specs.declared.act.Act.{Act}
use Rattle.task_body.specs.declared.act.Act.TheVariants.{Did, Post, Main, Enter, Leave, Finished}
use Rattle.task_base.specs.Steps.{is_act}
use Rattle.task_body.specs.Bodies.{AssignmentView}
use Rattle.task_body.specs.Progress.{OnlyComputes, Progress, done_of}

-- the steps that were done at once, in front of those for later, and what they leave
pub record Does (rest : List Step) (value : ℕ) (later : List Step) (left : ℕ) : Type 0 where
  pub now : List Step
  pub parted : rest ≡ now ++ later
  pub leaves : left ≡ after now value

pub Progress-does : (rest : List Step) (value : ℕ) (act : Act) (later : List Step) (left : ℕ) → Progress rest value act later left
    → Does rest value later left
Progress-does rest value (Did count) later left h = record {
  now = take count rest;
  parted = sym (take-append-drop count rest) ∙ ap (λ l. take count rest ++ l) (sym h.dropped);
  leaves = h.leaves;
}
Progress-does rest value (Post task runner delay) later left h = record { now = steps.Post task runner delay ∷ []; parted = h.reached; leaves = h.stays }
Progress-does rest value (Main task queue delay) later left h = record { now = steps.Main task queue delay ∷ []; parted = h.reached; leaves = h.stays }
Progress-does rest value (Enter scope) later left h = record { now = steps.Block scope ∷ []; parted = h.reached; leaves = h.stays }
Progress-does rest value Leave later left h = record { now = steps.Unblock ∷ []; parted = h.reached; leaves = h.stays }
Progress-does rest value Finished later left h = record { now = []; parted = h.none ∙ sym h.none_later; leaves = h.stays }

-- after a step that is not Finished the rest is shorter
pub Progress-shorter : (rest : List Step) (value : ℕ) (act : Act) (later : List Step) (left : ℕ) → Progress rest value act later left
    → (act ≡ Finished → ⊥) → length later < length rest
Progress-shorter rest value (Did count) later left h other =
    omega (arith, h.some, h.within, length-drop count rest, ap length h.dropped)
Progress-shorter rest value (Post task runner delay) later left h other = omega (arith, ap length h.reached)
Progress-shorter rest value (Main task queue delay) later left h other = omega (arith, ap length h.reached)
Progress-shorter rest value (Enter scope) later left h other = omega (arith, ap length h.reached)
Progress-shorter rest value Leave later left h other = omega (arith, ap length h.reached)
Progress-shorter rest value Finished later left h other = absurd (other refl)

-- after Finished nothing is left
pub Progress-finished : (rest : List Step) (value : ℕ) (act : Act) (later : List Step) (left : ℕ) → Progress rest value act later left
    → act ≡ Finished → later ≡ []
Progress-finished rest value (Did count) later left h finished = absurd cc
Progress-finished rest value (Post task runner delay) later left h finished = absurd cc
Progress-finished rest value (Main task queue delay) later left h finished = absurd cc
Progress-finished rest value (Enter scope) later left h finished = absurd cc
Progress-finished rest value Leave later left h finished = absurd cc
Progress-finished rest value Finished later left h finished = h.none_later

-- the steps in front of the rest are those that are done
pub done_of-append : (done rest : List Step) → done_of (done ++ rest) rest ≡ done
done_of-append done rest =
    let e : length (done ++ rest) - length rest ≡ length done = omega (arith, length-append done rest) in
    ap (λ n. take n (done ++ rest)) e ∙ take-append_seam done rest

-- the steps from a place on are the one there and those from the next place on
pub drop-slice_get : (steps : List Step) (place : ℕ) (step : Step) → Some step ≡ slice_get steps place → drop place steps ≡ step ∷ drop (place + 1) steps
drop-slice_get steps place step is =
    drop-cons steps place step (slice_get_within steps place step (sym is))
    ∙ ap (λ x. x ∷ drop (suc place) steps) (get_or_from_slice_get steps place step step (sym is))
    ∙ ap (λ n. step ∷ drop n steps) (sym (add-one place))

-- compute steps in front are no act steps
pub computes_first : (n : ℕ) (rest : List Step) → OnlyComputes (take n rest) → filter is_act rest ≡ filter is_act (drop n rest)
computes_first zero rest computes = refl
computes_first (suc n) [] computes = refl
computes_first (suc n) (step ∷ rest) computes = rw computes.0 (computes_first n rest computes.1)

-- two changes of value and rest are one
pub stepped : (a b c : AssignmentView) → b ≡ record a { value = b.value; rest = b.rest } → c ≡ record b { value = c.value; rest = c.rest }
    → c ≡ record a { value = c.value; rest = c.rest }
stepped a b c first second = second ∙ ap (λ (x : AssignmentView). record x { value = c.value; rest = c.rest }) first
