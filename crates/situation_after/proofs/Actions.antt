-- As some actions begin, the driver is at the first of them that asks for an entry.
-- Cited by `driver.rt`.
use Rattle.std.proofs.Common.{◌≡◌, ℕ, zero, suc, true, false, List, [], ◌∷◌, length, refl, arith}
use Rattle.std.proofs.lemmas.Bool.{eqb-true}
use Rattle.task_base.specs.declared.script.Action.{Action}
use Rattle.task_base.specs.declared.script.Action.TheVariants as actions
use Rattle.hist_model.specs.Laws.Agenda.{agenda_from}
use Rattle.log_count.specs.After.{driver_of}
use Rattle.situation_after.specs.Actions.{is_nothing}

pub begins_at_first : (action : Action) (rest : List Action) (left made : ℕ) → is_nothing action ≡ false → left ≡ length (action ∷ rest) → made ≡ 0
    → record { left = left; made = made } ≡ driver_of (agenda_from (action ∷ rest) [])
begins_at_first (actions.Tick zero) rest left made some left_is made_is = absurd cc
begins_at_first (actions.Tick (suc n)) rest left made some left_is made_is = rw (left_is, made_is) refl
begins_at_first action rest left made some left_is made_is = rw (left_is, made_is) refl

pub passes_nothing : (action : Action) (rest : List Action) → is_nothing action ≡ true
    → driver_of (agenda_from (action ∷ rest) []) ≡ driver_of (agenda_from rest [])
passes_nothing (actions.Tick zero) rest none = refl
passes_nothing (actions.Tick (suc n)) rest none = absurd (omega (arith, eqb-true (suc n) 0 none))
passes_nothing action rest none = absurd cc
