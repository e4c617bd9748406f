-- An entry that sets no policy and leaves the phase leaves which work is held back.
-- Cited by `Choice/Candidates`.
use Rattle.std.proofs.Common.{◌≡◌, false, List, [], ◌∷◌, ◌++◌, refl}
use Rattle.task_base.specs.declared.entry.Entry.{Entry}
use Rattle.task_traits.specs.declared.traits.Priority.{Priority}
use Rattle.task_model.specs.Phase.{phase_of}
use Rattle.task_model.specs.Policies.{policy_of, is_held}
use Rattle.pool_laws.specs.Choice.{moves_held, held_parts}
use Rattle.task_model.proofs.Growth.{phase_of_push, policy_of_push}
use Rattle.pool_laws.proofs.Moves.{same_phase, same_policy}

pub held_same : (past : List Entry) (e : Entry) (priority : Priority) → moves_held e.kind ≡ false → is_held (past ++ e ∷ []) priority ≡ is_held past priority
held_same past e priority quiet = rw (
  phase_of_push past e,
  policy_of_push past e,
  same_phase held_parts e.kind refl quiet (phase_of past),
  same_policy held_parts e.kind refl quiet (policy_of past),
) refl
