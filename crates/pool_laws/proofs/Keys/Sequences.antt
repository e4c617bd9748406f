-- An entry that posts and takes nothing, is no tick, and leaves the phase leaves the eligible tasks of a sequence, and its head.
-- Cited by `Choice/Waiting`.
use Rattle.std.proofs.Common.{◌≡◌, ℕ, Bool, false, List, [], ◌∷◌, ◌++◌, refl, ap}
use Rattle.std.specs.Prelude.{◌&&◌, filter}
use Rattle.std.proofs.Math.Bool.{or-false}
use Rattle.task_base.specs.Plan.{Plan}
use Rattle.task_base.specs.declared.entry.Entry.{Entry}
use Rattle.task_traits.specs.declared.phase.Phase.{Phase}
use Rattle.list_laws.specs.Lists.{least}
use Rattle.task_model.specs.Phase.{phase_of, phase_after}
use Rattle.task_model.specs.Posts.{Posted, is_taken, takes}
use Rattle.task_model.specs.Keys.{Ready, ready}
use Rattle.task_model.specs.Sequences.{is_of, may_start, eligible, head_of}
use Rattle.pool_laws.specs.Keys.{moves_sequences, ready_below, ready_parts, sequence_parts}
use Rattle.task_model.proofs.Growth.{phase_of_push, is_taken_push}
use Rattle.list_laws.proofs.Filters.{filter_congr}
use Rattle.pool_laws.proofs.Keys.Ready.{ready_same}
use Rattle.pool_laws.proofs.Moves.{moves_fewer, no_take, same_phase}

abbrev chosen : Plan → List Entry → ℕ → Ready → Bool
chosen script past s r = is_of script s r.posted && may_start script past r.posted

-- an entry that takes nothing and leaves the phase leaves what may start
may_start_same : (script : Plan) (past : List Entry) (e : Entry) → ((t : ℕ) → takes t e.kind ≡ false) → ((phase : Phase) → phase_after phase e.kind ≡ phase)
    → (p : Posted) → may_start script (past ++ e ∷ []) p ≡ may_start script past p
may_start_same script past e no_take no_phase p =
    rw (is_taken_push past e p.task, no_take p.task, or-false (is_taken past p.task), phase_of_push past e, no_phase (phase_of past)) refl

chosen_same : (script : Plan) (past : List Entry) (e : Entry) (s : ℕ) → ((t : ℕ) → takes t e.kind ≡ false)
    → ((phase : Phase) → phase_after phase e.kind ≡ phase) → (xs : List Ready) → filter (chosen script (past ++ e ∷ []) s) xs ≡ filter (chosen script past s) xs
chosen_same script past e s no_take no_phase xs = filter_congr _ _ xs (λ r. rw (may_start_same script past e no_take no_phase r.posted) refl)

pub eligible_same : (script : Plan) (past : List Entry) (e : Entry) (s : ℕ) → moves_sequences e.kind ≡ false
    → eligible script (past ++ e ∷ []) s ≡ eligible script past s
unfolding eligible
eligible_same script past e s quiet = rw (ready_same past e (moves_fewer ready_parts sequence_parts e.kind refl quiet))
    (chosen_same script past e s (no_take sequence_parts e.kind refl quiet) (same_phase sequence_parts e.kind refl quiet) (ready past))

pub head_same : (script : Plan) (past : List Entry) (e : Entry) (s : ℕ) → moves_sequences e.kind ≡ false
    → head_of script (past ++ e ∷ []) s ≡ head_of script past s
unfolding head_of
head_same script past e s quiet = ap (least ready_below) (eligible_same script past e s quiet)
