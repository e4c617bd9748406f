-- When a sequence waits as before: where it runs or not as before, and keeps its head and its priority. So it is at each entry
-- that touches no sequence and no priority, and at the driver's main tasks.
-- Cited by `Choice/Candidates`, `pool_core`.
use Rattle.std.proofs.Common.{◌≡◌, ℕ, Bool, true, false, cond, List, [], ◌∷◌, ◌++◌, refl, ◌∙◌, Option, Some, None}
use Rattle.std.specs.Option.{option_map}
use Rattle.std.proofs.lemmas.Bool.{true≢false}
use Rattle.task_base.specs.Plan.{Plan}
use Rattle.task_base.specs.declared.entry.Entry.{Entry}
use Rattle.task_base.specs.declared.entry.Kind.{Kind}
use Rattle.task_base.specs.declared.entry.Kind.TheVariants as kinds
use Rattle.task_model.specs.Keys.{Ready}
use Rattle.task_model.specs.Sequences.{head_of}
use Rattle.task_model.specs.Seats.{runs_sequence}
use Rattle.task_model.specs.Capacity.{priority_of, priority_after}
use Rattle.task_model.specs.Sources.{sequence_candidate, sequence_waiting}
use Rattle.pool_laws.specs.Keys.{sequence_parts}
use Rattle.pool_laws.specs.Seats.{moves_main, runs_pool_task, main_parts, running_parts}
use Rattle.pool_laws.specs.Choice.{moves_priorities, moves_sequence_waiting, sequence_waiting_parts}
use Rattle.task_model.proofs.Growth.{priority_of_push}
use Rattle.pool_laws.proofs.Keys.Sequences.{head_same}
use Rattle.pool_laws.proofs.Seats.Running.{runs_same, runs_at_main}
use Rattle.pool_laws.specs.Moves.{Priorities}
use Rattle.pool_laws.proofs.Moves.{moves_fewer, moves_apart}

-- the priorities of the runners are the same in a later past
abbrev PrioritiesKept : Plan → List Entry → List Entry → Type 0
PrioritiesKept script past later = (runner : ℕ) → priority_of script later runner ≡ priority_of script past runner

pub priority_same : (script : Plan) (past : List Entry) (e : Entry) → moves_priorities e.kind ≡ false → PrioritiesKept script past (past ++ e ∷ [])
priority_same script past e quiet runner = priority_of_push script past e runner ∙ still e.kind quiet
  where
    still : (kind : Kind) → moves_priorities kind ≡ false → priority_after runner (priority_of script past runner) kind ≡ priority_of script past runner
    still (kinds.Reprio changed priority) h = absurd (true≢false h)
    still kind h = refl

-- a sequence by whether it runs, and its head
waits_by : (script : Plan) (past later : List Entry) (s : ℕ) (b : Bool) (o : Option Ready) → runs_sequence script later s ≡ b → head_of script later s ≡ o
    → PrioritiesKept script past later
    → sequence_waiting script later s ≡ cond b None (option_map (sequence_candidate script past s) o)
waits_by script past later s b None runs head priorities = rw (runs, head) refl
waits_by script past later s b (Some r) runs head priorities = rw (runs, head, priorities r.posted.home) refl

-- a sequence that runs or not as before, and keeps its head, waits as before where the priorities are kept
pub sequence_waiting_kept : (script : Plan) (past later : List Entry) (s : ℕ) → runs_sequence script later s ≡ runs_sequence script past s
    → head_of script later s ≡ head_of script past s
    → PrioritiesKept script past later
    → sequence_waiting script later s ≡ sequence_waiting script past s
sequence_waiting_kept script past later s runs head priorities =
    waits_by script past later s (runs_sequence script past s) (head_of script past s) runs head priorities

pub sequence_waiting_same : (script : Plan) (past : List Entry) (e : Entry) (s : ℕ) → moves_sequence_waiting e.kind ≡ false
    → sequence_waiting script (past ++ e ∷ []) s ≡ sequence_waiting script past s
sequence_waiting_same script past e s quiet = sequence_waiting_kept script past (past ++ e ∷ []) s
    (runs_same script past e s (moves_fewer running_parts sequence_waiting_parts e.kind refl quiet))
    (head_same script past e s (moves_fewer sequence_parts sequence_waiting_parts e.kind refl quiet))
    (priority_same script past e (moves_fewer (Priorities ∷ []) sequence_waiting_parts e.kind refl quiet))

pub sequence_waiting_at_main : (script : Plan) (past : List Entry) (e : Entry) (s : ℕ) → moves_main e.kind ≡ true → runs_pool_task past e.seat ≡ false
    → sequence_waiting script (past ++ e ∷ []) s ≡ sequence_waiting script past s
sequence_waiting_at_main script past e s main none = sequence_waiting_kept script past (past ++ e ∷ []) s (runs_at_main script past e s main none)
    (head_same script past e s (moves_apart main_parts sequence_parts e.kind refl main))
    (priority_same script past e (moves_apart main_parts (Priorities ∷ []) e.kind refl main))
