-- What is known of a legal past in which no seat runs a task or holds an item: no work is done, so all groups have room.
-- Cited by `Laws/Progress/Blockers`, `Laws/Progress/Jobs`, `Laws/Progress/Ways`, `Laws/Progress/Workers`.
use Rattle.std.proofs.Common.{◌≡◌, ℕ, ◌+◌, ◌≤◌, Bool, true, false, cond, List, [], length, refl, sym, ap, ◌∙◌, Option, Some, None, arith}
use Rattle.std.specs.Prelude.{◌&&◌, ◌==◌, not, nat_lt}
use Rattle.std.proofs.lemmas.Bool.{and_from, lt-ltb, ltb-true, or_right}
use Rattle.task_base.specs.Plan.{Plan}
use Rattle.task_base.specs.Groups.{Group, Foreground, Background, is_best_effort, group_of}
use Rattle.task_base.specs.declared.entry.Entry.{Entry}
use Rattle.task_traits.specs.declared.traits.Priority.{Priority}
use Rattle.list_laws.specs.Lists.{holds_of}
use Rattle.list_laws.proofs.Filters.{filter_never}
use Rattle.script_model.specs.Laws.Sound.{IsSound}
use Rattle.task_model.specs.Seats.{Running, Holding, running, holding, is_quiet, worker_seats, all_seats, inside, runs_of, runs_sequence}
use Rattle.task_model.specs.Capacity.{limit, best_limit, work_at, load_of, is_in, is_best_in, load, capacity, best_load, best_capacity, has_room}
use Rattle.task_model.specs.Jobs.{claimed, done}
use Rattle.pool_laws.proofs.Room.Capacity.{free_parts}
use Rattle.pool_laws.proofs.Seats.Running.{quiet_is_free, no_seat_runs}
use Rattle.hist_model.specs.Legal.{IsLegal}
use Rattle.hist_model.proofs.Laws.Claims.{claimed_is}
use Rattle.hist_model.proofs.Laws.HoldsApart.{legal_holds_apart}
use Rattle.hist_model.proofs.Laws.Progress.Tasks.{runner_known}

-- a legal past in which no seat runs a task, and none holds an item
pub record Quiet (script : Plan) (past : List Entry) : Type 0 where
  pub legal : IsLegal script past
  pub quiet : is_quiet script past ≡ true
  pub runs : (seat : ℕ) → running past seat ≡ None
  pub holds : (seat : ℕ) → holding past seat ≡ None

pub is_quiet_now : (script : Plan) (past : List Entry) → IsLegal script past → is_quiet script past ≡ true → Quiet script past
is_quiet_now script past legal quiet = record {
  legal = legal;
  quiet = quiet;
  runs = λ seat. runs seat (running past seat) refl;
  holds = λ seat. holds seat (holding past seat) refl;
}
  where
    free : (seat : ℕ) → seat ≤ script.workers → (running past seat ≡ None) × (holding past seat ≡ None)
    free seat known = free_parts past seat (quiet_is_free script past seat quiet (omega (arith, known)))

    runs : (seat : ℕ) (o : Option Running) → running past seat ≡ o → o ≡ None
    runs seat None is = refl
    runs seat (Some w) is = sym is ∙ (free seat (runner_known script past seat w legal is)).0

    holds : (seat : ℕ) (o : Option Holding) → holding past seat ≡ o → o ≡ None
    holds seat None is = refl
    holds seat (Some h) is = sym is ∙ (free seat ((legal_holds_apart script past legal).known seat h is)).1

-- no sequence runs
pub no_sequence_runs : (script : Plan) (past : List Entry) (s : ℕ) → Quiet script past → runs_sequence script past s ≡ false
no_sequence_runs script past s q = no_seat_runs script past s (λ seat known. ap (holds_of (runs_of script s)) (q.runs seat))

-- nobody is inside a job, so each claimed item is done
pub nobody_inside : (script : Plan) (past : List Entry) (j : ℕ) → Quiet script past → inside script past j ≡ []
unfolding inside
nobody_inside script past j q = filter_never (λ seat. holds_of (λ h. h.job == j) (holding past seat)) (all_seats script)
    (λ seat. ap (holds_of (λ h. h.job == j)) (q.holds seat))

pub all_done : (script : Plan) (past : List Entry) (j : ℕ) → Quiet script past → claimed past j ≡ done past j
all_done script past j q = omega (arith, claimed_is script past j q.legal, ap length (nobody_inside script past j q))

-- no work is done
no_load : (script : Plan) (past : List Entry) (test : Priority → Bool) → Quiet script past → load_of script past test ≡ 0
no_load script past test q = ap length (filter_never (λ seat. holds_of test (work_at script past seat)) (worker_seats script)
    (λ seat. ap (holds_of test) (idle seat)))
  where
    idle : (seat : ℕ) → work_at script past seat ≡ None
    idle seat = rw (q.runs seat, q.holds seat) refl

-- each group of a sound script may do some work
some_limit : (script : Plan) (priority : Priority) → IsSound script
    → (1 ≤ limit script (group_of script priority)) × (1 ≤ best_limit script (group_of script priority))
some_limit script priority sound = by_best_effort (is_best_effort priority) (nat_lt 0 script.background) refl
  where
    by_best_effort : (b c : Bool) → nat_lt 0 script.background ≡ c
        → (1 ≤ limit script (cond (b && c) Background Foreground)) × (1 ≤ best_limit script (cond (b && c) Background Foreground))
    by_best_effort true true is = (omega (arith, ltb-true 0 script.background is), omega (arith, ltb-true 0 script.background is))
    by_best_effort true false is = (sound.config.some_foreground, sound.config.some_best)
    by_best_effort false c is = (sound.config.some_foreground, sound.config.some_best)

-- so there is room for work of each priority
pub has_room_now : (script : Plan) (past : List Entry) (priority : Priority) → IsSound script → Quiet script past → has_room script past priority ≡ true
unfolding has_room load capacity best_load best_capacity
has_room_now script past priority sound q = and_from _ _ (less _ _ _ (no_load script past (is_in script group) q) (some_limit script priority sound).0)
    (or_right (not (is_best_effort priority)) _
    (less _ _ _ (no_load script past (is_best_in script group) q) (some_limit script priority sound).1))
  where
    group : Group
    group = group_of script priority

    less : (work most blocked : ℕ) → work ≡ 0 → 1 ≤ most → nat_lt work (most + blocked) ≡ true
    less work most blocked none some = lt-ltb work (most + blocked) (omega (arith, none, some))
