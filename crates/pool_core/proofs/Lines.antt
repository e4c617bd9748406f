-- What the lists of the sequences, and their cells, say of heads, of takes and of tasks that run; one more arrival.
-- Cited by `Pool::end`, `Pool::is_cell_out`, `Calls/Posts`, `Calls/Ripening`, `Calls/Takes`, `LineGrowth`, `Sources/Following`,
-- `Sources/Places`, `Works/AtSeat`, `next_entry`.
use Rattle.list_laws.proofs.Rises.{rises_last}
use Rattle.list_laws.proofs.Elements.{AllByRecursion-filter, AllByRecursion-map, AllByRecursion-mapped}
use Rattle.list_laws.proofs.Values.{eqb-same, some-injective}
use Rattle.list_laws.specs.Lists.{holds_of}
use Rattle.list_laws.specs.Sorts.{Rises}
use Rattle.pool_core.proofs.Accepted.{is_declared, one_post, runs_accepted}
use Rattle.pool_core.proofs.TakenKeys.{HasKey, arrivals_posted}
use Rattle.pool_core.specs.Lines.{AreLines, line_in, waiting_of}
use Rattle.pool_core.specs.Pasts.{IsPoolPast}
use Rattle.pool_core.specs.State.{pushed}
use Rattle.pool_laws.proofs.Keys.Arrivals.{head_is_first_arrival}
use Rattle.pool_laws.proofs.Seats.Running.{seat_runs}
use Rattle.pool_laws.specs.Keys.{ready_below, arrivals}
use Rattle.std.proofs.Common.{Bool, List, None, Some, [], ap, arith, cond, drop, eqb, false, length, map}
use Rattle.std.proofs.Common.{refl, subst, sym, true, ℕ, ◌++◌, ◌+◌, ◌-◌, ◌<◌, ◌∙◌, ◌∷◌, ◌≡◌, ◌≤◌}
use Rattle.std.proofs.lemmas.Bool.{and_from, and_right, eqb-false, eqb-true}
use Rattle.std.proofs.lemmas.List.{append-nil, get_or-set_other, get_or-set_same, length-set, map-append}
use Rattle.std.proofs.lemmas.List.Elements.{All-from_recursion, filter-append}
use Rattle.std.specs.List.{AllByRecursion}
use Rattle.std.specs.Option.{option_map}
use Rattle.std.specs.Prelude.{All, Contains, filter, find, slice_get, ◌&&◌, ◌==◌}
use Rattle.task_base.specs.Keys.{key_below}
use Rattle.task_base.specs.Plan.{Plan}
use Rattle.task_base.specs.Runners.{is_parallel, sequence_count, sequence_of}
use Rattle.task_base.specs.declared.entry.Entry.{Entry}
use Rattle.task_model.specs.Cells.{cell_of}
use Rattle.task_model.specs.Keys.{Ready, key_of}
use Rattle.task_model.specs.Posts.{Posted, posts}
use Rattle.pool_laws.specs.Posts.{post_of}
use Rattle.task_model.specs.Seats.{Running, running, runs_of, runs_sequence}
use Rattle.task_model.specs.Sequences.{head_of, is_of, may_start}
use Rattle.task_sequence.specs.Sequences.{Held, behind_first, first_of, fresh, given_of, sequence_at, with_sequence}
use Rattle.task_sequence.specs.Sequences as sequences

-- The sequences of the script.

-- the sequence of an accepted task is one of the script's
pub sequence_there : (script : Plan) (runner task : ℕ) → runner < length script.runners → task < length script.tasks
    → sequence_of script runner task < sequence_count script
sequence_there script runner task declared task_declared = by_parallel (holds_of (λ r. is_parallel r.kind) (slice_get script.runners runner))
  where
    by_parallel : (b : Bool) → cond b (length script.runners + task) runner < length script.runners + length script.tasks
    by_parallel true = omega arith
    by_parallel false = omega arith

-- the sequence of a task that runs is one of the script's
pub running_there : (script : Plan) (past : List Entry) (seat : ℕ) (w : Running) → IsPoolPast script past → running past seat ≡ Some w → w.is_main ≡ false
    → sequence_of script w.home w.task < sequence_count script
running_there script past seat w fits runs pool =
    let accepted : (p : Posted) × (post_of past w.task ≡ Some p) × (p.home ≡ w.home) × (p.task ≡ w.task) × Contains (posts past) p
    = runs_accepted script past seat w fits runs pool in
    let declared = is_declared script past accepted.0 fits accepted.4 in
    sequence_there script w.home w.task (subst (λ n. n < length script.runners) accepted.2 declared.0)
    (subst (λ n. n < length script.tasks) accepted.3 declared.1)

pub runs_of_it : (script : Plan) (past : List Entry) (seat : ℕ) (w : Running) (s : ℕ) → running past seat ≡ Some w → w.is_main ≡ false
    → holds_of (runs_of script s) (running past seat) ≡ (sequence_of script w.home w.task == s)
runs_of_it script past seat w s runs pool = rw (runs, pool) refl

-- the cell of a task that runs is out
pub out_while_running : (script : Plan) (past : List Entry) (known : List Ready) (held : Held) (seat : ℕ) (w : Running) → IsPoolPast script past
    → AreLines script past known held → running past seat ≡ Some w → w.is_main ≡ false → (sequence_at held (sequence_of script w.home w.task)).cell ≡ None
out_while_running script past known held seat w fits are runs pool =
    let at : seat ≤ script.workers = (fits.singly.runs seat w runs pool).can.known in
    are.cells q (running_there script past seat w fits runs pool)
    ∙ ap (λ b. cond b None (Some (cell_of script past q)))
    (seat_runs script past q seat (omega (arith, at)) (runs_of_it script past seat w q runs pool ∙ eqb-same q))
  where
    q : ℕ
    q = sequence_of script w.home w.task

-- The first of a list.

-- the first of what a filter keeps
first_kept : (script : Plan) (p : Ready → Bool) (xs : List Ready)
    → first_of (map (waiting_of script) (filter p xs)) ≡ option_map (λ r. (r.posted.task, r.key)) (find p xs)
first_kept script p [] = refl
first_kept script p (x ∷ xs) = elim (p x) as (λ b. first_of (map (waiting_of script) (cond b (x ∷ filter p xs) (filter p xs)))
    ≡ option_map (λ r. (r.posted.task, r.key)) (cond b (Some x) (find p xs))) [
      | true ↦ refl
      | false ↦ first_kept script p xs
    ]

given_kept : (script : Plan) (p : Ready → Bool) (xs : List Ready) (value : ℕ)
    → given_of (map (waiting_of script) (filter p xs)) (Some value) ≡ option_map (λ r. (r.posted.task, value)) (find p xs)
given_kept script p [] value = refl
given_kept script p (x ∷ xs) value = elim (p x) as (λ b. given_of (map (waiting_of script) (cond b (x ∷ filter p xs) (filter p xs))) (Some value)
    ≡ option_map (λ r. (r.posted.task, value)) (cond b (Some x) (find p xs))) [
      | true ↦ refl
      | false ↦ given_kept script p xs value
    ]

-- the head of a sequence stands first
pub first_is_head : (script : Plan) (past : List Entry) (held : Held) (s : ℕ) → IsPoolPast script past → AreLines script past (arrivals past) held
    → s < sequence_count script → first_of (sequence_at held s).tasks ≡ option_map (λ r. (r.posted.task, r.key)) (head_of script past s)
first_is_head script past held s fits are there =
    ap first_of (are.tasks s there)
    ∙ first_kept script (λ r. is_of script s r.posted && may_start script past r.posted) (arrivals past)
    ∙ ap (option_map (λ r. (r.posted.task, r.key))) (sym (head_is_first_arrival script past s fits.arrivals_are_ready))

-- a take is given the head, and what the cell holds
pub line_gives : (script : Plan) (past : List Entry) (held : Held) (s : ℕ) (head : Ready) → IsPoolPast script past → AreLines script past (arrivals past) held
    → s < sequence_count script → head_of script past s ≡ Some head → runs_sequence script past s ≡ false
    → given_of (sequence_at held s).tasks (sequence_at held s).cell ≡ Some (head.posted.task, cell_of script past s)
line_gives script past held s head fits are there is_head idle =
    ap (given_of (sequence_at held s).tasks) (are.cells s there ∙ ap (λ b. cond b None (Some (cell_of script past s))) idle)
    ∙ ap (λ ws. given_of ws (Some (cell_of script past s))) (are.tasks s there)
    ∙ given_kept script (λ r. is_of script s r.posted && may_start script past r.posted) (arrivals past) (cell_of script past s)
    ∙ ap (option_map (λ r. (r.posted.task, cell_of script past s))) (sym (head_is_first_arrival script past s fits.arrivals_are_ready) ∙ is_head)

-- a task arrives once
pub one_arrival : (script : Plan) (past : List Entry) (head : Ready) → IsPoolPast script past → Contains (posts past) head.posted
    → key_of past head.posted ≡ Some head.key
    → AllByRecursion (λ r. (head.posted.task == r.posted.task) ≡ true → r ≡ head) (arrivals past)
one_arrival script past head fits posted key = AllByRecursion-map (HasKey past)
    (λ r. (head.posted.task == r.posted.task) ≡ true → r ≡ head) (arrivals past)
    (λ r h is. same_key r h (some-injective (sym (one_post past r.posted fits.in_order h.0)
    ∙ ap (post_of past) (sym (eqb-true head.posted.task r.posted.task is))
    ∙ one_post past head.posted fits.in_order posted)))
    (arrivals_posted past fits.arrivals_are_ready)
  where
    same_key : (r : Ready) → HasKey past r → r.posted ≡ head.posted → r ≡ head
    same_key r h same =
        let keys : r.key ≡ head.key = some-injective (sym h.1 ∙ ap (key_of past) same ∙ key) in
        ap (λ p. record { posted = p; key = r.key }) same ∙ ap (λ k. record { posted = head.posted; key = k }) keys

pub behind_first-map : (script : Plan) (rs : List Ready) → behind_first (map (waiting_of script) rs) ≡ map (waiting_of script) (drop 1 rs)
behind_first-map script [] = refl
behind_first-map script (r ∷ rs) = refl

-- Lists of which one changes, and one more arrival.

-- what a sequence has to hold
abbrev Shows : Plan → List Entry → List Ready → sequences.Sequence → ℕ → Type 0
Shows script past arrived sequence s = (sequence.tasks ≡ map (waiting_of script) (line_in script past arrived s))
    × (sequence.cell ≡ cond (runs_sequence script past s) None (Some (cell_of script past s)))

-- one sequence is changed
pub lines_with : (script : Plan) (past : List Entry) (arrived : List Ready) (held : Held) (q : ℕ) (sequence : sequences.Sequence) (room : ℕ)
    → length held.sequences ≡ sequence_count script → q < sequence_count script → Shows script past arrived sequence q
    → ((s : ℕ) → (q == s) ≡ false → s < sequence_count script → Shows script past arrived (sequence_at held s) s)
    → AreLines script past arrived (record held { sequences = with_sequence held q sequence; room = room })
lines_with script past arrived held q sequence room all there here others = record {
  all = length-set held.sequences q sequence ∙ all;
  tasks = λ s known. (shows s known).0;
  cells = λ s known. (shows s known).1;
}
  where
    later : Held
    later = record held { sequences = with_sequence held q sequence; room = room }

    at_each : (s : ℕ) (b : Bool) → (q == s) ≡ b → s < sequence_count script → Shows script past arrived (sequence_at later s) s
    at_each s true is known = subst (λ t. Shows script past arrived (sequence_at later t) t) (eqb-true q s is)
        (subst (λ x. Shows script past arrived x q) (sym (get_or-set_same held.sequences q sequence fresh (omega (arith, there, all)))) here)
    at_each s false another known = subst (λ x. Shows script past arrived x s)
        (sym (get_or-set_other held.sequences q s sequence fresh (λ same. eqb-false q s another (sym same)))) (others s another known)

    shows : (s : ℕ) → s < sequence_count script → Shows script past arrived (sequence_at later s) s
    shows s known = at_each s (eqb q s) refl known

-- one more arrival
line_push : (script : Plan) (past : List Entry) (known : List Ready) (r : Ready) (s : ℕ) → line_in script past (known ++ r ∷ []) s
    ≡ line_in script past known s ++ cond (is_of script s r.posted && may_start script past r.posted) (r ∷ []) []
line_push script past known r s = filter-append (λ x. is_of script s x.posted && may_start script past x.posted) known (r ∷ [])

-- it changes no line where it may not start, or is of another sequence
line_kept : (script : Plan) (past : List Entry) (known : List Ready) (r : Ready) (s : ℕ) → (is_of script s r.posted && may_start script past r.posted) ≡ false
    → line_in script past (known ++ r ∷ []) s ≡ line_in script past known s
line_kept script past known r s none =
    line_push script past known r s
    ∙ ap (λ b. line_in script past known s ++ cond b (r ∷ []) []) none
    ∙ append-nil (line_in script past known s)

-- a task gets its key: it goes to the end of its sequence where it may start
pub lines_at_arrival : (script : Plan) (past : List Entry) (known : List Ready) (held : Held) (r : Ready) → AreLines script past known held
    → sequence_of script r.posted.home r.posted.task < sequence_count script → may_start script past r.posted ≡ true
    → AreLines script past (known ++ r ∷ []) (pushed held (sequence_of script r.posted.home r.posted.task) (waiting_of script r))
lines_at_arrival script past known held r are there may = lines_with script past (known ++ r ∷ []) held q
    (record (sequence_at held q) { tasks = (sequence_at held q).tasks ++ waiting_of script r ∷ [] }) (held.room - 1) are.all there (
      ap (λ ws. ws ++ waiting_of script r ∷ []) (are.tasks q there)
          ∙ sym (map-append (waiting_of script) (line_in script past known q) (r ∷ []))
          ∙ ap (map (waiting_of script)) (sym (line_push script past known r q ∙ ap (λ b. line_in script past known q ++ cond b (r ∷ []) []) joins)),
      are.cells q there,
    )
    (λ s another known_s. (
      are.tasks s known_s
          ∙ ap (map (waiting_of script)) (sym (line_kept script past known r s (ap (λ b. b && may_start script past r.posted) another))),
      are.cells s known_s,
    ))
  where
    q : ℕ
    q = sequence_of script r.posted.home r.posted.task

    joins : (is_of script q r.posted && may_start script past r.posted) ≡ true
    joins = and_from (is_of script q r.posted) (may_start script past r.posted) (eqb-same q) may

pub lines_at_barred : (script : Plan) (past : List Entry) (known : List Ready) (held : Held) (r : Ready) → AreLines script past known held
    → may_start script past r.posted ≡ false → AreLines script past (known ++ r ∷ []) held
lines_at_barred script past known held r are may = record {
  all = are.all;
  tasks = λ s there. are.tasks s there ∙ ap (map (waiting_of script))
      (sym (line_kept script past known r s (and_right (is_of script s r.posted) (may_start script past r.posted) may)));
  cells = are.cells;
}

-- its key is above those of its sequence
pub line_below : (script : Plan) (past : List Entry) (known : List Ready) (held : Held) (r : Ready) (s : ℕ) → AreLines script past known held
    → Rises ready_below (known ++ r ∷ []) → s < sequence_count script → All (λ w. key_below w.key r.key ≡ true) (sequence_at held s).tasks
line_below script past known held r s are rises there = subst (All (λ w. key_below w.key r.key ≡ true)) (sym (are.tasks s there))
    (All-from_recursion (λ w. key_below w.key r.key ≡ true) (map (waiting_of script) (line_in script past known s))
    (AllByRecursion-mapped (λ w. key_below w.key r.key ≡ true) (waiting_of script) (line_in script past known s)
    (AllByRecursion-filter (λ x. ready_below x r ≡ true) (λ x. is_of script s x.posted && may_start script past x.posted) known
    (rises_last ready_below known r rises))))
