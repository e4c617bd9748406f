-- The lists of the sequences, and their cells, at each entry.
-- Cited by `Calls/EmptyPool`, `Calls/Ends`, `Calls/Kept`, `Calls/Others`, `Calls/Posts`, `Calls/Reprio`, `Calls/Shutdown`, `Calls/Takes`,
-- `Calls/Ticks`, `Jobs/JobStands`.
use Rattle.pool_laws.proofs.Seats.Runs.{singly_unended}
use Rattle.list_laws.proofs.Rises.{found_dropped}
use Rattle.list_laws.proofs.Elements.{AllByRecursion-map}
use Rattle.list_laws.proofs.Filters.{filter-filter, filter-map, filter_congr, filter_congr_in, filter_never, filter_none}
use Rattle.list_laws.proofs.Finds.{contained_counts}
use Rattle.list_laws.proofs.Tests.{list_any_never}
use Rattle.list_laws.proofs.Values.{eqb-same}
use Rattle.pool_core.proofs.Accepted.{head_accepted, others_run_others}
use Rattle.pool_core.proofs.Lines.{behind_first-map, lines_with, one_arrival, running_there, runs_of_it}
use Rattle.pool_core.proofs.Lists.{or_none}
use Rattle.pool_core.proofs.TakenKeys.{HasKey, arrivals_posted, head_key}
use Rattle.pool_core.specs.Calls.{after_done, after_end, after_shutdown}
use Rattle.pool_core.specs.Lines.{AreLines, line_in, waiting_of}
use Rattle.pool_core.specs.Pasts.{IsPoolPast}
use Rattle.pool_laws.proofs.Choice.Least.{ranks_key}
use Rattle.pool_laws.proofs.Keys.Arrivals.{arrivals_rise, arrivals_same, head_is_first_arrival}
use Rattle.pool_laws.proofs.Seats.Cells.{cell_at_end, cell_same}
use Rattle.pool_laws.proofs.Seats.Running.{runs_at_end, runs_at_main, runs_at_other_end, runs_at_take, runs_same}
use Rattle.pool_laws.specs.Keys.{ready_below, arrivals}
use Rattle.pool_laws.specs.Seats.{moves_main, runs_pool_task, main_parts, running_parts}
use Rattle.std.proofs.Common.{Bool, List, None, Some, [], ap, arith, cond, eqb, false, get_or, length}
use Rattle.std.proofs.Common.{map, refl, subst, sym, true, ℕ, ◌++◌, ◌+◌, ◌<◌, ◌∙◌, ◌∷◌, ◌≡◌, ◌≤◌}
use Rattle.std.proofs.lemmas.Bool.{and_from, and_left, and_parts, and_right, false_from_ne_true, not-true, not_from_false, or_right}
use Rattle.std.proofs.lemmas.List.{get_or-map, get_or-replicate, length-map, length-replicate}
use Rattle.std.specs.List.{AllByRecursion}
use Rattle.std.specs.Prelude.{Contains, filter, not, replicate, slice_index_or, ◌&&◌, ◌==◌, ◌||◌}
use Rattle.task_base.specs.Plan.{Plan}
use Rattle.task_base.specs.Runners.{sequence_count, sequence_of}
use Rattle.task_base.specs.declared.entry.Entry.{Entry}
use Rattle.task_model.proofs.Growth.{is_taken_push, phase_of_push}
use Rattle.task_model.specs.Blockers.{block_part, blockers_of, is_block, is_open_block}
use Rattle.task_model.specs.Cells.{cell_of}
use Rattle.task_model.specs.Keys.{Ready}
use Rattle.task_model.specs.Past.{fold_past}
use Rattle.task_model.specs.Phase.{phase_after, phase_of, started_from}
use Rattle.task_model.specs.Posts.{Posted, is_ended, is_taken, posts, takes}
use Rattle.task_model.specs.Refusal.{effective_at, is_forbidden}
use Rattle.task_model.specs.Seats.{Running, all_seats, running, runs_sequence}
use Rattle.task_model.specs.Sequences.{head_of, is_of, may_start}
use Rattle.task_sequence.specs.Sequences.{Held, behind_first, fresh, may_stay, purged, sequence_at, with_sequence}
use Rattle.task_traits.specs.Behaviour.{forbids}
use Rattle.task_traits.specs.declared.traits.Behaviour.{Behaviour}
use Rattle.task_base.specs.declared.entry.Kind.TheVariants as kinds
use Rattle.task_sequence.specs.Sequences as sequences
use Rattle.task_traits.specs.declared.phase.Phase.TheVariants as phases
use Rattle.task_traits.specs.declared.traits.Behaviour.TheVariants as behaviours
use Rattle.task_base.specs.Entries.{next}
use Rattle.pool_laws.specs.Moves.{Ends, moves}
use Rattle.pool_laws.proofs.Moves.{moves_fewer, moves_apart, no_take, same_phase}
use Rattle.pool_core.specs.Others.{line_parts}

pub lines_at_start : (script : Plan) (held : Held) → held.sequences ≡ replicate (sequence_count script) fresh → AreLines script [] (arrivals []) held
unfolding arrivals cell_of fold_past running runs_sequence
lines_at_start script held fresh_all = record {
  all = ap length fresh_all ∙ length-replicate (sequence_count script) fresh;
  tasks = λ s there. ap (λ x. x.tasks) (at s there);
  cells = λ s there. ap (λ x. x.cell) (at s there) ∙ sym (home s);
}
  where
    at : (s : ℕ) → s < sequence_count script → sequence_at held s ≡ fresh
    at s there = ap (λ ss. slice_index_or ss s fresh) fresh_all ∙ get_or-replicate (sequence_count script) s fresh fresh there

    home : (s : ℕ) → cond (runs_sequence script [] s) None (Some (cell_of script [] s)) ≡ Some 0
    home s = ap (λ b. cond b None (Some 0)) (list_any_never (λ seat. false) (all_seats script) (λ seat. refl))

-- Whatever keeps what may start, what runs, and the cells.

starts_same : (script : Plan) (past : List Entry) (e : Entry) (p : Posted) → takes p.task e.kind ≡ false
    → phase_after (phase_of past) e.kind ≡ phase_of past → may_start script (past ++ e ∷ []) p ≡ may_start script past p
starts_same script past e p untaken same =
    ap (λ b. not b && not (is_forbidden script (past ++ e ∷ []) p)) (is_taken_push past e p.task ∙ or_none (is_taken past p.task) (takes p.task e.kind) untaken)
    ∙ ap (λ phase. not (is_taken past p.task) && not (forbids phase (effective_at script p.home p.delay))) (phase_of_push past e ∙ same)

lines_same : (script : Plan) (past later : List Entry) (arrived : List Ready) (held : Held)
    → ((p : Posted) → may_start script later p ≡ may_start script past p) → ((s : ℕ) → runs_sequence script later s ≡ runs_sequence script past s)
    → ((s : ℕ) → cell_of script later s ≡ cell_of script past s) → AreLines script past arrived held → AreLines script later arrived held
lines_same script past later arrived held may runs cell are = record {
  all = are.all;
  tasks = λ s there. are.tasks s there ∙ ap (map (waiting_of script)) (filter_congr (λ r. is_of script s r.posted && may_start script past r.posted)
      (λ r. is_of script s r.posted && may_start script later r.posted) arrived (λ r. ap (λ b. is_of script s r.posted && b) (sym (may r.posted))));
  cells = λ s there. rw (runs s, cell s) (are.cells s there);
}

-- an entry that takes and ends no task of the pool, and leaves the phase
lines_left : (script : Plan) (past : List Entry) (e : Entry) (arrived : List Ready) (held : Held) → moves line_parts e.kind ≡ false
    → ((s : ℕ) → runs_sequence script (past ++ e ∷ []) s ≡ runs_sequence script past s) → AreLines script past arrived held
    → AreLines script (past ++ e ∷ []) arrived held
lines_left script past e arrived held leaves runs are = lines_same script past (past ++ e ∷ []) arrived held
    (λ p. starts_same script past e p (no_take line_parts e.kind refl leaves p.task) (same_phase line_parts e.kind refl leaves (phase_of past))) runs
    (λ s. cell_same script past e s (moves_fewer (Ends ∷ []) line_parts e.kind refl leaves)) are

-- an entry that changes neither what runs nor the phase
pub lines_kept : (script : Plan) (past : List Entry) (e : Entry) (arrived : List Ready) (held : Held) → moves (main_parts ++ line_parts) e.kind ≡ false
    → AreLines script past arrived held → AreLines script (past ++ e ∷ []) arrived held
lines_kept script past e arrived held still are =
    lines_left script past e arrived held (moves_fewer line_parts (main_parts ++ line_parts) e.kind refl still)
    (λ s. runs_same script past e s (moves_fewer running_parts (main_parts ++ line_parts) e.kind refl still)) are

pub lines_at_main : (script : Plan) (past : List Entry) (e : Entry) (arrived : List Ready) (held : Held) → moves_main e.kind ≡ true
    → runs_pool_task past e.seat ≡ false → AreLines script past arrived held → AreLines script (past ++ e ∷ []) arrived held
lines_at_main script past e arrived held main apart are =
    lines_left script past e arrived held (moves_apart main_parts line_parts e.kind refl main) (λ s. runs_at_main script past e s main apart) are

-- A take, and an end.

pub lines_at_take : (script : Plan) (past : List Entry) (held : Held) (seat s found : ℕ) (head : Ready) → IsPoolPast script past
    → AreLines script past (arrivals past) held → seat ≤ script.workers → running past seat ≡ None → s < sequence_count script
    → head_of script past s ≡ Some head
    → AreLines script (next past seat (kinds.Take head.posted.task head.posted.home found))
    (arrivals (next past seat (kinds.Take head.posted.task head.posted.home found)))
    (record held { sequences = with_sequence held s (record { tasks = behind_first (sequence_at held s).tasks; cell = None }); room = held.room + 1 })
lines_at_take script past held seat s found head fits are known free there is_head =
    subst (λ rs. AreLines script later rs (record held { sequences = with_sequence held s taken; room = held.room + 1 })) (sym (arrivals_same past e refl))
    (lines_with script later (arrivals past) held s taken (held.room + 1) are.all there (here, out)
    (λ t another there_t. (
      are.tasks t there_t ∙ ap (map (waiting_of script)) (sym (left t ∙ unmarked t another)),
      are.cells t there_t ∙ sym (home t another),
    )))
  where
    e : Entry
    e = record { seat = seat; kind = kinds.Take head.posted.task head.posted.home found }

    later : List Entry
    later = past ++ e ∷ []

    taken : sequences.Sequence
    taken = record { tasks = behind_first (sequence_at held s).tasks; cell = None }

    accepted : Contains (posts past) head.posted × (sequence_of script head.posted.home head.posted.task ≡ s) × (is_taken past head.posted.task ≡ false)
        × (is_forbidden script past head.posted ≡ false)
    accepted = head_accepted script past s head is_head

    marks : Ready → Bool
    marks r = head.posted.task == r.posted.task

    one : AllByRecursion (λ r. marks r ≡ true → r ≡ head) (arrivals past)
    one = one_arrival script past head fits accepted.0 (head_key script past s head fits.arrivals_are_ready is_head).1

    joins : ℕ → Ready → Bool
    joins t r = is_of script t r.posted && may_start script past r.posted

    turned : (of gone mark forbidden : Bool) → (of && (not (gone || mark) && not forbidden)) ≡ ((of && (not gone && not forbidden)) && not mark)
    turned false gone mark forbidden = refl
    turned true true mark forbidden = refl
    turned true false false false = refl
    turned true false false true = refl
    turned true false true false = refl
    turned true false true true = refl

    -- the line behind the take is the line before without the task
    left : (t : ℕ) → line_in script later (arrivals past) t ≡ filter (λ r. not (marks r)) (line_in script past (arrivals past) t)
    left t = filter_congr (λ r. is_of script t r.posted && may_start script later r.posted) (λ r. joins t r && not (marks r)) (arrivals past)
        (λ r. ap (λ b. is_of script t r.posted && (not b && not (is_forbidden script later r.posted))) (is_taken_push past e r.posted.task)
        ∙ ap (λ phase. is_of script t r.posted && (not (is_taken past r.posted.task || marks r) && not (forbids phase (waiting_of script r).effective)))
        (phase_of_push past e)
        ∙ turned (is_of script t r.posted) (is_taken past r.posted.task) (marks r) (is_forbidden script past r.posted))
        ∙ sym (filter-filter (λ r. not (marks r)) (joins t) (arrivals past))

    here : behind_first (sequence_at held s).tasks ≡ map (waiting_of script) (line_in script later (arrivals past) s)
    here =
        ap behind_first (are.tasks s there)
        ∙ behind_first-map script (line_in script past (arrivals past) s)
        ∙ ap (map (waiting_of script))
        (sym (left s
        ∙ found_dropped ready_below (joins s) marks (arrivals past) head (ranks_key (λ r. r.key)) (arrivals_rise past)
        (sym (head_is_first_arrival script past s fits.arrivals_are_ready) ∙ is_head) (eqb-same head.posted.task) one))

    no_member : (t : ℕ) → (s == t) ≡ false → (r : Ready) → (marks r ≡ true → r ≡ head) → (joins t r && not (marks r)) ≡ joins t r
    no_member t another r only = by_test (marks r) refl
      where
        of_head : joins t head ≡ false
        of_head = and_left (is_of script t head.posted) (may_start script past head.posted) (ap (λ q. eqb q t) accepted.1 ∙ another)

        by_test : (b : Bool) → marks r ≡ b → (joins t r && not b) ≡ joins t r
        by_test true is = and_right (joins t r) false refl ∙ sym (ap (joins t) (only is) ∙ of_head)
        by_test false is = unturned (joins t r)
          where
            unturned : (b : Bool) → (b && true) ≡ b
            unturned true = refl
            unturned false = refl

    unmarked : (t : ℕ) → (s == t) ≡ false → filter (λ r. not (marks r)) (line_in script past (arrivals past) t) ≡ line_in script past (arrivals past) t
    unmarked t another =
        filter-filter (λ r. not (marks r)) (joins t) (arrivals past)
        ∙ filter_congr_in (λ r. joins t r && not (marks r)) (joins t) (arrivals past)
        (AllByRecursion-map (λ r. marks r ≡ true → r ≡ head) (λ r. (joins t r && not (marks r)) ≡ joins t r) (arrivals past) (no_member t another) one)

    runs : (t : ℕ) → runs_sequence script later t ≡ (runs_sequence script past t || s == t)
    runs t =
        runs_at_take script past e t head.posted.task head.posted.home found refl (omega (arith, known)) free
        ∙ ap (λ q. runs_sequence script past t || eqb q t) accepted.1

    out : None ≡ cond (runs_sequence script later s) None (Some (cell_of script later s))
    out = sym (ap (λ b. cond b None (Some (cell_of script later s))) (runs s ∙ or_right (runs_sequence script past s) (eqb s s) (eqb-same s)))

    home : (t : ℕ) → (s == t) ≡ false → cond (runs_sequence script later t) None (Some (cell_of script later t))
        ≡ cond (runs_sequence script past t) None (Some (cell_of script past t))
    home t another = rw (runs t, or_none (runs_sequence script past t) (eqb s t) another, cell_same script past e t refl) refl

pub lines_at_end : (script : Plan) (past : List Entry) (held : Held) (seat left : ℕ) (w : Running) → IsPoolPast script past
    → AreLines script past (arrivals past) held → running past seat ≡ Some w → w.is_main ≡ false
    → AreLines script (after_end past seat w.task left) (arrivals (after_end past seat w.task left))
    (record held {
      sequences = with_sequence held (sequence_of script w.home w.task) (record (sequence_at held (sequence_of script w.home w.task)) { cell = Some left });
    })
lines_at_end script past held seat left w fits are runs pool =
    subst (λ rs. AreLines script later rs (record held { sequences = with_sequence held q ended })) (sym (arrivals_same past e refl))
    (lines_with script later (arrivals past) held q ended held.room are.all there (
      are.tasks q there ∙ same_line q,
      sym (ap (λ b. cond b None (Some (cell_of script later q))) idle
          ∙ ap Some (cell q ∙ ap (λ b. cond b left (cell_of script past q)) (eqb-same q))),
    )
    (λ s another there_s. (are.tasks s there_s ∙ same_line s, are.cells s there_s ∙ sym (home s another))))
  where
    e : Entry
    e = record { seat = seat; kind = kinds.End w.task left }

    later : List Entry
    later = past ++ e ∷ []

    q : ℕ
    q = sequence_of script w.home w.task

    ended : sequences.Sequence
    ended = record (sequence_at held q) { cell = Some left }

    there : q < sequence_count script
    there = running_there script past seat w fits runs pool

    same_line : (s : ℕ) → map (waiting_of script) (line_in script past (arrivals past) s) ≡ map (waiting_of script) (line_in script later (arrivals past) s)
    same_line s = ap (map (waiting_of script)) (filter_congr (λ r. is_of script s r.posted && may_start script past r.posted)
        (λ r. is_of script s r.posted && may_start script later r.posted) (arrivals past)
        (λ r. ap (λ b. is_of script s r.posted && b) (sym (starts_same script past e r.posted refl refl))))

    cell : (s : ℕ) → cell_of script later s ≡ cond (eqb q s) left (cell_of script past s)
    cell s = cell_at_end script past e s w.task left w refl runs pool

    idle : runs_sequence script later q ≡ false
    idle = runs_at_end script past e q w.task left refl (λ other is another. others_run_others script past seat w fits runs pool other another)

    home : (s : ℕ) → (q == s) ≡ false → cond (runs_sequence script later s) None (Some (cell_of script later s))
        ≡ cond (runs_sequence script past s) None (Some (cell_of script past s))
    home s another = rw (runs_at_other_end script past e s w.task left refl (runs_of_it script past seat w s runs pool ∙ another), cell s, another) refl

-- Shutdown.

pub lines_at_shutdown : (script : Plan) (past : List Entry) (held : Held) (seat room : ℕ) → AreLines script past (arrivals past) held
    → phase_of past ≡ phases.Running
    → AreLines script (after_shutdown past seat) (arrivals (after_shutdown past seat))
    (record held { sequences = map (purged phases.Started) held.sequences; room = room })
lines_at_shutdown script past held seat room are running =
    subst (λ rs. AreLines script later rs (record held { sequences = map (purged phases.Started) held.sequences; room = room }))
    (sym (arrivals_same past e refl)) (record {
      all = length-map held.sequences (purged phases.Started) ∙ are.all;
      tasks = λ s there. ap (λ x. x.tasks) (at s there) ∙ ap (filter (may_stay phases.Started)) (are.tasks s there)
          ∙ filter-map (may_stay phases.Started) (waiting_of script) (line_in script past (arrivals past) s) ∙ ap (map (waiting_of script)) (line s);
      cells = λ s there. ap (λ x. x.cell) (at s there) ∙ are.cells s there ∙ sym (home s);
    })
  where
    e : Entry
    e = record { seat = seat; kind = kinds.Shutdown }

    later : List Entry
    later = past ++ e ∷ []

    at : (s : ℕ) → s < sequence_count script → get_or (map (purged phases.Started) held.sequences) s fresh ≡ purged phases.Started (sequence_at held s)
    at s there = get_or-map (purged phases.Started) held.sequences s fresh fresh (omega (arith, there, are.all))

    turned : (of taken stays : Bool) → ((of && (not taken && true)) && stays) ≡ (of && (not taken && stays))
    turned true true stays = refl
    turned true false stays = refl
    turned false taken stays = refl

    line : (s : ℕ) → filter (λ r. may_stay phases.Started (waiting_of script r)) (line_in script past (arrivals past) s)
        ≡ line_in script later (arrivals past) s
    line s =
        filter-filter (λ r. may_stay phases.Started (waiting_of script r)) (λ r. is_of script s r.posted && may_start script past r.posted) (arrivals past)
        ∙ filter_congr (λ r. (is_of script s r.posted && may_start script past r.posted) && may_stay phases.Started (waiting_of script r))
        (λ r. is_of script s r.posted && may_start script later r.posted) (arrivals past)
        (λ r. ap (λ phase. (is_of script s r.posted && (not (is_taken past r.posted.task) && not (forbids phase (waiting_of script r).effective)))
        && may_stay phases.Started (waiting_of script r)) running
        ∙ turned (is_of script s r.posted) (is_taken past r.posted.task) (may_stay phases.Started (waiting_of script r))
        ∙ sym (ap (λ b. is_of script s r.posted && (not b && not (is_forbidden script later r.posted)))
        (is_taken_push past e r.posted.task ∙ or_none (is_taken past r.posted.task) false refl)
        ∙ ap (λ phase. is_of script s r.posted && (not (is_taken past r.posted.task) && not (forbids phase (waiting_of script r).effective)))
        (phase_of_push past e ∙ ap started_from running)))

    home : (s : ℕ) → cond (runs_sequence script later s) None (Some (cell_of script later s))
        ≡ cond (runs_sequence script past s) None (Some (cell_of script past s))
    home s = rw (runs_same script past e s refl, cell_same script past e s refl) refl

-- once nothing blocks shutdown no accepted task may start
none_starts : (script : Plan) (past : List Entry) → IsPoolPast script past → phase_of past ≡ phases.Started → blockers_of script past ≡ 0
    → (p : Posted) → Contains (posts past) p → may_start script past p ≡ false
unfolding blockers_of block_part
none_starts script past fits started none p among = false_from_ne_true (may_start script past p) (λ may.
    let counted = contained_counts (is_open_block script past) (posts past) p among (unended may) in omega (arith, counted, none))
  where
    blocks : (b : Behaviour) → not (forbids phases.Started b) ≡ true → is_block b ≡ true
    blocks behaviours.ContinueOnShutdown h = h
    blocks behaviours.SkipOnShutdown h = h
    blocks behaviours.BlockShutdown h = refl

    untaken : is_taken past p.task ≡ false → is_ended past p.task ≡ false
    untaken h = singly_unended script past false p.task fits.singly h

    unended : may_start script past p ≡ true → is_open_block script past p ≡ true
    unended may =
        let parts : (not (is_taken past p.task) ≡ true) × (not (is_forbidden script past p) ≡ true)
        = and_parts (not (is_taken past p.task)) (not (is_forbidden script past p)) may in
        and_from (is_block (effective_at script p.home p.delay)) (not (is_ended past p.task))
        (blocks (effective_at script p.home p.delay) (subst (λ phase. not (forbids phase (effective_at script p.home p.delay)) ≡ true) started parts.1))
        (not_from_false (is_ended past p.task) (untaken (not-true (is_taken past p.task) parts.0)))

-- once nothing blocks shutdown no task waits
pub lines_at_done : (script : Plan) (past : List Entry) (held : Held) (seat : ℕ) → IsPoolPast script past → AreLines script past (arrivals past) held
    → phase_of past ≡ phases.Started → blockers_of script past ≡ 0
    → AreLines script (after_done past seat) (arrivals (after_done past seat)) held
lines_at_done script past held seat fits are started none = subst (λ rs. AreLines script later rs held) (sym (arrivals_same past e refl)) (record {
  all = are.all;
  tasks = λ s there. are.tasks s there ∙ ap (map (waiting_of script)) (before s ∙ sym (behind s));
  cells = λ s there. rw (runs_same script past e s refl, cell_same script past e s refl) (are.cells s there);
})
  where
    e : Entry
    e = record { seat = seat; kind = kinds.Done }

    later : List Entry
    later = past ++ e ∷ []

    before : (s : ℕ) → line_in script past (arrivals past) s ≡ []
    before s = filter_none (λ r. is_of script s r.posted && may_start script past r.posted) (arrivals past)
        (AllByRecursion-map (HasKey past)
        (λ r. (is_of script s r.posted && may_start script past r.posted) ≡ false) (arrivals past)
        (λ r h. and_right (is_of script s r.posted) (may_start script past r.posted) (none_starts script past fits started none r.posted h.0))
        (arrivals_posted past fits.arrivals_are_ready))

    behind : (s : ℕ) → line_in script later (arrivals past) s ≡ []
    behind s = filter_never (λ r. is_of script s r.posted && may_start script later r.posted) (arrivals past)
        (λ r. and_right (is_of script s r.posted) (may_start script later r.posted)
        (ap (λ phase. not (is_taken later r.posted.task) && not (forbids phase (effective_at script r.posted.home r.posted.delay))) (phase_of_push past e)
        ∙ and_right (not (is_taken later r.posted.task)) false refl))
