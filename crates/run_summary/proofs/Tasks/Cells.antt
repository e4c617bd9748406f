-- In every legal log of such a script the cells hold what the ended tasks add up to: a task finds what its cell holds, and while it
-- runs nothing else writes there, so its end leaves as much more as it adds.
-- Cited by `Tasks`.
use Rattle.std.proofs.Common.{◌≡◌, ℕ, ◌+◌, ◌^◌, ◌<◌, ◌≤◌, Bool, true, false, cond, eqb, leb, List}
use Rattle.std.proofs.Common.{[], ◌∷◌, ◌++◌, length, refl, sym, ap, subst, ◌∙◌, Some, inr, arith}
use Rattle.std.specs.Prelude.{◌&&◌, not, sum_by}
use Rattle.std.specs.List.{range_with_len}
use Rattle.std.proofs.lemmas.Bool.{and_parts, eqb-true, eqb-false, eq-eqb, ne_eqb, not-true}
use Rattle.std.proofs.lemmas.Option.{none-some, same_Some}
use Rattle.task_base.specs.Plan.{Plan}
use Rattle.task_base.specs.Steps.{after}
use Rattle.task_base.specs.Runners.{sequence_of, sequence_count}
use Rattle.task_base.specs.declared.entry.Entry.{Entry}
use Rattle.task_base.specs.declared.entry.Kind.{Kind}
use Rattle.task_base.specs.declared.entry.Kind.TheVariants as kinds
use Rattle.task_model.specs.Past.{fold_past}
use Rattle.task_model.specs.Seats.{Running, running, running_after, steps_of}
use Rattle.task_model.specs.Cells.{cell_of, main_cell_of}
use Rattle.pool_laws.specs.Seats.{moves_cells, moves_main_cells}
use Rattle.pool_laws.proofs.Seats.Cells.{cell_same, cell_at_end, main_cell_same, main_cell_at_end}
use Rattle.pool_laws.proofs.Seats.Running.{running_here, running_other}
use Rattle.hist_model.specs.Allowed.{has_done, may_come}
use Rattle.hist_model.specs.Legal.{IsLegal}
use Rattle.hist_model.proofs.Laws.Choice.{found}
use Rattle.hist_model.proofs.Laws.Consistent.{legal_is_consistent}
use Rattle.hist_model.proofs.Laws.Legal.{is_legal_push, legal_induction}
use Rattle.hist_model.proofs.Laws.Takes.{take_is, main_take_is}
use Rattle.run_summary.specs.Summary.{cells_of}
use Rattle.run_summary.proofs.Tasks.Adding.{AddsUp}
use Rattle.run_summary.proofs.Tasks.Rows.{sum_same, sum_more, sum_zeros, term_within}
use Rattle.run_summary.proofs.Tasks.Ends.{ends_sum, ends_sum_push, ends_within, RunsOne, runs_one}
use Rattle.run_summary.proofs.Tasks.Rest.{sequence_there}

-- ---- what an end leaves

-- the seat runs what it ends, and its steps leave this value of what it found
record EndsWhatRuns (script : Plan) (past : List Entry) (seat task left : ℕ) (main : Bool) : Type 0 where
  now : Running
  running_is : running past seat ≡ Some now
  as_main : now.is_main ≡ main
  task_is : now.task ≡ task
  left_is : left ≡ after (steps_of script now.task) now.found

-- so it is at the end of a task of the pool, and at that of a main task
end_leaves : (script : Plan) (past : List Entry) (seat task left : ℕ) → may_come script past seat (kinds.End task left) ≡ true
    → EndsWhatRuns script past seat task left false
unfolding may_come
end_leaves script past seat task left h =
    let w = found (λ w. not w.is_main && eqb w.task task && has_done script past seat left w) (running past seat) h in
    let parts = and_parts (not w.value.is_main && eqb w.value.task task) (has_done script past seat left w.value) w.passes in
    let which = and_parts (not w.value.is_main) (eqb w.value.task task) parts.0 in
    record {
      now = w.value;
      running_is = w.is;
      as_main = not-true w.value.is_main which.0;
      task_is = eqb-true w.value.task task which.1;
      left_is = eqb-true left _ (and_parts _ _ parts.1).1;
    }

main_end_leaves : (script : Plan) (past : List Entry) (seat task left : ℕ) → may_come script past seat (kinds.MainEnd task left) ≡ true
    → EndsWhatRuns script past seat task left true
unfolding may_come
main_end_leaves script past seat task left h =
    let w = found (λ w. w.is_main && eqb w.task task && has_done script past seat left w) (running past seat) (and_parts (eqb seat 0) _ h).1 in
    let parts = and_parts (w.value.is_main && eqb w.value.task task) (has_done script past seat left w.value) w.passes in
    let which = and_parts w.value.is_main (eqb w.value.task task) parts.0 in
    record {
      now = w.value;
      running_is = w.is;
      as_main = which.0;
      task_is = eqb-true w.value.task task which.1;
      left_is = eqb-true left _ (and_parts _ _ parts.1).1;
    }

-- ---- what runs found what its cell holds still

-- the cell of what runs
abbrev cell_for : Plan → List Entry → Running → Bool → ℕ
cell_for script past w true = main_cell_of past w.home
cell_for script past w false = cell_of script past (sequence_of script w.home w.task)

abbrev FoundHolds : Plan → List Entry → Type 0
FoundHolds script past = (seat : ℕ) (w : Running) → running past seat ≡ Some w → w.found ≡ cell_for script past w w.is_main

-- an entry that ends nothing leaves the cells
cell_stays : (script : Plan) (past : List Entry) (e : Entry) (w : Running) (main : Bool) → moves_cells e.kind ≡ false → moves_main_cells e.kind ≡ false
    → cell_for script (past ++ e ∷ []) w main ≡ cell_for script past w main
cell_stays script past e w true pool main = main_cell_same past e w.home main
cell_stays script past e w false pool main = cell_same script past e (sequence_of script w.home w.task) pool

-- an end leaves the cell of what another seat runs: no two seats run one sequence, and the driver alone runs main tasks
cell_of_other : (script : Plan) (past : List Entry) (seat other : ℕ) (kind : Kind) (w : Running) (main : Bool) → IsLegal script past
    → may_come script past seat kind ≡ true → running past other ≡ Some w → w.is_main ≡ main → (seat ≡ other → ⊥)
    → cell_for script (past ++ record { seat = seat; kind = kind } ∷ []) w main ≡ cell_for script past w main
cell_of_other script past seat other (kinds.End task left) w true legal may runs main apart =
    main_cell_same past (record { seat = seat; kind = kinds.End task left }) w.home refl
cell_of_other script past seat other (kinds.End task left) w false legal may runs pool apart =
    let v : EndsWhatRuns script past seat task left false = end_leaves script past seat task left may in
    cell_at_end script past (record { seat = seat; kind = kinds.End task left }) (sequence_of script w.home w.task) task left v.now refl v.running_is v.as_main
    ∙ ap (λ b. cond b left (cell_of script past (sequence_of script w.home w.task)))
    (ne_eqb (sequence_of script v.now.home v.now.task) (sequence_of script w.home w.task) (λ same.
    apart ((legal_is_consistent script past legal false).alone seat other v.now w v.running_is runs v.as_main pool (inr same))))
cell_of_other script past seat other (kinds.MainEnd task left) w true legal may runs main apart =
    let v : EndsWhatRuns script past seat task left true = main_end_leaves script past seat task left may in
    absurd (apart (driver seat v.now v.running_is v.as_main ∙ sym (driver other w runs main)))
  where
    driver : (s : ℕ) (x : Running) → running past s ≡ Some x → x.is_main ≡ true → s ≡ 0
    driver s x is as_main = ((legal_is_consistent script past legal true).runs s x is as_main).can.driver refl
cell_of_other script past seat other (kinds.MainEnd task left) w false legal may runs pool apart =
    cell_same script past (record { seat = seat; kind = kinds.MainEnd task left }) (sequence_of script w.home w.task) refl
cell_of_other script past seat other kind w main legal may runs as_main apart = cell_stays script past (record { seat = seat; kind = kind }) w main refl refl

-- what a seat takes finds what its cell holds, and what goes on found it before
own_found : (script : Plan) (past : List Entry) (seat : ℕ) (kind : Kind) (w : Running) → may_come script past seat kind ≡ true → FoundHolds script past
    → running_after (running past seat) kind ≡ Some w → w.found ≡ cell_for script (past ++ record { seat = seat; kind = kind } ∷ []) w w.is_main
own_found script past seat (kinds.Take task runner value) w may before is =
    subst (λ (x : Running). x.found ≡ cell_for script (past ++ record { seat = seat; kind = kinds.Take task runner value } ∷ []) x x.is_main)
    (same_Some (record { task = task; home = runner; found = value; is_main = false }) w is)
    ((take_is script past seat task runner value may).found_is
    ∙ sym (cell_same script past (record { seat = seat; kind = kinds.Take task runner value }) (sequence_of script runner task) refl))
own_found script past seat (kinds.MainTake task queue value) w may before is =
    subst (λ (x : Running). x.found ≡ cell_for script (past ++ record { seat = seat; kind = kinds.MainTake task queue value } ∷ []) x x.is_main)
    (same_Some (record { task = task; home = queue; found = value; is_main = true }) w is)
    ((main_take_is script past seat task queue value may).found_is
    ∙ sym (main_cell_same past (record { seat = seat; kind = kinds.MainTake task queue value }) queue refl))
own_found script past seat (kinds.End task left) w may before is = absurd (none-some w is)
own_found script past seat (kinds.MainEnd task left) w may before is = absurd (none-some w is)
own_found script past seat kind w may before is =
    before seat w is ∙ sym (cell_stays script past (record { seat = seat; kind = kind }) w w.is_main refl refl)

-- one more entry keeps that
found_next : (script : Plan) (past : List Entry) (e : Entry) → IsLegal script past → may_come script past e.seat e.kind ≡ true → FoundHolds script past
    → FoundHolds script (past ++ e ∷ [])
found_next script past e legal may before seat w runs = by_seat (eqb e.seat seat) refl
  where
    by_seat : (b : Bool) → eqb e.seat seat ≡ b → w.found ≡ cell_for script (past ++ e ∷ []) w w.is_main
    by_seat true here = own_found script past e.seat e.kind w may before (sym (running_here past e seat here) ∙ runs)
    by_seat false other =
        let was : running past seat ≡ Some w = sym (running_other past e seat other) ∙ runs in
        before seat w was ∙ sym (cell_of_other script past e.seat seat e.kind w w.is_main legal may was refl (eqb-false e.seat seat other))

-- at first no seat runs anything
nothing_found : (script : Plan) → FoundHolds script []
unfolding running
nothing_found script seat w runs = absurd (none-some w runs)

-- in every legal past what a seat runs found what its cell holds
pub found_holds : (script : Plan) (past : List Entry) → IsLegal script past → FoundHolds script past
found_holds script = legal_induction script (FoundHolds script) (nothing_found script) (λ past e legal allowed before.
    found_next script past e legal (and_parts (leb e.seat script.workers) (may_come script past e.seat e.kind) allowed).1 before)

-- ---- the cells add up

-- what has ended, of the pool and of the main queue, adds up to this
abbrev pub ended_amount : (ℕ → ℕ) → List Entry → ℕ
ended_amount amount past = ends_sum false amount past + ends_sum true amount past

-- which fits 64 bits
ended_within : (script : Plan) (size : ℕ) (amount : ℕ → ℕ) (past : List Entry) → AddsUp script size amount → IsLegal script past
    → ended_amount amount past < 2 ^ 64
ended_within script size amount past a legal = omega (
  arith,
  ends_within false amount script size amount past a legal,
  ends_within true amount script size amount past a legal,
  a.few,
)

-- the cells hold what has ended
abbrev CellsAddUp : Plan → (ℕ → ℕ) → List Entry → Type 0
CellsAddUp script amount past = cells_of script past ≡ ended_amount amount past

-- an end leaves as much more as its task adds
leaves_more : (script : Plan) (size : ℕ) (amount : ℕ → ℕ) (past : List Entry) (e : Entry) (cell left task : ℕ) → AddsUp script size amount
    → IsLegal script (past ++ e ∷ []) → CellsAddUp script amount past → cell ≤ cells_of script past
    → ended_amount amount (past ++ e ∷ []) ≡ ended_amount amount past + amount task → left ≡ after (steps_of script task) cell
    → left ≡ cell + amount task
leaves_more script size amount past e cell left task a legal before within more left_is =
    left_is ∙ a.adds task cell (omega (arith, before, within, more, ended_within script size amount (past ++ e ∷ []) a legal))

-- the end of a task of the pool raises the cell of its sequence, and no other, by what the task adds
pool_cells : (script : Plan) (size : ℕ) (amount : ℕ → ℕ) (past : List Entry) (seat task left : ℕ) → AddsUp script size amount → IsLegal script past
    → IsLegal script (past ++ record { seat = seat; kind = kinds.End task left } ∷ []) → may_come script past seat (kinds.End task left) ≡ true
    → CellsAddUp script amount past → CellsAddUp script amount (past ++ record { seat = seat; kind = kinds.End task left } ∷ [])
pool_cells script size amount past seat task left a legal longer may before = omega (arith, before, more, pool, main)
  where
    e : Entry
    e = record { seat = seat; kind = kinds.End task left }

    v : EndsWhatRuns script past seat task left false
    v = end_leaves script past seat task left may

    s : ℕ
    s = sequence_of script v.now.home v.now.task

    one : RunsOne false size past v.now
    one = subst (λ m. RunsOne m size past v.now) v.as_main (runs_one script size amount past seat v.now a legal v.running_is)

    there : s < sequence_count script
    there = sequence_there script size amount v.now.task v.now.home a one.task_is one.home_is

    holds : v.now.found ≡ cell_of script past s
    holds = found_holds script past legal seat v.now v.running_is ∙ ap (cell_for script past v.now) v.as_main

    more : ended_amount amount (past ++ e ∷ []) ≡ ended_amount amount past + amount task
    more = omega (arith, ends_sum_push false amount past e, ends_sum_push true amount past e)

    within : cell_of script past s ≤ cells_of script past
    within = omega (arith, term_within (cell_of script past) s 0 (sequence_count script) (omega arith) (omega (arith, there)))

    left_is : left ≡ cell_of script past s + amount task
    left_is = leaves_more script size amount past e (cell_of script past s) left task a longer before within more
        (v.left_is ∙ ap (after (steps_of script v.now.task)) holds ∙ ap (λ t. after (steps_of script t) (cell_of script past s)) v.task_is)

    cell_is : (k : ℕ) → cell_of script (past ++ e ∷ []) k ≡ cond (eqb s k) left (cell_of script past k)
    cell_is k = cell_at_end script past e k task left v.now refl v.running_is v.as_main

    pool : sum_by (cell_of script (past ++ e ∷ [])) (range_with_len 0 (sequence_count script))
        ≡ sum_by (cell_of script past) (range_with_len 0 (sequence_count script)) + amount task
    pool = sum_more (cell_of script past) (cell_of script (past ++ e ∷ [])) (amount task) s 0 (sequence_count script) (omega arith)
        (omega (arith, there)) (λ k other. sym (cell_is k ∙ ap (λ b. cond b left (cell_of script past k)) (ne_eqb s k (λ same. other (sym same)))))
        (cell_is s ∙ ap (λ b. cond b left (cell_of script past s)) (eq-eqb s s refl) ∙ left_is)

    main : sum_by (main_cell_of (past ++ e ∷ [])) (range_with_len 0 (length script.queues))
        ≡ sum_by (main_cell_of past) (range_with_len 0 (length script.queues))
    main = sum_same (main_cell_of (past ++ e ∷ [])) (main_cell_of past) 0 (length script.queues) (λ k from to. main_cell_same past e k refl)

-- and that of a main task the cell of its queue
main_cells : (script : Plan) (size : ℕ) (amount : ℕ → ℕ) (past : List Entry) (seat task left : ℕ) → AddsUp script size amount → IsLegal script past
    → IsLegal script (past ++ record { seat = seat; kind = kinds.MainEnd task left } ∷ []) → may_come script past seat (kinds.MainEnd task left) ≡ true
    → CellsAddUp script amount past → CellsAddUp script amount (past ++ record { seat = seat; kind = kinds.MainEnd task left } ∷ [])
main_cells script size amount past seat task left a legal longer may before = omega (arith, before, more, pool, main)
  where
    e : Entry
    e = record { seat = seat; kind = kinds.MainEnd task left }

    v : EndsWhatRuns script past seat task left true
    v = main_end_leaves script past seat task left may

    q : ℕ
    q = v.now.home

    one : RunsOne true size past v.now
    one = subst (λ m. RunsOne m size past v.now) v.as_main (runs_one script size amount past seat v.now a legal v.running_is)

    there : q < length script.queues
    there = omega (arith, one.home_is, a.one_queue)

    holds : v.now.found ≡ main_cell_of past q
    holds = found_holds script past legal seat v.now v.running_is ∙ ap (cell_for script past v.now) v.as_main

    more : ended_amount amount (past ++ e ∷ []) ≡ ended_amount amount past + amount task
    more = omega (arith, ends_sum_push false amount past e, ends_sum_push true amount past e)

    within : main_cell_of past q ≤ cells_of script past
    within = omega (arith, term_within (main_cell_of past) q 0 (length script.queues) (omega arith) (omega (arith, there)))

    left_is : left ≡ main_cell_of past q + amount task
    left_is = leaves_more script size amount past e (main_cell_of past q) left task a longer before within more
        (v.left_is ∙ ap (after (steps_of script v.now.task)) holds ∙ ap (λ t. after (steps_of script t) (main_cell_of past q)) v.task_is)

    cell_is : (k : ℕ) → main_cell_of (past ++ e ∷ []) k ≡ cond (eqb q k) left (main_cell_of past k)
    cell_is k = main_cell_at_end past e k task left v.now refl v.running_is v.as_main

    main : sum_by (main_cell_of (past ++ e ∷ [])) (range_with_len 0 (length script.queues))
        ≡ sum_by (main_cell_of past) (range_with_len 0 (length script.queues)) + amount task
    main = sum_more (main_cell_of past) (main_cell_of (past ++ e ∷ [])) (amount task) q 0 (length script.queues) (omega arith)
        (omega (arith, there)) (λ k other. sym (cell_is k ∙ ap (λ b. cond b left (main_cell_of past k)) (ne_eqb q k (λ same. other (sym same)))))
        (cell_is q ∙ ap (λ b. cond b left (main_cell_of past q)) (eq-eqb q q refl) ∙ left_is)

    pool : sum_by (cell_of script (past ++ e ∷ [])) (range_with_len 0 (sequence_count script))
        ≡ sum_by (cell_of script past) (range_with_len 0 (sequence_count script))
    pool = sum_same (cell_of script (past ++ e ∷ [])) (cell_of script past) 0 (sequence_count script) (λ k from to. cell_same script past e k refl)

-- any other entry leaves the cells, and ends nothing
other_cells : (script : Plan) (amount : ℕ → ℕ) (past : List Entry) (e : Entry) → moves_cells e.kind ≡ false → moves_main_cells e.kind ≡ false
    → ended_amount amount (past ++ e ∷ []) ≡ ended_amount amount past → CellsAddUp script amount past → CellsAddUp script amount (past ++ e ∷ [])
other_cells script amount past e no_end no_main_end same before = omega (
  arith,
  before,
  same,
  sum_same (cell_of script (past ++ e ∷ [])) (cell_of script past) 0 (sequence_count script) (λ k from to. cell_same script past e k no_end),
  sum_same (main_cell_of (past ++ e ∷ [])) (main_cell_of past) 0 (length script.queues) (λ k from to. main_cell_same past e k no_main_end),
)

-- so each entry keeps that
cells_next : (script : Plan) (size : ℕ) (amount : ℕ → ℕ) (past : List Entry) (seat : ℕ) (kind : Kind) → AddsUp script size amount → IsLegal script past
    → IsLegal script (past ++ record { seat = seat; kind = kind } ∷ []) → may_come script past seat kind ≡ true
    → CellsAddUp script amount past → CellsAddUp script amount (past ++ record { seat = seat; kind = kind } ∷ [])
cells_next script size amount past seat (kinds.End task left) a legal longer may before =
    pool_cells script size amount past seat task left a legal longer may before
cells_next script size amount past seat (kinds.MainEnd task left) a legal longer may before =
    main_cells script size amount past seat task left a legal longer may before
cells_next script size amount past seat kind a legal longer may before = other_cells script amount past (record { seat = seat; kind = kind }) refl refl
    (omega (
      arith,
      ends_sum_push false amount past (record { seat = seat; kind = kind }),
      ends_sum_push true amount past (record { seat = seat; kind = kind }),
    )) before

-- at first all cells hold nothing
nothing_in_cells : (script : Plan) (amount : ℕ → ℕ) → CellsAddUp script amount []
unfolding cell_of main_cell_of fold_past
nothing_in_cells script amount = omega (arith, sum_zeros 0 (sequence_count script), sum_zeros 0 (length script.queues))

-- the cells of a legal past hold what has ended
pub cells_add_up : (script : Plan) (size : ℕ) (amount : ℕ → ℕ) → AddsUp script size amount → (past : List Entry) → IsLegal script past
    → cells_of script past ≡ ended_amount amount past
cells_add_up script size amount a = legal_induction script (CellsAddUp script amount) (nothing_in_cells script amount) (λ past e legal allowed before.
    let longer : IsLegal script (past ++ e ∷ []) = is_legal_push script past e ∙ rw (legal, allowed) refl in
    cells_next script size amount past e.seat e.kind a legal longer (and_parts (leb e.seat script.workers) (may_come script past e.seat e.kind) allowed).1
    before)
