-- The state of a sequence, or of a main queue, moves along from task to task.
-- Cited by `Laws/Fitting/Entries`, `Laws/Order/Keys`, `state.rt`.
use Rattle.std.proofs.Common.{◌≡◌, ℕ, zero, suc, ◌<◌, ◌≤◌, Bool, true, false, eqb, cond, List, [], ◌∷◌}
use Rattle.std.proofs.Common.{length, take, refl, sym, ap, subst, ◌∙◌, Some, inl, inr, arith}
use Rattle.std.specs.Prelude.{not, ◌&&◌, slice_get}
use Rattle.std.proofs.lemmas.Bool.{eqb-true, and_parts, not-true, true≢false, eq-eqb, both_ways}
use Rattle.std.proofs.lemmas.Option.{same_Some, slice_get_within}
use Rattle.task_base.specs.Plan.{Plan}
use Rattle.task_base.specs.Steps.{after}
use Rattle.task_base.specs.Runners.{sequence_of}
use Rattle.task_base.specs.declared.entry.Entry.{Entry}
use Rattle.task_base.specs.declared.entry.Kind.{Kind}
use Rattle.task_base.specs.declared.entry.Kind.TheVariants as kinds
use Rattle.list_laws.specs.Lists.{holds_of}
use Rattle.task_model.specs.Past.{fold_past}
use Rattle.task_model.specs.Seats.{Running, running, runs_of, steps_of}
use Rattle.task_model.specs.Cells.{cell_of, cell_after, main_cell_of, main_cell_after}
use Rattle.task_model.proofs.Growth.{cell_of_push, main_cell_of_push}
use Rattle.hist_model.specs.Allowed.{has_done, may_come}
use Rattle.hist_model.specs.Legal.{IsLegal}
use Rattle.hist_model.specs.Laws.Places.{IsAt}
use Rattle.hist_model.specs.Laws.State.{EndOfSequence, EndOfQueue, IsLastLeft, LeavesOfFound, LeavesOfFoundMain, StateMovesAlong}
use Rattle.hist_model.proofs.Laws.AtPlaces.{of_past, take_at, may_come_at}
use Rattle.hist_model.proofs.Laws.Choice.{found}
use Rattle.hist_model.proofs.Laws.Since.{taking, running_since}
use Rattle.hist_model.proofs.Laws.Starts.{tasks_start_at_most_once}
use Rattle.hist_model.proofs.Laws.Takes.{take_is, main_take_is}
use Rattle.hist_model.specs.Script.{is_main_end}

-- each place of a log has an entry
entry_at : (log : List Entry) (k : ℕ) → suc k ≤ length log → (e : Entry) × (slice_get log k ≡ Some e)
entry_at [] k h = absurd (omega (arith, h))
entry_at (x ∷ log) zero h = (x, refl)
entry_at (x ∷ log) (suc k) h = entry_at log k (omega (arith, h))

-- ---- what a seat runs it took at an earlier place

-- the seat took this before the place
abbrev TakenBefore : List Entry → ℕ → ℕ → Running → Type 0
TakenBefore log k seat w = (i : ℕ) × (i < k) × IsAt log i seat (taking w.is_main w.task w.home w.found)

-- what a seat runs before a place of the log it took at an earlier place
taken_at : (log : List Entry) (k seat : ℕ) (w : Running) → running (take k log) seat ≡ Some w → TakenBefore log k seat w
taken_at log k seat w runs =
    let since = running_since (take k log) seat w runs in
    let (less, is) = of_past log since.place k _ since.is in
    (since.place, less, is)

-- ---- entries at one place

-- of places that are not one before the other
one_place : (i k : ℕ) → (i < k → ⊥) → (k < i → ⊥) → i ≡ k
one_place i k a b = grind arith

-- two entries at one place
pub same_at : (log : List Entry) (i k a b : ℕ) (m n : Kind) → i ≡ k → IsAt log i a m → IsAt log k b n → m ≡ n
same_at log i k a b m n same first second = ap (λ e. e.kind) (same_Some _ _ (sym first ∙ ap (slice_get log) same ∙ second))

-- ---- ends

-- what an allowed end ends: the seat runs it, and its steps leave this value of what it found
pub ends_running : (script : Plan) (past : List Entry) (seat task left : ℕ) → may_come script past seat (kinds.End task left) ≡ true
    → (home value : ℕ) × (running past seat ≡ Some (record { task = task; home = home; found = value; is_main = false }))
    × (left ≡ after (steps_of script task) value)
unfolding may_come
ends_running script past seat task left h =
    let w = found (λ w. not w.is_main && eqb w.task task && has_done script past seat left w) (running past seat) h in
    let parts = and_parts (not w.value.is_main && eqb w.value.task task) (has_done script past seat left w.value) w.passes in
    let which = and_parts (not w.value.is_main) (eqb w.value.task task) parts.0 in
    let task_is : w.value.task ≡ task = eqb-true w.value.task task which.1 in (
      w.value.home,
      w.value.found,
      w.is ∙ ap (λ m. Some (record { task = w.value.task; home = w.value.home; found = w.value.found; is_main = m }))
          (not-true w.value.is_main which.0)
          ∙ ap (λ t. Some (record { task = t; home = w.value.home; found = w.value.found; is_main = false })) task_is,
      eqb-true left _ (and_parts _ _ parts.1).1 ∙ ap (λ t. after (steps_of script t) w.value.found) task_is,
    )

pub main_ends_running : (script : Plan) (past : List Entry) (seat task left : ℕ) → may_come script past seat (kinds.MainEnd task left) ≡ true
    → (home value : ℕ) × (running past seat ≡ Some (record { task = task; home = home; found = value; is_main = true }))
    × (left ≡ after (steps_of script task) value)
unfolding may_come
main_ends_running script past seat task left h =
    let w = found (λ w. w.is_main && eqb w.task task && has_done script past seat left w) (running past seat) (and_parts (eqb seat 0) _ h).1 in
    let parts = and_parts (w.value.is_main && eqb w.value.task task) (has_done script past seat left w.value) w.passes in
    let which = and_parts w.value.is_main (eqb w.value.task task) parts.0 in
    let task_is : w.value.task ≡ task = eqb-true w.value.task task which.1 in (
      w.value.home,
      w.value.found,
      w.is ∙ ap (λ m. Some (record { task = w.value.task; home = w.value.home; found = w.value.found; is_main = m })) which.0
          ∙ ap (λ t. Some (record { task = t; home = w.value.home; found = w.value.found; is_main = true })) task_is,
      eqb-true left _ (and_parts _ _ parts.1).1 ∙ ap (λ t. after (steps_of script t) w.value.found) task_is,
    )

-- ---- the last end

-- behind a place where none of the ends stands the last one stays the last
last_stays : (EndAt : ℕ → ℕ → Type 0) (k value : ℕ) → ((left : ℕ) → EndAt k left → ⊥) → IsLastLeft EndAt k value → IsLastLeft EndAt (suc k) value
last_stays EndAt k value none (inl (before, zero_is)) = inl ((λ j left less end. at j left less end), zero_is)
  where
    at : (j left : ℕ) → j < suc k → EndAt j left → ⊥
    at j left less end = none left (subst (λ n. EndAt n left) (one_place j k (λ l. before j left l end) (λ l. omega (arith, l, less))) end)
last_stays EndAt k value none (inr last) = inr (record {
  last = last.last;
  before = omega (arith, last.before);
  ended = last.ended;
  none_between = λ j left over less end. none left (subst (λ n. EndAt n left)
      (one_place j k (λ l. last.none_between j left over l end) (λ l. omega (arith, l, less))) end);
})

-- behind an end that end is the last
last_is : (EndAt : ℕ → ℕ → Type 0) (k value : ℕ) → EndAt k value → IsLastLeft EndAt (suc k) value
last_is EndAt k value end = inr (record {
  last = k;
  before = omega arith;
  ended = end;
  none_between = λ j left over less between. omega (arith, over, less);
})

none_yet : (EndAt : ℕ → ℕ → Type 0) → IsLastLeft EndAt 0 0
none_yet EndAt = inl ((λ j left less end. omega (arith, less)), refl)

no_cell : (script : Plan) (s : ℕ) → cell_of script [] s ≡ 0
unfolding cell_of fold_past
no_cell script s = refl

no_main_cell : (queue : ℕ) → main_cell_of [] queue ≡ 0
unfolding main_cell_of fold_past
no_main_cell queue = refl

abbrev is_end : Kind → Bool
is_end (kinds.End task left) = true
is_end kind = false

-- the task of an end
abbrev ended_task : Kind → ℕ
ended_task (kinds.End task left) = task
ended_task (kinds.MainEnd task left) = task
ended_task kind = 0

-- where an entry of another kind stands no task of the pool ends
no_end_at : (script : Plan) (log : List Entry) (s k seat left : ℕ) (kind : Kind) → IsAt log k seat kind → is_end kind ≡ false
    → EndOfSequence script log s k left → ⊥
no_end_at script log s k seat left kind is other end = true≢false (ap is_end (same_at log k k end.seat seat _ kind refl end.ends is) ∙ other)

no_main_end_at : (log : List Entry) (q k seat left : ℕ) (kind : Kind) → IsAt log k seat kind → is_main_end kind ≡ false → EndOfQueue log q k left → ⊥
no_main_end_at log q k seat left kind is other end = true≢false (ap is_main_end (same_at log k k end.seat seat _ kind refl end.ends is) ∙ other)

-- the cell behind an entry is what the last end of the sequence left
cell_next : (script : Plan) (log : List Entry) (s k value seat : ℕ) (kind : Kind) → IsLegal script log → IsAt log k seat kind
    → IsLastLeft (EndOfSequence script log s) k value → IsLastLeft (EndOfSequence script log s) (suc k) (cell_after script s (take k log) value seat kind)
cell_next script log s k value seat (kinds.End task left) legal is last = of_run
    (ends_running script (take k log) seat task left (may_come_at script log k _ legal is))
  where
    of_run : ((home value : ℕ) × (running (take k log) seat ≡ Some (record { task = task; home = home; found = value; is_main = false }))
        × (left ≡ after (steps_of script task) value))
        → IsLastLeft (EndOfSequence script log s) (suc k) (cell_after script s (take k log) value seat (kinds.End task left))
    of_run (home, v, runs, leaves) = of_take (taken_at log k seat _ runs)
      where
        w : Running
        w = record { task = task; home = home; found = v; is_main = false }

        of_take : TakenBefore log k seat w → IsLastLeft (EndOfSequence script log s) (suc k) (cell_after script s (take k log) value seat (kinds.End task left))
        of_take (i, less, was) = at (eqb (sequence_of script home task) s) refl
          where
            cell_is : (b : Bool) → eqb (sequence_of script home task) s ≡ b
                → cond b left value ≡ cell_after script s (take k log) value seat (kinds.End task left)
            cell_is b same = ap (λ x. cond x left value) (sym same) ∙ ap (λ o. cond (holds_of (runs_of script s) o) left value) (sym runs)

            at : (b : Bool) → eqb (sequence_of script home task) s ≡ b
                → IsLastLeft (EndOfSequence script log s) (suc k) (cell_after script s (take k log) value seat (kinds.End task left))
            at true same = subst (IsLastLeft (EndOfSequence script log s) (suc k)) (cell_is true same) (last_is (EndOfSequence script log s) k left (record {
              seat = seat;
              task = task;
              runner = home;
              found = v;
              taken = i;
              ends = is;
              before = less;
              takes = was;
              of_sequence = eqb-true (sequence_of script home task) s same;
            }))
            at false same = subst (IsLastLeft (EndOfSequence script log s) (suc k)) (cell_is false same)
                (last_stays (EndOfSequence script log s) k value (λ x end. none x end) last)
              where
                none : (x : ℕ) → EndOfSequence script log s k x → ⊥
                none x end =
                    let task_is : end.task ≡ task = ap ended_task (same_at log k k end.seat seat _ _ refl end.ends is) in
                    let home_is = ((tasks_start_at_most_once script log legal).one_take end.taken i end.seat seat task end.runner home end.found v
                    (subst (λ t. IsAt log end.taken end.seat (kinds.Take t end.runner end.found)) task_is end.takes) was).2 in
                    both_ways (eqb (sequence_of script home task) s) same (eq-eqb (sequence_of script home task) s
                    (ap (λ r. sequence_of script r task) (sym home_is) ∙ ap (sequence_of script end.runner) (sym task_is) ∙ end.of_sequence))
cell_next script log s k value seat kind legal is last =
    last_stays (EndOfSequence script log s) k value (λ x end. no_end_at script log s k seat x kind is refl end) last

-- the cell of a sequence at a place is what the last end of the sequence left
cell_at : (script : Plan) (log : List Entry) (s k : ℕ) → IsLegal script log → k ≤ length log
    → IsLastLeft (EndOfSequence script log s) k (cell_of script (take k log) s)
cell_at script log s zero legal within = subst (IsLastLeft (EndOfSequence script log s) 0) (sym (no_cell script s)) (none_yet (EndOfSequence script log s))
cell_at script log s (suc k) legal within =
    let (e, is) = entry_at log k within in
    subst (IsLastLeft (EndOfSequence script log s) (suc k))
    (sym (cell_of_push script (take k log) e s) ∙ ap (λ past. cell_of script past s) (sym (take_at log k e is)))
    (cell_next script log s k (cell_of script (take k log) s) e.seat e.kind legal is (cell_at script log s k legal (omega (arith, within))))

-- the cell of a main queue behind an entry is what the last end of the queue left
main_cell_next : (script : Plan) (log : List Entry) (q k value seat : ℕ) (kind : Kind) → IsLegal script log → IsAt log k seat kind
    → IsLastLeft (EndOfQueue log q) k value → IsLastLeft (EndOfQueue log q) (suc k) (main_cell_after q (take k log) value seat kind)
main_cell_next script log q k value seat (kinds.MainEnd task left) legal is last =
    of_run (main_ends_running script (take k log) seat task left (may_come_at script log k _ legal is))
  where
    of_run : ((home value : ℕ) × (running (take k log) seat ≡ Some (record { task = task; home = home; found = value; is_main = true }))
        × (left ≡ after (steps_of script task) value))
        → IsLastLeft (EndOfQueue log q) (suc k) (main_cell_after q (take k log) value seat (kinds.MainEnd task left))
    of_run (home, v, runs, leaves) = of_take (taken_at log k seat _ runs)
      where
        w : Running
        w = record { task = task; home = home; found = v; is_main = true }

        of_take : TakenBefore log k seat w → IsLastLeft (EndOfQueue log q) (suc k) (main_cell_after q (take k log) value seat (kinds.MainEnd task left))
        of_take (i, less, was) = at (eqb home q) refl
          where
            cell_is : (b : Bool) → eqb home q ≡ b → cond b left value ≡ main_cell_after q (take k log) value seat (kinds.MainEnd task left)
            cell_is b same = ap (λ x. cond x left value) (sym same) ∙ ap (λ o. cond (holds_of (λ w. w.is_main && eqb w.home q) o) left value) (sym runs)

            at : (b : Bool) → eqb home q ≡ b
                → IsLastLeft (EndOfQueue log q) (suc k) (main_cell_after q (take k log) value seat (kinds.MainEnd task left))
            at true same = subst (IsLastLeft (EndOfQueue log q) (suc k)) (cell_is true same) (last_is (EndOfQueue log q) k left (record {
              seat = seat;
              task = task;
              found = v;
              taken = i;
              ends = is;
              before = less;
              takes = subst (λ r. IsAt log i seat (kinds.MainTake task r v)) (eqb-true home q same) was;
            }))
            at false same = subst (IsLastLeft (EndOfQueue log q) (suc k)) (cell_is false same)
                (last_stays (EndOfQueue log q) k value (λ x end. none x end) last)
              where
                none : (x : ℕ) → EndOfQueue log q k x → ⊥
                none x end =
                    let task_is : end.task ≡ task = ap ended_task (same_at log k k end.seat seat _ _ refl end.ends is) in
                    let home_is = ((tasks_start_at_most_once script log legal).one_main_take end.taken i end.seat seat task q home end.found v
                    (subst (λ t. IsAt log end.taken end.seat (kinds.MainTake t q end.found)) task_is end.takes) was).2 in
                    both_ways (eqb home q) same (eq-eqb home q (sym home_is))
main_cell_next script log q k value seat kind legal is last =
    last_stays (EndOfQueue log q) k value (λ x end. no_main_end_at log q k seat x kind is refl end) last

-- the cell of a main queue at a place is what the last end of the queue left
main_cell_at : (script : Plan) (log : List Entry) (q k : ℕ) → IsLegal script log → k ≤ length log
    → IsLastLeft (EndOfQueue log q) k (main_cell_of (take k log) q)
main_cell_at script log q zero legal within = subst (IsLastLeft (EndOfQueue log q) 0) (sym (no_main_cell q)) (none_yet (EndOfQueue log q))
main_cell_at script log q (suc k) legal within =
    let (e, is) = entry_at log k within in
    subst (IsLastLeft (EndOfQueue log q) (suc k))
    (sym (main_cell_of_push (take k log) e q) ∙ ap (λ past. main_cell_of past q) (sym (take_at log k e is)))
    (main_cell_next script log q k (main_cell_of (take k log) q) e.seat e.kind legal is (main_cell_at script log q k legal (omega (arith, within))))

-- ---- the law

-- what an end leaves its steps make of what its take found
leaves_of_found : (script : Plan) (log : List Entry) (place seat task left : ℕ) → IsLegal script log → IsAt log place seat (kinds.End task left)
    → LeavesOfFound script log place seat task left
leaves_of_found script log place seat task left legal is =
    let (home, value, runs, leaves) = ends_running script (take place log) seat task left (may_come_at script log place _ legal is) in
    let (i, less, was) = taken_at log place seat _ runs in
    record { runner = home; found = value; taken = i; before = less; takes = was; leaves = leaves }

leaves_of_found_main : (script : Plan) (log : List Entry) (place seat task left : ℕ) → IsLegal script log → IsAt log place seat (kinds.MainEnd task left)
    → LeavesOfFoundMain script log place seat task left
leaves_of_found_main script log place seat task left legal is =
    let (home, value, runs, leaves) = main_ends_running script (take place log) seat task left (may_come_at script log place _ legal is) in
    let (i, less, was) = taken_at log place seat _ runs in
    record { queue = home; found = value; taken = i; before = less; takes = was; leaves = leaves }

-- in every legal log the state moves along
pub state_moves : (script : Plan) (log : List Entry) → IsLegal script log → StateMovesAlong script log
state_moves script log legal = record {
  finds = λ place seat task runner value is. subst (IsLastLeft (EndOfSequence script log (sequence_of script runner task)) place)
      (sym (take_is script (take place log) seat task runner value (may_come_at script log place _ legal is)).found_is)
      (cell_at script log (sequence_of script runner task) place legal (omega (arith, slice_get_within log place _ is)));
  leaves = λ place seat task left is. leaves_of_found script log place seat task left legal is;
  main_finds = λ place seat task queue value is. subst (IsLastLeft (EndOfQueue log queue) place)
      (sym (main_take_is script (take place log) seat task queue value (may_come_at script log place _ legal is)).found_is)
      (main_cell_at script log queue place legal (omega (arith, slice_get_within log place _ is)));
  main_leaves = λ place seat task left is. leaves_of_found_main script log place seat task left legal is;
}
