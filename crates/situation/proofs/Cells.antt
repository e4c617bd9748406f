-- A task of a parallel runner finds 0: until it is taken its cell is as it was.
-- Cited by `Ways`, `log_count`.
use Rattle.std.proofs.Common.{◌≡◌, ℕ, ◌+◌, ◌<◌, ◌≤◌, Bool, true, false, cond, eqb, List, length, refl, sym, ap, subst, ◌∙◌, Option, Some, None, arith}
use Rattle.std.specs.Prelude.{not, slice_get}
use Rattle.std.proofs.lemmas.Bool.{and_parts, eqb-true, or_parts, both_ways, not-true}
use Rattle.task_base.specs.Plan.{Plan}
use Rattle.task_base.specs.Runners.{sequence_of, is_parallel}
use Rattle.task_base.specs.declared.entry.Entry.{Entry}
use Rattle.task_base.specs.declared.entry.Kind.{Kind}
use Rattle.task_base.specs.declared.entry.Kind.TheVariants as kinds
use Rattle.list_laws.specs.Lists.{holds_of}
use Rattle.list_laws.proofs.Elements.{AllByRecursion-contains}
use Rattle.script_model.specs.Laws.Sound.{IsSound}
use Rattle.task_model.specs.Past.{fold_past}
use Rattle.task_model.specs.Posts.{posts, is_taken, takes}
use Rattle.task_model.specs.Keys.{Ready}
use Rattle.task_model.specs.Sequences.{head_of}
use Rattle.task_model.specs.Seats.{Running, running, runs_of}
use Rattle.task_model.specs.Cells.{cell_of, cell_after}
use Rattle.task_model.proofs.Growth.{cell_of_push, is_taken_push}
use Rattle.pool_laws.proofs.Choice.Least.{head_is}
use Rattle.hist_model.specs.Legal.{IsLegal}
use Rattle.hist_model.proofs.Laws.Consistent.{legal_is_consistent}
use Rattle.hist_model.proofs.Laws.Legal.{legal_induction}
use Rattle.situation.proofs.Declared.{all_declared, posts_declared}

-- past the runners, a sequence is that of one task
only_task : (script : Plan) (home task s : ℕ) → home < length script.runners → length script.runners ≤ s → sequence_of script home task ≡ s
    → s ≡ length script.runners + task
only_task script home task s within beyond is = by_kind (holds_of (λ r. is_parallel r.kind) (slice_get script.runners home)) is
  where
    by_kind : (b : Bool) → cond b (length script.runners + task) home ≡ s → s ≡ length script.runners + task
    by_kind true h = sym h
    by_kind false h = absurd (omega (arith, within, beyond, h))

-- a task that was not taken has left nothing
own_cell : (script : Plan) (past : List Entry) → IsSound script → IsLegal script past → (t : ℕ) → is_taken past t ≡ false
    → cell_of script past (length script.runners + t) ≡ 0
unfolding cell_of fold_past
own_cell script past sound = legal_induction script (λ before. (t : ℕ) → is_taken before t ≡ false → cell_of script before (length script.runners + t) ≡ 0)
    (λ t untaken. refl)
    (λ before e legal allowed is_zero t untaken.
    let parts = or_parts (is_taken before t) (takes t e.kind) (sym (is_taken_push before e t) ∙ untaken) in
    cell_of_push script before e (length script.runners + t)
    ∙ ap (λ v. cell_after script (length script.runners + t) before v e.seat e.kind) (is_zero t parts.0) ∙ by_kind before legal t parts.0 e.seat e.kind) past
  where
    by_running : (before : List Entry) → IsLegal script before → (t : ℕ) → is_taken before t ≡ false → (seat left : ℕ) (o : Option Running)
        → running before seat ≡ o → cond (holds_of (runs_of script (length script.runners + t)) o) left 0 ≡ 0
    by_running before legal t untaken seat left None is = refl
    by_running before legal t untaken seat left (Some w) is = by_test (runs_of script (length script.runners + t) w) refl
      where
        by_test : (b : Bool) → runs_of script (length script.runners + t) w ≡ b → cond b left 0 ≡ 0
        by_test false not_its = refl
        by_test true its =
            let parts = and_parts (not w.is_main) (eqb (sequence_of script w.home w.task) (length script.runners + t)) its in
            let r = (legal_is_consistent script before legal false).runs seat w is (not-true w.is_main parts.0) in
            let home : r.can.accepted.home < length script.runners = AllByRecursion-contains (λ p. p.home < length script.runners) (posts before) r.can.accepted
            (posts_declared script before (all_declared script before sound legal)) r.can.posted in
            let is_task : length script.runners + t ≡ length script.runners + w.task =
            only_task script w.home w.task (length script.runners + t) (subst (λ n. n < length script.runners) r.can.home_is home) (omega arith)
            (eqb-true (sequence_of script w.home w.task) (length script.runners + t) parts.1) in
            let same : w.task ≡ t = omega (arith, is_task) in
            absurd (both_ways (is_taken before t) untaken (ap (is_taken before) (sym same) ∙ r.taken))

    by_kind : (before : List Entry) → IsLegal script before → (t : ℕ) → is_taken before t ≡ false → (seat : ℕ) (kind : Kind)
        → cell_after script (length script.runners + t) before 0 seat kind ≡ 0
    by_kind before legal t untaken seat (kinds.End task left) = by_running before legal t untaken seat left (running before seat) refl
    by_kind before legal t untaken seat kind = refl

-- so the head of a parallel runner's sequence finds 0
pub head_cell : (script : Plan) (past : List Entry) (s : ℕ) (r : Ready) → IsSound script → IsLegal script past → length script.runners ≤ s
    → head_of script past s ≡ Some r → cell_of script past s ≡ 0
head_cell script past s r sound legal beyond is =
    let h = head_is script past s r is in
    let home : r.posted.home < length script.runners = AllByRecursion-contains (λ p. p.home < length script.runners) (posts past) r.posted
    (posts_declared script past (all_declared script past sound legal)) h.accepted in
    let is_task : s ≡ length script.runners + r.posted.task =
    only_task script r.posted.home r.posted.task s home beyond (eqb-true (sequence_of script r.posted.home r.posted.task) s h.of_sequence) in
    ap (cell_of script past) is_task
    ∙ own_cell script past sound legal r.posted.task (not-true (is_taken past r.posted.task) (and_parts (not (is_taken past r.posted.task)) _ h.free).0)
