-- How many tasks all sequences have together, and how many of them a phase forbids.
-- Cited by `Sequences::new`, `Sequences::purge`.
use Rattle.std.proofs.Common.{◌≡◌, ℕ, zero, suc, ◌+◌, ◌-◌, replicate, Bool, true, false, cond, List, [], ◌∷◌, length, map, refl, ap, ◌∙◌, Option, arith}
use Rattle.std.proofs.Math.Nat.{sub-zero}
use Rattle.std.specs.Prelude.{filter, not, is_some}
use Rattle.std.specs.List.{sum_by, count_by}
use Rattle.std.proofs.lemmas.List.Sums.{sum_by-cons}
use Rattle.task_traits.specs.Behaviour.{forbids}
use Rattle.task_traits.specs.declared.phase.Phase.{Phase}
use Rattle.task_sequence.specs.Sequences.{Waiting, Sequence, fresh, purged, may_stay, forbidden_in}
use Rattle.task_sequence.specs.Links.{tasks_of, IsLinked}
use Rattle.task_sequence.specs.Lines.{fresh_line, ends_at, sequences_of, IsWhole}
use Rattle.task_sequence.specs.declared.links.Node.{Node}
use Rattle.task_sequence.specs.declared.lines.Line.{Line}
use Rattle.task_sequence.proofs.Turns.{length-tasks}

-- how many tasks all sequences have together
abbrev pub held_in : List Sequence → ℕ
held_in sequences = sum_by (λ s. length s.tasks) sequences

held_in-lines : (slots : List (Option Node)) (lines : List Line) → ((j : ℕ) → IsLinked slots (ends_at lines j))
    → held_in (sequences_of slots lines) ≡ sum_by (λ line. line.ends.count) lines
held_in-lines slots [] linked = refl
held_in-lines slots (line ∷ lines) linked =
    let here : line.ends.count ≡ length (tasks_of slots line.ends) = length-tasks slots line.ends (tasks_of slots line.ends) (linked 0) in
    let there = held_in-lines slots lines (λ j. linked (suc j)) in
    omega (
      arith,
      here,
      there,
      sum_by-cons (λ s. length s.tasks) (record { tasks = tasks_of slots line.ends; cell = line.cell }) (sequences_of slots lines),
      sum_by-cons (λ l. l.ends.count) line lines,
    )

-- as many as the slab holds
pub held_in-whole : (slots : List (Option Node)) (lines : List Line) (held : ℕ) → IsWhole slots lines held → held_in (sequences_of slots lines) ≡ held
held_in-whole slots lines held whole = held_in-lines slots lines whole.linked ∙ whole.counted

one : (b : Bool) (w : Waiting) (ws : List Waiting) → cond b 1 0 + length (cond (not b) (w ∷ ws) ws) ≡ suc (length ws)
one true w ws = omega arith
one false w ws = omega arith

-- each task stays or is forbidden
forbidden_or_stays : (phase : Phase) (ws : List Waiting) → count_by (λ w. forbids phase w.effective) ws + length (filter (may_stay phase) ws) ≡ length ws
forbidden_or_stays phase [] = refl
forbidden_or_stays phase (w ∷ ws) =
    omega (
      arith,
      forbidden_or_stays phase ws,
      one (forbids phase w.effective) w (filter (may_stay phase) ws),
      sum_by-cons (λ v. cond (forbids phase v.effective) 1 0) w ws,
    )

-- those that a purge removes are those that the phase forbids
pub held_in-purged : (phase : Phase) (sequences : List Sequence)
    → sum_by (forbidden_in phase) sequences + held_in (map (purged phase) sequences) ≡ held_in sequences
held_in-purged phase [] = refl
held_in-purged phase (s ∷ rest) =
    omega (
      arith,
      forbidden_or_stays phase s.tasks,
      held_in-purged phase rest,
      sum_by-cons (forbidden_in phase) s rest,
      sum_by-cons (λ s. length s.tasks) (purged phase s) (map (purged phase) rest),
      sum_by-cons (λ s. length s.tasks) s rest,
    )

-- fresh lines say fresh sequences
fresh_lines_say : (count : ℕ) → sequences_of [] (replicate count fresh_line) ≡ replicate count fresh
fresh_lines_say zero = refl
fresh_lines_say (suc count) = ap (λ ss. fresh ∷ ss) (fresh_lines_say count)

-- without a node, and with fresh lines, the sequences are fresh
pub fresh_view : (slots : List (Option Node)) (lines : List Line) (count : ℕ) → slots ≡ [] → lines ≡ replicate count fresh_line
    → sequences_of slots lines ≡ replicate count fresh
fresh_view slots lines count none all = ap (λ s. sequences_of s lines) none ∙ ap (λ l. sequences_of [] l) all ∙ fresh_lines_say count

-- without a node all room is left
pub fresh_room : (slots : List (Option Node)) (room : ℕ) → slots ≡ [] → room - count_by is_some slots ≡ room
fresh_room slots room none = ap (λ s. room - count_by is_some s) none ∙ sub-zero room
