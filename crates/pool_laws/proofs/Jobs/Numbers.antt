-- The numbers that workers have inside a job. One more worker always finds a free one, the least that nobody inside has,
-- and that is at most how many are inside.
-- Cited by `call_laws`, `hist_model`, `log_count`, `pool_core`, `situation`.
use Rattle.std.proofs.Common.{◌≡◌, ℕ, ◌+◌, ◌≤◌, true, eqb, List, length, sym, ap, ◌∙◌, Option, Some, None}
use Rattle.std.specs.Prelude.{not, find}
use Rattle.std.specs.List.{list_any, range_with_len}
use Rattle.std.proofs.lemmas.Bool.{false≢true, eqb-true, and_parts}
use Rattle.std.proofs.lemmas.Map.Views.{any-filter_same}
use Rattle.task_base.specs.Plan.{Plan}
use Rattle.task_base.specs.declared.entry.Entry.{Entry}
use Rattle.list_laws.specs.Lists.{IsFirst, holds_of}
use Rattle.task_model.specs.Seats.{Holding, holding, all_seats, inside}
use Rattle.task_model.specs.Jobs.{holds_id, is_free_id, free_id}
use Rattle.list_laws.proofs.Pigeons.{first_free, list_all-not}
use Rattle.list_laws.proofs.Tests.{find_congr}

-- a seat inside has one number
one_number : (j : ℕ) (o : Option Holding) (m n : ℕ) → holds_id j m o ≡ true → holds_id j n o ≡ true → m ≡ n
one_number j None m n h k = absurd (false≢true h)
one_number j (Some held) m n h k = sym (eqb-true held.id m (and_parts (eqb held.job j) (eqb held.id m) h).1)
    ∙ eqb-true held.id n (and_parts (eqb held.job j) (eqb held.id n) k).1

-- a seat with a number inside the job is inside it
has_is_inside : (j n : ℕ) (o : Option Holding) → holds_id j n o ≡ true → holds_of (λ h. eqb h.job j) o ≡ true
has_is_inside j n None h = absurd (false≢true h)
has_is_inside j n (Some held) h = (and_parts (eqb held.job j) (eqb held.id n) h).0

-- a number is free where no seat inside has it
pub free_by_inside : (script : Plan) (past : List Entry) (j n : ℕ)
    → is_free_id script past j n ≡ not (list_any (λ seat. holds_id j n (holding past seat)) (inside script past j))
unfolding inside
free_by_inside script past j n =
    list_all-not (λ seat. holds_id j n (holding past seat)) (all_seats script)
    ∙ ap not (sym (any-filter_same (λ seat. holds_id j n (holding past seat)) (λ seat. holds_of (λ h. eqb h.job j) (holding past seat)) true
    (λ seat h. has_is_inside j n (holding past seat) h) (all_seats script)))

-- some number is free, the least free one is found, and it is at most how many are inside
pub free_id_is_first : (script : Plan) (past : List Entry) (j : ℕ)
    → (n : ℕ) × (free_id script past j ≡ Some n) × IsFirst (is_free_id script past j) n × (n ≤ length (inside script past j))
free_id_is_first script past j =
    let first : (n : ℕ) × (find (λ i. not (list_any (λ seat. holds_id j i (holding past seat)) (inside script past j)))
    (range_with_len 0 (length (inside script past j) + 1)) ≡ Some n)
    × IsFirst (λ i. not (list_any (λ seat. holds_id j i (holding past seat)) (inside script past j))) n × (n ≤ length (inside script past j)) =
    first_free (λ i seat. holds_id j i (holding past seat)) (inside script past j) (λ m n seat. one_number j (holding past seat) m n) in (
      first.0,
      find_congr (is_free_id script past j) (λ i. not (list_any (λ seat. holds_id j i (holding past seat)) (inside script past j)))
          (range_with_len 0 (length (inside script past j) + 1)) (free_by_inside script past j) ∙ first.1,
      record {
        passes = free_by_inside script past j first.0 ∙ first.2.passes;
        none_lesser = λ m less. free_by_inside script past j m ∙ first.2.none_lesser m less;
      },
      first.3,
    )
