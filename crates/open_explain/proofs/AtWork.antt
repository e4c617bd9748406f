-- Who runs or holds something, found seat by seat.
-- Cited by `busy_seats`, `explain_open`.
use Rattle.std.proofs.Common.{◌≡◌, ℕ, zero, suc, ◌+◌, ◌≤◌, true, false, List, [], ◌∷◌, ◌++◌, append-nil, length, refl, ◌∙◌, Option, Some, None, arith}
use Rattle.std.proofs.lemmas.List.Elements.{filter_map-append}
use Rattle.std.specs.List.{filter_map, list_all, range_with_len}
use Rattle.std.specs.Option.{option_map, option_or}
use Rattle.std.specs.Prelude.{◌&&◌, is_none}
use Rattle.std.proofs.lemmas.Bool.{both_ways}
use Rattle.list_laws.proofs.Ranges.{range_split}
use Rattle.task_base.specs.Plan.{Plan}
use Rattle.task_base.specs.declared.entry.Entry.{Entry}
use Rattle.task_model.specs.Seats.{Holding, Running, all_seats, holding, is_free, is_quiet, running}
use Rattle.next_entry.specs.declared.cause.Busy.{Busy}
use Rattle.next_entry.specs.declared.cause.Work.{Work}
use Rattle.next_entry.specs.declared.cause.Work.TheVariants as works
use Rattle.env_explain.specs.Explained.{at_work, work_of}

module _ (past : List Entry) where
  abbrev pub busy_at : ℕ → Option Busy
  busy_at seat = option_map (λ (work : Work). record { seat = seat; work = work }) (work_of past seat)

  next_seat : (seat : ℕ) → filter_map busy_at (range_with_len 0 (seat + 1)) ≡ filter_map busy_at (range_with_len 0 seat) ++ filter_map busy_at (seat ∷ [])
  next_seat seat = rw (range_split 0 seat 0 (seat + 1) seat (omega arith) (omega arith)) (filter_map-append busy_at (range_with_len 0 seat) (seat ∷ []))

  -- a seat that does nothing is none of them
  pub with_none : (seat : ℕ) → work_of past seat ≡ None → filter_map busy_at (range_with_len 0 (seat + 1)) ≡ filter_map busy_at (range_with_len 0 seat)
  with_none seat is = next_seat seat ∙ rw (is, append-nil) refl

  -- one that does something is the next
  pub with_next : (seat : ℕ) (work : Work) → work_of past seat ≡ Some work
      → filter_map busy_at (range_with_len 0 (seat + 1)) ≡ filter_map busy_at (range_with_len 0 seat) ++ record { seat = seat; work = work } ∷ []
  with_next seat work is = next_seat seat ∙ rw is refl

  -- a seat that does nothing is free
  is_free_where : (seat : ℕ) → work_of past seat ≡ None → is_free past seat ≡ true
  is_free_where seat is = by_seat (running past seat) (holding past seat) is
    where
      by_seat : (r : Option Running) (h : Option Holding)
          → option_or (option_map (λ (w : Running). works.Task w.task) r) (option_map (λ (k : Holding). works.Item k.job) h) ≡ None
          → (is_none r && is_none h) ≡ true
      by_seat None None is = refl
      by_seat None (Some h) is = absurd cc
      by_seat (Some w) h is = absurd cc

  -- where nobody is at work, all seats are free
  none_busy : (seats : List ℕ) → length (filter_map busy_at seats) ≡ 0 → list_all (is_free past) seats ≡ true
  none_busy [] none = refl
  none_busy (seat ∷ seats) none = by_work (work_of past seat) refl (none_busy seats)
    where
      by_work : (o : Option Work) → work_of past seat ≡ o → (length (filter_map busy_at seats) ≡ 0 → list_all (is_free past) seats ≡ true)
          → list_all (is_free past) (seat ∷ seats) ≡ true
      by_work None is others = rw (is_free_where seat is) (others (rw is at none))
      by_work (Some work) is others = absurd (let some = rw is at none in omega (arith, some))

-- so somebody is at work where it is not quiet
pub some_at_work : (plan : Plan) (past : List Entry) → is_quiet plan past ≡ false → 1 ≤ length (at_work plan past)
unfolding is_quiet
some_at_work plan past busy = by_count (length (at_work plan past)) refl
  where
    by_count : (n : ℕ) → length (at_work plan past) ≡ n → 1 ≤ n
    by_count zero none = absurd (both_ways (list_all (is_free past) (all_seats plan)) busy (none_busy past (all_seats plan) none))
    by_count (suc n) some = omega arith
