-- Which seats run or hold something, found in their hands.
-- Cited by `busy_seats`, `end_told`.
use Rattle.std.proofs.Common.{◌≡◌, ℕ, ◌+◌, ◌<◌, ◌≤◌, true, false, List, [], ◌∷◌, ◌++◌, append-nil, length, refl, sym, ap, ◌∙◌}
use Rattle.std.proofs.Common.{Option, Some, None, ⊎_elim, arith}
use Rattle.std.proofs.lemmas.Bool.{both_ways, true≢false}
use Rattle.std.proofs.lemmas.List.Elements.{filter_map-append}
use Rattle.std.proofs.lemmas.Option.{slice_get_cases}
use Rattle.std.specs.List.{filter_map, range_with_len}
use Rattle.std.specs.Option.{option_map, option_or}
use Rattle.std.specs.Prelude.{option_and_then, slice_get, map, is_none, ◌&&◌, Contains}
use Rattle.list_laws.proofs.Filters.{filter_map_congr_in}
use Rattle.list_laws.proofs.Made.{contains_cases, contains_filter_map, contains_range, none_contained}
use Rattle.list_laws.proofs.Ranges.{AllByRecursion-range, range_split}
use Rattle.task_base.specs.Plan.{Plan}
use Rattle.task_base.specs.declared.entry.Entry.{Entry}
use Rattle.task_model.specs.Seats.{Holding, Running, all_seats, holding, is_free, running}
use Rattle.pool_laws.proofs.Room.Capacity.{free_parts}
use Rattle.hist_model.specs.Script.{is_finished}
use Rattle.hist_model.proofs.Laws.OneThing.{legal_does_one_thing}
use Rattle.hist_model.proofs.Laws.Own.{holding_own}
use Rattle.env_core.specs.Jobs.{held_by}
use Rattle.env_core.specs.Views.{EnvView}
use Rattle.env_step.specs.Hands.{AreInHand, IsInHand}
use Rattle.env_step.specs.declared.hand.Hand.{Hand}
use Rattle.env_step.specs.declared.hand.Hand.TheVariants.{Free, Item, Task}
use Rattle.env_step.proofs.Free.{free_hand}
use Rattle.env_step.proofs.UnderWay.{runs_it}
use Rattle.next_entry.specs.declared.cause.Busy.{Busy}
use Rattle.next_entry.specs.declared.cause.Work.{Work}
use Rattle.next_entry.specs.declared.cause.Work.TheVariants as works
use Rattle.env_explain.specs.Explained.{HasMore, IsOnlyOne, at_work, busy_at, busy_below, work_in, work_of}

module _ (hands : List Hand) (seat : ℕ) where
  next_seat : busy_below hands (seat + 1) ≡ busy_below hands seat ++ filter_map (busy_at hands) (seat ∷ [])
  next_seat = rw (range_split 0 seat 0 (seat + 1) seat (omega arith) (omega arith)) (filter_map-append (busy_at hands) (range_with_len 0 seat) (seat ∷ []))

  -- a seat that has nothing in hand is none of them
  pub with_none : option_and_then work_in (slice_get hands seat) ≡ None → busy_below hands (seat + 1) ≡ busy_below hands seat
  with_none is = next_seat ∙ rw (is, append-nil) refl

  -- one that has something is the next
  pub with_next : (work : Work) → option_and_then work_in (slice_get hands seat) ≡ Some work
      → busy_below hands (seat + 1) ≡ busy_below hands seat ++ record { seat = seat; work = work } ∷ []
  with_next work is = next_seat ∙ rw is refl

-- a seat runs or holds what it has in hand
work_told : {view : EnvView} {hands : List Hand} (seat : ℕ) (hand : Hand) → AreInHand view hands → IsInHand view seat hand
    → work_in hand ≡ work_of view.history seat
work_told {view} seat Free are in_hand =
    let parts = free_parts view.history seat (sym (free_hand view seat Free in_hand)) in rw (parts.0, parts.1) refl
work_told {view} seat (Task at) are in_hand = rw (runs_it in_hand) (ap (λ (task : ℕ). Some (works.Task task)) in_hand.seats.task_is)
work_told {view} seat (Item pass) are in_hand = by_running (running view.history seat) refl
  where
    by_running : (o : Option Running) → running view.history seat ≡ o → work_in (Item pass) ≡ work_of view.history seat
    by_running None is = rw (is, ← holding_own view.history seat, in_hand.holds) refl
    by_running (Some w) is = absurd ((legal_does_one_thing view.script view.history are.legal).one_thing seat w (held_by pass) is
        (sym (holding_own view.history seat) ∙ in_hand.holds))

-- so those that have something in hand are those that run or hold something
pub at_work_told : {view : EnvView} {hands : List Hand} → AreInHand view hands → busy_below hands (view.script.workers + 1) ≡ at_work view.script view.history
at_work_told {view} {hands} are = filter_map_congr_in (busy_at hands) (λ seat. option_map (busy_of seat) (work_of view.history seat))
    (range_with_len 0 (view.script.workers + 1))
    (AllByRecursion-range (λ seat. busy_at hands seat ≡ option_map (busy_of seat) (work_of view.history seat)) 0 (view.script.workers + 1)
    (λ seat from below. ap (option_map (busy_of seat)) (in_hand seat (omega (arith, below, are.all)))))
  where
    busy_of : ℕ → Work → Busy
    busy_of seat work = record { seat = seat; work = work }

    in_hand : (seat : ℕ) → seat < length hands → option_and_then work_in (slice_get hands seat) ≡ work_of view.history seat
    in_hand seat within = ⊎_elim (λ k. rw k.2 (work_told seat k.0 are (are.each seat k.0 k.2))) (λ k. absurd (omega (arith, within, k.0)))
        (slice_get_cases hands seat).1

-- The only one.

-- a seat that is not free runs or holds something
busy_has_work : (past : List Entry) (seat : ℕ) → is_free past seat ≡ false → (work : Work) × (work_of past seat ≡ Some work)
busy_has_work past seat busy = by_seat (running past seat) (holding past seat) busy
  where
    by_seat : (r : Option Running) (h : Option Holding) → (is_none r && is_none h) ≡ false
        → (work : Work) × (option_or (option_map (λ (w : Running). works.Task w.task) r) (option_map (λ (k : Holding). works.Item k.job) h) ≡ Some work)
    by_seat None None busy = absurd (true≢false busy)
    by_seat None (Some h) busy = (works.Item h.job, refl)
    by_seat (Some w) h busy = (works.Task w.task, refl)

-- one of at most one is the only one
alone : (seats : List Busy) (one : Busy) → Contains seats one → length seats ≤ 1 → map (λ (b : Busy). b.seat) seats ≡ one.seat ∷ []
alone [] one among few = absurd (none_contained one among)
alone (b ∷ []) one among few = ⊎_elim (λ same. ap (λ (x : Busy). x.seat ∷ []) same) (λ rest. absurd (none_contained one rest)) (contains_cases b [] one among)
alone (b ∷ c ∷ rest) one among few = absurd (omega (arith, few))

-- where the script is finished, a seat that has something left to do is the only one if at most one runs or holds something
pub only_one : (script : Plan) (past : List Entry) (seat : ℕ) → seat ≤ script.workers → HasMore script past seat
    → (is_finished script past ≡ true → length (at_work script past) ≤ 1) → IsOnlyOne script past seat
only_one script past seat known more few finished = ⊎_elim by_work (λ driver. absurd (both_ways (is_finished script past) driver.1 finished)) more
  where
    by_work : is_free past seat ≡ false → map (λ (b : Busy). b.seat) (at_work script past) ≡ seat ∷ []
    by_work busy =
        let (work, is) = busy_has_work past seat busy in
        alone (at_work script past) (record { seat = seat; work = work })
        (contains_filter_map (λ s. option_map (λ x. record { seat = s; work = x }) (work_of past s)) (all_seats script) seat
        (record { seat = seat; work = work }) (contains_range (script.workers + 1) seat (omega (arith, known)))
        (ap (option_map (λ (x : Work). record { seat = seat; work = x })) is))
        (few finished)
