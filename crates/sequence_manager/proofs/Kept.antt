-- What an entry leaves of the main queues.
-- Cited by `Closes`, `DelayedPosts`, `Driver`, `Fences`, `Others`, `Parts`, `Posts`, `Ranks`, `Ticks`, `Waiting`.
use Rattle.std.proofs.Common.{◌≡◌, ℕ, Bool, true, false, cond, List, [], ◌∷◌, ◌++◌, map, refl, ap, ◌∙◌, Some, None}
use Rattle.std.specs.Prelude.{◌&&◌, ◌||◌, ◌==◌, not, filter}
use Rattle.std.specs.List.{range_with_len}
use Rattle.std.proofs.lemmas.Bool.{true≢false, not-true, not_from_false, or_from, and_left, or_parts}
use Rattle.std.proofs.Math.Bool.{or-false}
use Rattle.list_laws.specs.Lists.{holds_of, keep}
use Rattle.list_laws.proofs.Filters.{filter_congr}
use Rattle.list_laws.proofs.Filters.{map-congr_in}
use Rattle.list_laws.proofs.Elements.{AllByRecursion-always}
use Rattle.pool_laws.proofs.Seats.Cells.{main_cell_same}
use Rattle.pool_laws.proofs.Seats.Running.{running_same}
use Rattle.pool_laws.specs.Seats.{moves_running, main_parts}
use Rattle.task_base.specs.Plan.{Plan}
use Rattle.task_base.specs.declared.entry.Entry.{Entry}
use Rattle.task_base.specs.declared.entry.Kind.{Kind}
use Rattle.task_base.specs.declared.entry.Kind.TheVariants as kinds
use Rattle.task_base.specs.declared.script.FenceAt.TheVariants.{Now, Start}
use Rattle.task_base.specs.declared.script.Lane.{Lane}
use Rattle.task_base.specs.declared.script.Lane.TheVariants.{Immediate, Delayed}
use Rattle.task_model.proofs.Growth.{class_of_push, fence_of_push, is_closed_push, is_main_taken_push, votes_on_push}
use Rattle.task_model.specs.Cells.{main_cell_of}
use Rattle.task_model.specs.MainQueues.{class_after, class_of, fence_after, fence_of, is_in_lane, is_of_lane, vote_after, voters_of, votes_on}
use Rattle.task_model.specs.Orders.{next_draw}
use Rattle.queue_laws.specs.Orders.{Ordered}
use Rattle.task_model.specs.Posts.{Posted, is_main_taken, main_takes}
use Rattle.task_model.specs.Refusal.{closes, is_closed}
use Rattle.sequence_manager.specs.Pasts.{main_running}
use Rattle.sequence_manager.specs.Queues.{held_in, is_out, queue_of, queued_of}
use Rattle.pool_laws.specs.Moves.{Part, Fences, Votes, Classes, Closes, MainTakes, MainEnds, moves}
use Rattle.pool_laws.proofs.Moves.{moves_fewer}

-- the later past says of the queue what the earlier one did of which tasks were taken, and of its cell
pub record KeepsTasks (before past : List Entry) (q : ℕ) : Type 0 where
  pub closed_is : is_closed past q ≡ is_closed before q
  pub taken_is : (t : ℕ) → is_main_taken past t ≡ is_main_taken before t
  pub out_is : is_out past q ≡ is_out before q
  pub cell_is : main_cell_of past q ≡ main_cell_of before q

-- and of its fence and its votes
pub record Keeps (before past : List Entry) (q : ℕ) : Type 0 where
  pub tasks : KeepsTasks before past q
  pub fence_is : fence_of past q ≡ fence_of before q
  pub votes_are : (v : ℕ) → votes_on past q v ≡ votes_on before q v

pub held_kept : (before past : List Entry) (arrivals : List Ordered) (q : ℕ) (lane : Lane) → is_closed past q ≡ is_closed before q
    → ((t : ℕ) → is_main_taken past t ≡ is_main_taken before t) → held_in past arrivals q lane ≡ held_in before arrivals q lane
held_kept before past arrivals q lane closed taken =
    ap (λ b. cond b [] (map queued_of (filter (λ o. is_in_lane past q lane o.posted) arrivals))) closed
    ∙ ap (λ os. cond (is_closed before q) [] (map queued_of os))
    (filter_congr (λ o. is_in_lane past q lane o.posted) (λ o. is_in_lane before q lane o.posted) arrivals
    (λ o. ap (λ b. o.posted.home == q && is_of_lane lane o.posted && not b) (taken o.posted.task)))

-- the votes of a queue
abbrev pub votes_of : Plan → List Entry → ℕ → List Bool
votes_of script past q = map (votes_on past q) (range_with_len 0 (voters_of script q))

pub tasks_kept : (script : Plan) (before past : List Entry) (arrivals : List Ordered) (waiting : List Posted) (q : ℕ) → KeepsTasks before past q
    → queue_of script past arrivals waiting q
    ≡ record (queue_of script before arrivals waiting q) { fence = fence_of past q; voters = votes_of script past q }
unfolding queue_of
tasks_kept script before past arrivals waiting q keeps =
    rw (
      held_kept before past arrivals q Immediate keeps.closed_is keeps.taken_is,
      held_kept before past arrivals q Delayed keeps.closed_is keeps.taken_is,
      keeps.out_is,
      keeps.cell_is,
      keeps.closed_is,
    )
    refl

fence_and_votes : (script : Plan) (before : List Entry) (arrivals : List Ordered) (waiting : List Posted) (q : ℕ)
    → record (queue_of script before arrivals waiting q) { fence = fence_of before q; voters = votes_of script before q }
    ≡ queue_of script before arrivals waiting q
unfolding queue_of
fence_and_votes script before arrivals waiting q = refl

pub votes_same : (script : Plan) (before past : List Entry) (q : ℕ) → ((v : ℕ) → votes_on past q v ≡ votes_on before q v)
    → votes_of script past q ≡ votes_of script before q
votes_same script before past q same = map-congr_in (votes_on past q) (votes_on before q) (range_with_len 0 (voters_of script q))
    (AllByRecursion-always _ (range_with_len 0 (voters_of script q)) same)

pub queue_kept : (script : Plan) (before past : List Entry) (arrivals : List Ordered) (waiting : List Posted) (q : ℕ) → Keeps before past q
    → queue_of script past arrivals waiting q ≡ queue_of script before arrivals waiting q
queue_kept script before past arrivals waiting q keeps =
    tasks_kept script before past arrivals waiting q keeps.tasks
    ∙ ap (λ fence. record (queue_of script before arrivals waiting q) { fence = fence; voters = votes_of script past q }) keeps.fence_is
    ∙ ap (λ votes. record (queue_of script before arrivals waiting q) { fence = fence_of before q; voters = votes })
    (votes_same script before past q keeps.votes_are)
    ∙ fence_and_votes script before arrivals waiting q

-- Which entries keep what.

-- the queue that an entry names is this one
abbrev names : ℕ → Kind → Bool
names q (kinds.Fence queue at) = queue == q
names q (kinds.Unfence queue) = queue == q
names q (kinds.Vote queue voter on) = queue == q
names q (kinds.Close queue) = queue == q
names q kind = true

-- the entry sets or removes the queue's fence, sets one of its votes, or closes it
abbrev pub setting_parts : List Part
setting_parts = Fences ∷ Votes ∷ Closes ∷ []

abbrev pub sets : ℕ → Kind → Bool
sets q kind = moves setting_parts kind && names q kind

-- the entry is of another queue, or of none
abbrev pub is_of_other : ℕ → Kind → Bool
is_of_other q kind = not (moves main_parts kind || sets q kind)

pub other_of : (q : ℕ) (kind : Kind) → moves main_parts kind ≡ false → moves setting_parts kind ≡ false → is_of_other q kind ≡ true
other_of q kind no_main no_setting =
    not_from_false _ (or_from (moves main_parts kind) (sets q kind) no_main (and_left (moves setting_parts kind) (names q kind) no_setting))

pub closed_kept : (past : List Entry) (e : Entry) (q : ℕ) → sets q e.kind ≡ false → is_closed (past ++ e ∷ []) q ≡ is_closed past q
closed_kept past e q none = is_closed_push past e q ∙ ap (λ b. is_closed past q || b) (by_kind e.kind none) ∙ or-false (is_closed past q)
  where
    by_kind : (kind : Kind) → sets q kind ≡ false → closes q kind ≡ false
    by_kind (kinds.Close queue) h = h
    by_kind kind h = refl

pub taken_kept : (past : List Entry) (e : Entry) → moves (MainTakes ∷ []) e.kind ≡ false → (t : ℕ) → is_main_taken (past ++ e ∷ []) t ≡ is_main_taken past t
taken_kept past e none t = is_main_taken_push past e t ∙ ap (λ b. is_main_taken past t || b) (by_kind e.kind none) ∙ or-false (is_main_taken past t)
  where
    by_kind : (kind : Kind) → moves (MainTakes ∷ []) kind ≡ false → main_takes t kind ≡ false
    by_kind (kinds.MainTake task queue found) h = absurd (true≢false h)
    by_kind kind h = refl

pub fence_kept : (past : List Entry) (e : Entry) (q : ℕ) → sets q e.kind ≡ false → fence_of (past ++ e ∷ []) q ≡ fence_of past q
fence_kept past e q none = fence_of_push past e q ∙ by_kind e.kind none
  where
    by_kind : (kind : Kind) → sets q kind ≡ false → fence_after q past (fence_of past q) kind ≡ fence_of past q
    by_kind (kinds.Fence queue Now) h = ap (λ b. cond b (Some (next_draw past)) (fence_of past q)) h
    by_kind (kinds.Fence queue Start) h = ap (λ b. cond b (Some 1) (fence_of past q)) h
    by_kind (kinds.Unfence queue) h = ap (λ b. cond b None (fence_of past q)) h
    by_kind kind h = refl

pub votes_kept : (past : List Entry) (e : Entry) (q : ℕ) → sets q e.kind ≡ false → (v : ℕ) → votes_on (past ++ e ∷ []) q v ≡ votes_on past q v
votes_kept past e q none v = votes_on_push past e q v ∙ by_kind e.kind none
  where
    by_kind : (kind : Kind) → sets q kind ≡ false → vote_after q v (votes_on past q v) kind ≡ votes_on past q v
    by_kind (kinds.Vote queue voter on) h = ap (λ b. cond (b && voter == v) on (votes_on past q v)) h
    by_kind kind h = refl

-- the driver runs what it ran
abbrev pub IsDriversAsBefore : List Entry → Entry → Type 0
IsDriversAsBefore past e = main_running (past ++ e ∷ []) ≡ main_running past

-- an entry of another queue, or of none, keeps what the queue is
pub other_keeps : (past : List Entry) (e : Entry) (q : ℕ) → is_of_other q e.kind ≡ true → IsDriversAsBefore past e → Keeps past (past ++ e ∷ []) q
other_keeps past e q other as_before = record {
  tasks = record {
    closed_is = closed_kept past e q none.1;
    taken_is = taken_kept past e (moves_fewer (MainTakes ∷ []) main_parts e.kind refl none.0);
    out_is = ap (holds_of (λ w. w.home == q)) as_before;
    cell_is = main_cell_same past e q (moves_fewer (MainEnds ∷ []) main_parts e.kind refl none.0);
  };
  fence_is = fence_kept past e q none.1;
  votes_are = votes_kept past e q none.1;
}
  where
    none : (moves main_parts e.kind ≡ false) × (sets q e.kind ≡ false)
    none = or_parts (moves main_parts e.kind) (sets q e.kind) (not-true _ other)

pub driver_same : (past : List Entry) (e : Entry) → moves_running e.kind ≡ false → IsDriversAsBefore past e
driver_same past e quiet = ap (keep (λ w. w.is_main)) (running_same past e 0 quiet)

-- an entry that ranks no queue leaves each one's class
pub class_kept : (script : Plan) (past : List Entry) (e : Entry) (q : ℕ) → moves (Classes ∷ []) e.kind ≡ false
    → class_of script (past ++ e ∷ []) q ≡ class_of script past q
class_kept script past e q none = class_of_push script past e q ∙ by_kind e.kind none
  where
    by_kind : (kind : Kind) → moves (Classes ∷ []) kind ≡ false → class_after q (class_of script past q) kind ≡ class_of script past q
    by_kind (kinds.Rank queue class) h = absurd (true≢false h)
    by_kind kind h = refl
