-- Whether the best source is one for this seat alone, and the best of several queues.
-- Cited by `Pool::best`, `Pool::has_own_work`, `Pool::offer`.
use Rattle.list_laws.specs.Lists.{Ranks, holds_of}
use Rattle.pool_core.proofs.Accepted.{head_accepted}
use Rattle.pool_core.specs.Calls.{is_own}
use Rattle.pool_core.specs.Choice.{IsBestOf, IsOffer, IsOffered, better_of, is_open, is_single}
use Rattle.pool_core.specs.Queues.{queue_of, rank_as}
use Rattle.pool_core.specs.StandsFor.{StandsFor}
use Rattle.pool_core.specs.declared.pool.Pool.{Pool}
use Rattle.pool_laws.proofs.Choice.Least.{ranks_goes_before}
use Rattle.sequence_queue.specs.Ranked.{rank_below}
use Rattle.sequence_queue.specs.declared.rank.Rank.{Rank}
use Rattle.std.proofs.Common.{Bool, List, None, Option, Some, ap, arith, cond, false, inl, inr, length, refl, subst, sym, true, ℕ, ◌+◌, ◌∙◌, ◌≡◌, ◌≤◌}
use Rattle.std.proofs.lemmas.Option.{none-some, slice_get_past}
use Rattle.std.specs.Option.{option_map}
use Rattle.std.specs.Prelude.{is_some, option_and_then, slice_get, ◌⊎◌}
use Rattle.task_base.specs.Plan.{Plan}
use Rattle.task_base.specs.Runners.{is_parallel, seat_of, seat_of_kind, sequence_of}
use Rattle.task_base.specs.declared.entry.Entry.{Entry}
use Rattle.task_base.specs.declared.script.Runner.{Runner}
use Rattle.task_base.specs.declared.script.RunnerKind.{RunnerKind}
use Rattle.task_base.specs.declared.script.RunnerKind.TheVariants.{Parallel, Sequenced, Single}
use Rattle.task_base.specs.declared.source.TaskSource.{TaskSource}
use Rattle.task_base.specs.declared.source.TaskSource.TheVariants.{Job, Sequence}
use Rattle.task_model.specs.Keys.{Ready}
use Rattle.task_model.specs.Sources.{Candidate, best_of}
use Rattle.sequence_queue.specs.Ranked as queues
use Rattle.pool_core.proofs.Sources.Choosing.{best_offer, best_is_sequence, best_is_job}

-- a sequence's number names the seat of its runner: it is the runner's own, or no runner's where that is parallel
seat_by_sequence : (script : Plan) (runner task : ℕ) → seat_of script (sequence_of script runner task) ≡ seat_of script runner
seat_by_sequence script runner task = by_runner (slice_get script.runners runner) refl
  where
    seat_in : Option Runner → Option ℕ
    seat_in o = option_and_then (λ r. seat_of_kind r.kind) o

    by_kind : (kind : RunnerKind) → seat_of script runner ≡ seat_of_kind kind
        → seat_of script (cond (is_parallel kind) (length script.runners + task) runner) ≡ seat_of_kind kind
    by_kind Parallel is = ap seat_in (slice_get_past script.runners (length script.runners + task) (omega arith))
    by_kind Sequenced is = is
    by_kind (Single seat) is = is

    by_runner : (o : Option Runner) → slice_get script.runners runner ≡ o
        → seat_of script (cond (holds_of (λ r. is_parallel r.kind) o) (length script.runners + task) runner) ≡ seat_in o
    by_runner None is = ap seat_in is
    by_runner (Some r) is = by_kind r.kind (ap seat_in is)

-- the best source is for one seat alone exactly where it is the sequence of a single-thread runner
pub own_is : (script : Plan) (past : List Entry) (pool : Pool) (seat : ℕ) (best : Option (TaskSource × Rank)) → StandsFor script past pool
    → seat ≤ script.workers → IsBestOf (IsOffer pool seat) best → is_single pool.runners best ≡ is_own (best_of script past seat)
own_is script past pool seat best stands known bests =
    rw (stands.runners, best_offer script past pool seat best stands known bests) (by_best (best_of script past seat) refl)
  where
    seated : (c : Candidate) (source : TaskSource) → best_of script past seat ≡ Some c → c.source ≡ source
        → is_single script (Some (source, rank_as c)) ≡ is_some c.seat
    seated c (Sequence s) is named =
        let known = best_is_sequence script past seat s c is named in
        let head : Ready = known.0 in
        ap (λ n. is_some (seat_of script n)) (sym (head_accepted script past s head known.3).1)
        ∙ ap is_some (seat_by_sequence script head.posted.home head.posted.task)
        ∙ ap (λ (d : Candidate). is_some d.seat) known.4
    seated c (Job j) is named = ap (λ (d : Candidate). is_some d.seat) (best_is_job script past seat j c is named).4

    by_best : (o : Option Candidate) → best_of script past seat ≡ o → is_single script (option_map (λ c. (c.source, rank_as c)) o) ≡ is_own o
    by_best None is = refl
    by_best (Some c) is = seated c c.source is refl

-- The best of several queues.

-- the best of an open queue
pub best_in_queue : (pool : Pool) (lane : ℕ) (best : Bool) (result : Option (TaskSource × Rank)) → is_open pool best ≡ true
    → queues.IsBest (queue_of pool.lanes lane best) result → IsBestOf (IsOffered pool lane best) result
best_in_queue pool lane best None opened none = λ source rank offered. none-some rank (sym (none source offered.made) ∙ offered.held)
best_in_queue pool lane best (Some (source, rank)) opened (made, held, first) =
    (record { opened = opened; made = made; held = held }, (λ other r offered. first other r offered.made offered.held))

-- `rank_below` ranks, as `goes_before` does
ranks_below : Ranks rank_below
ranks_below = record {
  itself = λ a. ranks_goes_before.itself (candidate_with a);
  one_way = λ a b. ranks_goes_before.one_way (candidate_with a) (candidate_with b);
  through = λ a b c. ranks_goes_before.through (candidate_with a) (candidate_with b) (candidate_with c);
}
  where
    candidate_with : Rank → Candidate
    candidate_with a = record { source = Job 0; priority = a.priority; inside = a.inside; key = a.key; seat = None }

-- the better of two bests is the best of both
better_is_best : (P Q R : TaskSource → Rank → Type 0) (first second : Option (TaskSource × Rank))
    → ((source : TaskSource) (rank : Rank) → R source rank → P source rank ⊎ Q source rank)
    → ((source : TaskSource) (rank : Rank) → P source rank → R source rank) → ((source : TaskSource) (rank : Rank) → Q source rank → R source rank)
    → IsBestOf P first → IsBestOf Q second → IsBestOf R (better_of first second)
better_is_best P Q R None None parts left right one two =
    λ other r of. elim (parts other r of) [ inl p ↦ one other r p | inr q ↦ two other r q ]
better_is_best P Q R None (Some (source, rank)) parts left right one (offered, first) = (
  right source rank offered,
  (λ other r of. elim (parts other r of) [ inl p ↦ absurd (one other r p) | inr q ↦ first other r q ]),
)
better_is_best P Q R (Some (source, rank)) None parts left right (offered, first) two = (
  left source rank offered,
  (λ other r of. elim (parts other r of) [ inl p ↦ first other r p | inr q ↦ absurd (two other r q) ]),
)
better_is_best P Q R (Some (source, rank)) (Some (another, lesser)) parts left right (offered, first) (also, second) = by_order (rank_below lesser rank) refl
  where
    by_order : (b : Bool) → rank_below lesser rank ≡ b → IsBestOf R (cond b (Some (another, lesser)) (Some (source, rank)))
    by_order true below = (
      right another lesser also,
      (λ other r of. elim (parts other r of) [
        | inl p ↦ ranks_below.through r rank lesser (first other r p) (ranks_below.one_way lesser rank below)
        | inr q ↦ second other r q
      ]),
    )
    by_order false not_below = (
      left source rank offered,
      (λ other r of. elim (parts other r of) [
        | inl p ↦ first other r p
        | inr q ↦ ranks_below.through r lesser rank (second other r q) not_below
      ]),
    )

-- the best that a seat is offered, of the bests of its four queues
pub best_of_queues : (pool : Pool) (seat : ℕ) (a b c d : Option (TaskSource × Rank)) → IsBestOf (IsOffered pool 0 true) a
    → IsBestOf (IsOffered pool seat true) b → IsBestOf (IsOffered pool 0 false) c → IsBestOf (IsOffered pool seat false) d
    → IsBestOf (IsOffer pool seat) (better_of (better_of c d) (better_of a b))
best_of_queues pool seat a b c d is_a is_b is_c is_d = better_is_best (either false) (either true) (IsOffer pool seat) (better_of c d) (better_of a b)
    split (joined false) (joined true)
    (better_is_best (IsOffered pool 0 false) (IsOffered pool seat false) (either false) c d (λ source rank of. of) (λ source rank. inl)
    (λ source rank. inr) is_c is_d)
    (better_is_best (IsOffered pool 0 true) (IsOffered pool seat true) (either true) a b (λ source rank of. of) (λ source rank. inl)
    (λ source rank. inr) is_a is_b)
  where
    either : Bool → TaskSource → Rank → Type 0
    either best source rank = IsOffered pool 0 best source rank ⊎ IsOffered pool seat best source rank

    joined : (best : Bool) (source : TaskSource) (rank : Rank) → either best source rank → IsOffer pool seat source rank
    joined best source rank (inl shared) = (0, best, inl refl, shared)
    joined best source rank (inr own) = (seat, best, inr refl, own)

    at : (lane : ℕ) (best : Bool) (source : TaskSource) (rank : Rank) → (lane ≡ 0) ⊎ (lane ≡ seat) → IsOffered pool lane best source rank
        → either best source rank
    at lane best source rank (inl shared) of = inl (subst (λ l. IsOffered pool l best source rank) shared of)
    at lane best source rank (inr own) of = inr (subst (λ l. IsOffered pool l best source rank) own of)

    split : (source : TaskSource) (rank : Rank) → IsOffer pool seat source rank → either false source rank ⊎ either true source rank
    split source rank (lane, true, where_it_is, of) = inr (at lane true source rank where_it_is of)
    split source rank (lane, false, where_it_is, of) = inl (at lane false source rank where_it_is of)
