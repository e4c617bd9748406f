-- The queues where one source is given its place: what stays, and what they hold.
-- Cited by `Calls/Kept`, `Calls/Others`, `Calls/Posts`, `Calls/Reprio`, `Jobs/JobQueues`, `Sources/Following`, `Sources/Moves`,
-- `Sources/Places`.
use Rattle.list_laws.specs.Lists.{keep}
use Rattle.pool_core.specs.Queues.{AreRoomy, HoldBy, IsPlaced, belongs, fits, lane_of, no_lane, queue_in, queue_of, rank_as, with_source}
use Rattle.pool_core.specs.declared.lanes.Lane.{Lane}
use Rattle.sequence_queue.specs.Ranked.{IsMadeFor, Ranked, number_of, rank_of, with_rank}
use Rattle.sequence_queue.specs.declared.rank.Rank.{Rank}
use Rattle.std.proofs.Common.{Bool, List, None, Option, Some, ap, arith, cond, false, inl, inr, length, refl, subst, sym, true, ℕ, ◌+◌, ◌<◌, ◌∙◌, ◌≡◌}
use Rattle.std.proofs.lemmas.Bool.{cases_eq, cases_lt, eq-eqb, ne_eqb}
use Rattle.std.proofs.lemmas.List.{get_or-set_other, get_or-set_same, length-set, set_past}
use Rattle.std.specs.Option.{IfSome, option_map}
use Rattle.std.specs.Prelude.{◌⊎◌}
use Rattle.task_base.specs.Plan.{Plan}
use Rattle.task_base.specs.declared.source.TaskSource.{TaskSource}
use Rattle.task_base.specs.declared.source.TaskSource.TheVariants.{Job, Sequence}
use Rattle.task_model.specs.Sources.{Candidate}

-- Sources and their numbers.

pub same_source : (a b : TaskSource) → (a ≡ b) ⊎ (a ≡ b → ⊥)
same_source (Sequence s) (Sequence t) = elim (cases_eq s t) [
  | inl same ↦ inl (ap Sequence same)
  | inr another ↦ inr (λ equal. another cc)
]
same_source (Sequence s) (Job j) = inr (λ equal. absurd cc)
same_source (Job j) (Sequence s) = inr (λ equal. absurd cc)
same_source (Job i) (Job j) = elim (cases_eq i j) [
  | inl same ↦ inl (ap Job same)
  | inr another ↦ inr (λ equal. another cc)
]

-- two sources that a queue is made for have two numbers in it
numbers_apart : (queue : Ranked) (a b : TaskSource) → (b ≡ a → ⊥) → IsMadeFor queue a → IsMadeFor queue b → number_of queue b ≡ number_of queue a → ⊥
numbers_apart queue (Sequence s) (Sequence t) another made its same = another (ap Sequence same)
numbers_apart queue (Sequence s) (Job j) another made its same = omega (arith, same, made)
numbers_apart queue (Job j) (Sequence s) another made its same = omega (arith, same, its)
numbers_apart queue (Job i) (Job j) another made its same = let equal : j ≡ i = omega (arith, same) in another (ap Job equal)

-- a queue has a place for each source that it is made for
has_number : (script : Plan) (lanes : List Lane) (lane : ℕ) (best : Bool) (source : TaskSource) → AreRoomy script lanes → lane < script.workers + 1
    → IsMadeFor (queue_of lanes lane best) source → number_of (queue_of lanes lane best) source < length (queue_of lanes lane best).ranks
has_number script lanes lane best (Sequence s) roomy less made =
    omega (arith, made, roomy.sequences lane best less, roomy.ranks lane best less)
has_number script lanes lane best (Job j) roomy less made =
    omega (arith, made, roomy.sequences lane best less, roomy.jobs lane best less, roomy.ranks lane best less)

-- Lanes in which one source is given its place.

-- both queues of its lane change, and no other does
queue_cases : (lanes : List Lane) (lane : ℕ) (source : TaskSource) (rank : Option Rank) (l : ℕ) (b : Bool) → lane < length lanes
    → ((l ≡ lane) × (queue_of (with_source lanes lane source rank) l b ≡ with_rank (queue_of lanes l b) source (keep (fits b) rank)))
    ⊎ ((lane ≡ l → ⊥) × (queue_of (with_source lanes lane source rank) l b ≡ queue_of lanes l b))
queue_cases lanes lane source rank l b there = elim (cases_eq l lane) [
  | inl same ↦ inl (same, rw (same, get_or-set_same lanes lane changed no_lane there) (by_test b))
  | inr another ↦ inr ((λ same. another (sym same)), ap (queue_in b) (get_or-set_other lanes lane l changed no_lane another))
]
  where
    changed : Lane
    changed = record {
      best_effort = with_rank (queue_of lanes lane true) source (keep (fits true) rank);
      others = with_rank (queue_of lanes lane false) source (keep (fits false) rank);
    }

    by_test : (b : Bool) → queue_in b changed ≡ with_rank (queue_of lanes lane b) source (keep (fits b) rank)
    by_test true = refl
    by_test false = refl

-- each queue is made for the same sources
pub shape_kept : (lanes : List Lane) (lane : ℕ) (source : TaskSource) (rank : Option Rank) (l : ℕ) (b : Bool)
    → ((queue_of (with_source lanes lane source rank) l b).sequences ≡ (queue_of lanes l b).sequences)
    × ((queue_of (with_source lanes lane source rank) l b).jobs ≡ (queue_of lanes l b).jobs)
    × (length (queue_of (with_source lanes lane source rank) l b).ranks ≡ length (queue_of lanes l b).ranks)
shape_kept lanes lane source rank l b = elim (cases_lt lane (length lanes)) [
  | inr past ↦ rw (set_past lanes lane _ past) (refl, refl, refl)
  | inl there ↦ elim (queue_cases lanes lane source rank l b there) [
    | inl own ↦ rw own.1 (refl, refl, length-set (queue_of lanes l b).ranks (number_of (queue_of lanes l b) source) (keep (fits b) rank))
    | inr kept ↦ rw kept.1 (refl, refl, refl)
  ]
]

made_before : (lanes : List Lane) (lane : ℕ) (source other : TaskSource) (rank : Option Rank) (l : ℕ) (b : Bool)
    → IsMadeFor (queue_of (with_source lanes lane source rank) l b) other → IsMadeFor (queue_of lanes l b) other
made_before lanes lane source (Sequence s) rank l b made = subst (λ n. s < n) (shape_kept lanes lane source rank l b).0 made
made_before lanes lane source (Job j) rank l b made = subst (λ n. j < n) (shape_kept lanes lane source rank l b).1 made

-- the room of each queue stays
pub roomy_kept : (script : Plan) (lanes : List Lane) (lane : ℕ) (source : TaskSource) (rank : Option Rank) → AreRoomy script lanes
    → AreRoomy script (with_source lanes lane source rank)
roomy_kept script lanes lane source rank roomy = record {
  all = length-set lanes lane _ ∙ roomy.all;
  sequences = λ l b less. (shape_kept lanes lane source rank l b).0 ∙ roomy.sequences l b less;
  jobs = λ l b less. (shape_kept lanes lane source rank l b).1 ∙ roomy.jobs l b less;
  ranks = λ l b less. (shape_kept lanes lane source rank l b).2 ∙ roomy.ranks l b less;
}

-- The places of the sources.

-- a source that is a candidate of no other lane than this one
abbrev pub IsOfLane : ℕ → Option Candidate → Type 0
IsOfLane lane candidate = IfSome candidate (λ c. lane_of c.seat ≡ lane)

-- has its rank there, and none elsewhere
rank_there : (b : Bool) (candidate : Option Candidate) (lane : ℕ) → IsOfLane lane candidate
    → option_map rank_as (keep (belongs lane b) candidate) ≡ keep (fits b) (option_map rank_as candidate)
rank_there b None lane at = refl
rank_there b (Some c) lane at = rw (eq-eqb (lane_of c.seat) lane at) (by_fits (fits b (rank_as c)))
  where
    by_fits : (own : Bool) → option_map rank_as (cond own (Some c) None) ≡ cond own (Some (rank_as c)) None
    by_fits true = refl
    by_fits false = refl

none_elsewhere : (l : ℕ) (b : Bool) (candidate : Option Candidate) (lane : ℕ) → IsOfLane lane candidate → (lane ≡ l → ⊥)
    → option_map rank_as (keep (belongs l b) candidate) ≡ None
none_elsewhere l b None lane at another = refl
none_elsewhere l b (Some c) lane at another = rw (ne_eqb (lane_of c.seat) l (λ same. another (sym at ∙ same))) refl

-- it is given its place in its lane
pub record IsGiven (script : Plan) (lanes : List Lane) (lane : ℕ) (source : TaskSource) (before now : Option Candidate) (rank : Option Rank) : Type 0 where
  pub there : lane < script.workers + 1
  pub made : (best : Bool) → IsMadeFor (queue_of lanes lane best) source
  pub was : IsOfLane lane before
  pub is : IsOfLane lane now
  pub rank_is : rank ≡ option_map rank_as now

pub place_given : (script : Plan) (lanes : List Lane) (lane : ℕ) (source : TaskSource) (before now : Option Candidate) (rank : Option Rank)
    → IsGiven script lanes lane source before now rank → AreRoomy script lanes → IsPlaced lanes source before
    → IsPlaced (with_source lanes lane source rank) source now
place_given script lanes lane source before now rank given roomy placed = record {
  ranks = λ l b made. elim (queue_cases lanes lane source rank l b (omega (arith, given.there, roomy.all))) [
    | inl own ↦ ap (λ q. rank_of q source) own.1
        ∙ get_or-set_same (queue_of lanes l b).ranks (number_of (queue_of lanes l b) source) (keep (fits b) rank) None
        (has_number script lanes l b source roomy (omega (arith, own.0, given.there)) (made_before lanes lane source source rank l b made))
        ∙ ap (keep (fits b)) given.rank_is ∙ sym (rank_there b now l (rw own.0 given.is))
    | inr kept ↦ ap (λ q. rank_of q source) kept.1 ∙ placed.ranks l b (made_before lanes lane source source rank l b made)
        ∙ none_elsewhere l b before lane given.was kept.0 ∙ sym (none_elsewhere l b now lane given.is kept.0)
  ];
}

-- each other source stays in its place
pub place_beside : (script : Plan) (lanes : List Lane) (lane : ℕ) (source other : TaskSource) (candidate : Option Candidate) (rank : Option Rank)
    → lane < script.workers + 1 → ((best : Bool) → IsMadeFor (queue_of lanes lane best) source) → AreRoomy script lanes → (other ≡ source → ⊥)
    → IsPlaced lanes other candidate → IsPlaced (with_source lanes lane source rank) other candidate
place_beside script lanes lane source other candidate rank there made roomy another placed = record {
  ranks = λ l b its. let before = made_before lanes lane source other rank l b its in
      elim (queue_cases lanes lane source rank l b (omega (arith, there, roomy.all))) [
        | inl own ↦ ap (λ q. rank_of q other) own.1
            ∙ get_or-set_other (queue_of lanes l b).ranks (number_of (queue_of lanes l b) source) (number_of (queue_of lanes l b) other)
            (keep (fits b) rank) None (numbers_apart (queue_of lanes l b) source other another
            (subst (λ x. IsMadeFor (queue_of lanes x b) source) (sym own.0) (made b)) before)
            ∙ placed.ranks l b before
        | inr kept ↦ ap (λ q. rank_of q other) kept.1 ∙ placed.ranks l b before
      ];
}

-- so the queues hold the candidates as they are with this one
pub hold_given : (script : Plan) (before now : TaskSource → Option Candidate) (lanes : List Lane) (lane : ℕ) (source : TaskSource) (rank : Option Rank)
    → IsGiven script lanes lane source (before source) (now source) rank → ((other : TaskSource) → (other ≡ source → ⊥) → now other ≡ before other)
    → HoldBy script before lanes → HoldBy script now (with_source lanes lane source rank)
hold_given script before now lanes lane source rank given others hold = record {
  roomy = roomy_kept script lanes lane source rank hold.roomy;
  places = λ other. elim (same_source other source) [
    | inl same ↦ rw same (place_given script lanes lane source (before source) (now source) rank given hold.roomy (hold.places source))
    | inr another ↦ rw (others other another)
        (place_beside script lanes lane source other (before other) rank given.there given.made hold.roomy another (hold.places other))
  ];
}

-- where the candidates are the same, the queues hold the same
pub hold_same : (script : Plan) (before now : TaskSource → Option Candidate) (lanes : List Lane) → ((source : TaskSource) → now source ≡ before source)
    → HoldBy script before lanes → HoldBy script now lanes
hold_same script before now lanes same hold = record { roomy = hold.roomy; places = λ source. rw (same source) (hold.places source) }
