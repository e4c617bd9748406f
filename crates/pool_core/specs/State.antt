-- How the parts of the pool follow one another: each sequence is in the queue of its runner's lane and present priority, with the
-- rank that its list and its cell give.
use Rattle.std.specs.Prelude.{◌≡◌, ℕ, ◌+◌, ◌-◌, ◌^◌, ◌<◌, ◌==◌, Bool, true, false, nat_lt, if◌then◌else◌, List, ◌∷◌, ◌++◌, [], length, Option, Some, None, All, is_some, unwrap_or, slice_get, slice_index_or, option_and_then}
use Rattle.std.specs.Option.{option_map}
use Rattle.task_base.specs.Plan.{Plan}
use Rattle.task_base.specs.Keys.{key_below}
use Rattle.task_base.specs.declared.entry.Entry.{Entry}
use Rattle.task_base.specs.declared.source.TaskSource.{TaskSource}
use Rattle.task_base.specs.Runners.{seat_of, sequence_of}
use Rattle.task_base.specs.declared.source.Key.{Key}
use Rattle.task_base.specs.declared.source.TaskSource.TheVariants.{Job, Sequence}
use Rattle.task_traits.specs.declared.traits.Priority.{Priority}
use Rattle.task_traits.specs.declared.traits.Priority.TheVariants.{BestEffort}
use Rattle.task_traits.specs.Behaviour.{forbids}
use Rattle.delayed_manager.specs.declared.ripening.Ripening.{Ripening}
use Rattle.task_model.specs.Sources.{Candidate}
use Rattle.pool_laws.specs.Choice.{source_waiting}
use Rattle.task_sequence.specs.Sequences as sequences
use Rattle.task_sequence.specs.Sequences.{Waiting, Held, sequence_at, with_sequence, first_of}
use Rattle.sequence_queue.specs.Ranked.{IsMadeFor}
use Rattle.sequence_queue.specs.declared.rank.Rank.{Rank}
use Rattle.pool_core.specs.TaskLists.{Lists, with_task}
use Rattle.pool_core.specs.Queues.{lane_of, queue_of, with_source}
use Rattle.pool_core.specs.declared.posting.Posting.{Posting}
use Rattle.pool_core.specs.declared.pool.Pool.{Pool}

-- the runner of a sequence: its own number, or for a task of its own the runner that this task was posted to
abbrev pub runner_of : Plan → List (Option Posting) → ℕ → Option ℕ
runner_of table postings s =
    if nat_lt s (length table.runners) then Some s
    else option_map (λ p. p.runner) (unwrap_or (slice_get postings (s - length table.runners)) None)

-- the lane of a runner's sequences
abbrev pub lane_by : Plan → ℕ → ℕ
lane_by table runner = lane_of (seat_of table runner)

-- the present priority of a runner
abbrev pub present_priority : List Priority → ℕ → Priority
present_priority priorities runner = slice_index_or priorities runner BestEffort

-- the rank of a sequence of this priority, where it doesn't run and has a head
abbrev pub rank_of_head : Priority → sequences.Sequence → Option Rank
rank_of_head priority sequence =
    if is_some sequence.cell
    then option_map (λ first. record { priority = priority; inside = 0; key = first.1 }) (first_of sequence.tasks)
    else None

-- the rank of a sequence of the runner
abbrev pub rank_by : List Priority → ℕ → sequences.Sequence → Option Rank
rank_by priorities runner sequence = rank_of_head (present_priority priorities runner) sequence

-- a sequence of the runner that waits with this rank
abbrev pub candidate_by : Plan → ℕ → ℕ → Rank → Candidate
candidate_by table s runner rank =
    record { source = Sequence s; priority = rank.priority; inside = rank.inside; key = rank.key; seat = seat_of table runner }

-- a sequence as its runner, with its present priority, its list and its cell have it
abbrev pub sequence_standing : Plan → List Priority → List (Option Posting) → Held → ℕ → Option Candidate
sequence_standing table priorities postings held s =
    option_and_then (λ r. option_map (candidate_by table s r) (rank_by priorities r (sequence_at held s))) (runner_of table postings s)

-- each sequence so, and each job as it waits in the past
abbrev pub standing : Plan → List Entry → List Priority → List (Option Posting) → Held → TaskSource → Option Candidate
standing script past priorities postings held (Sequence s) = sequence_standing script priorities postings held s
standing script past priorities postings held (Job j) = source_waiting script past (Job j)

-- the queues of the runner's lane have room for the sequence
pub record HasPlace (pool : Pool) (s runner : ℕ) : Type 0 where
  pub declared : runner < length pool.runners.runners
  pub ranked : runner < length pool.priorities.items
  pub there : s < length pool.sequences.sequences
  pub lane_there : lane_by pool.runners runner < length pool.lanes
  pub made : (best : Bool) → IsMadeFor (queue_of pool.lanes (lane_by pool.runners runner) best) (Sequence s)

-- the pool that holds a sequence of the runner with this rank, or doesn't hold it
abbrev pub given_rank : Pool → ℕ → ℕ → Option Rank → Pool
given_rank pool s runner rank = record pool { lanes = with_source pool.lanes (lane_by pool.runners runner) (Sequence s) rank }

-- the pool with the rank of a sequence as its list and its cell give it
abbrev pub refreshed : Pool → ℕ → ℕ → Pool
refreshed pool s runner = given_rank pool s runner (rank_by pool.priorities.items runner (sequence_at pool.sequences s))

-- the sequences with one more task at the end of a list
abbrev pub pushed : Held → ℕ → Waiting → Held
pushed held s waiting = record held {
  sequences = with_sequence held s (record (sequence_at held s) { tasks = (sequence_at held s).tasks ++ waiting ∷ [] });
  room = held.room - 1;
}

-- the sequence of a task that was posted in this way
abbrev pub sequence_by : Pool → ℕ → Posting → ℕ
sequence_by pool task posting = sequence_of pool.runners posting.runner task

-- the lists with a task that has come to its sequence, unless that is its runner's own
abbrev pub listed_with : Pool → ℕ → Posting → Lists
listed_with pool task posting =
    if sequence_by pool task posting == posting.runner then pool.lists else with_task pool.lists posting.runner task

-- the task may go to the end of its sequence with this key
pub record CanArrive (pool : Pool) (task : ℕ) (posting : Posting) (key : Key) : Type 0 where
  pub fits : length pool.runners.runners + task < 2 ^ 32
  pub place : HasPlace pool (sequence_by pool task posting) posting.runner
  pub room : 0 < pool.sequences.room
  pub line : posting.runner < length pool.lists.lines
  pub known : task < length pool.lists.after
  pub above : All (λ w. key_below w.key key ≡ true) (sequence_at pool.sequences (sequence_by pool task posting)).tasks

-- the pool with the task at the end of its sequence
abbrev pub arrived : Pool → ℕ → Posting → Key → Pool
arrived pool task posting key = refreshed
    (record pool { sequences = pushed pool.sequences (sequence_by pool task posting) (record { task = task; key = key; effective = posting.effective }); lists = listed_with pool task posting })
    (sequence_by pool task posting) posting.runner

-- the phase forbids the task to start
abbrev pub is_barred : Pool → Posting → Bool
is_barred pool posting = forbids pool.tracker.phase posting.effective

-- the key of a delayed task at the tick of this place
abbrev pub ripe_key : ℕ → Ripening → Key
ripe_key place ripe = record { place = place; ripe = ripe.ripe; post = ripe.post }

-- the delayed task was posted in this way, and may go to the end of its sequence where it may start
pub record CanRipen (pool : Pool) (place : ℕ) (ripe : Ripening) (posting : Posting) : Type 0 where
  pub known : slice_get pool.postings.items ripe.task ≡ Some (Some posting)
  pub arrives : is_barred pool posting ≡ false → CanArrive pool ripe.task posting (ripe_key place ripe)

-- the pool with the delayed task at the end of its sequence, if it may start
abbrev pub ripened : Pool → ℕ → Ripening → Posting → Pool
ripened pool place ripe posting = if is_barred pool posting then pool else arrived pool ripe.task posting (ripe_key place ripe)
