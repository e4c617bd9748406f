-- What contracts see of a job's items, and who may work on them.
use Rattle.std.specs.Prelude.{◌≡◌, ℕ, ◌+◌, ◌-◌, ◌%◌, ◌^◌, ◌≤◌, ◌==◌, Bool, not, ◌&&◌, ◌||◌, nat_lt, min, if◌then◌else◌, List, length, slice_get, slice_set, find, Option, Some, None, unwrap_or, is_some}
use Rattle.std.specs.Option.{option_map}
use Rattle.std.specs.List.{range_with_len}
use Rattle.list_laws.specs.Lists.{count}

-- how many items the job has; how many workers may be inside by the job's own word; how many items are claimed, which
-- is the least unclaimed item where there is one; how many are done; the item that the worker inside under each id
-- holds, an id being its place; whether the job is cancelled; and the sum of the values of the done items, modulo 2^64
pub record JobView : Type 0 where
  pub items : ℕ
  pub cap : ℕ
  pub claimed : ℕ
  pub done : ℕ
  pub held : List (Option ℕ)
  pub cancelled : Bool
  pub sum : ℕ

-- the item that the worker inside under the id holds
abbrev pub held_by : JobView → ℕ → Option ℕ
held_by job id = unwrap_or (slice_get job.held id) None

-- how many workers are inside
abbrev pub inside : JobView → ℕ
inside job = count is_some job.held

-- how many items are unclaimed
abbrev pub unclaimed : JobView → ℕ
unclaimed job = job.items - job.claimed

-- an item is unclaimed
abbrev pub has_unclaimed : JobView → Bool
has_unclaimed job = nat_lt job.claimed job.items

-- how many workers may be inside: the least of the job's cap, 32, and the number of items that are not done (this
-- project's own rule)
abbrev pub concurrency : JobView → ℕ
concurrency job = min (min job.cap 32) (job.items - job.done)

-- the job is not cancelled, has an unclaimed item, and has room inside (this project's own rule)
abbrev pub may_enter : JobView → Bool
may_enter job = not job.cancelled && has_unclaimed job && nat_lt (inside job) (concurrency job)

-- nobody inside has this id
abbrev pub is_free_id : JobView → ℕ → Bool
is_free_id job id = not (is_some (held_by job id))

-- the least id that nobody inside has
abbrev pub free_id : JobView → Option ℕ
free_id job = find (is_free_id job) (range_with_len 0 (inside job + 1))

-- what a worker that asks to enter gets: the least free id and the least unclaimed item, where it may enter
abbrev pub entered : JobView → Option (ℕ × ℕ)
entered job = if may_enter job then option_map (λ id. (id, job.claimed)) (free_id job) else None

-- the job where a worker has got this: it is inside under the id, and holds the item
abbrev pub with_entered : JobView → Option (ℕ × ℕ) → JobView
with_entered job None = job
with_entered job (Some got) = record job { claimed = job.claimed + 1; held = slice_set job.held got.0 (Some got.1) }

-- what a worker that has ended its item goes on with: the least unclaimed item, or none where it wants to leave, the job
-- is cancelled, or no item is unclaimed
abbrev pub next_item : JobView → Bool → Option ℕ
next_item job leave = if leave || job.cancelled || not (has_unclaimed job) then None else Some job.claimed

-- the job where the worker inside under the id has ended its item with this value, and goes on with the next one, or
-- has left
abbrev pub with_done : JobView → ℕ → ℕ → Option ℕ → JobView
with_done job id value next = record job {
  claimed = job.claimed + (if is_some next then 1 else 0);
  done = job.done + 1;
  held = slice_set job.held id next;
  sum = (job.sum + value) % 2 ^ 64;
}

-- all items are done
abbrev pub is_finished_job : JobView → Bool
is_finished_job job = job.done == job.items

-- nobody is inside
abbrev pub is_empty : JobView → Bool
is_empty job = inside job == 0

-- the job is over: nobody is inside, and all its items are done or it is cancelled (this project's own rule)
abbrev pub is_over : JobView → Bool
is_over job = is_empty job && (is_finished_job job || job.cancelled)

-- there is a place for each of 32 ids; each claimed item is done or held under exactly one id; no more are claimed than
-- there are, and no more workers are inside than may be
pub record IsConsistent (job : JobView) : Type 0 where
  pub places : length job.held ≡ 32
  pub parted : job.done + inside job ≡ job.claimed
  pub within : job.claimed ≤ job.items
  pub few : inside job ≤ min job.cap 32
