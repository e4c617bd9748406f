-- What the kept counts count.
use Rattle.std.specs.Prelude.{◌≡◌, ℕ, ◌+◌, ◌≤◌, ◌<◌, ◌^◌, List, Option, is_some}
use Rattle.list_laws.specs.Lists.{count, holds_of}
use Rattle.thread_group.specs.declared.work.Work.{Work}
use Rattle.thread_group.specs.declared.counts.Counts.{Counts}
use Rattle.thread_group.specs.Work.{is_best, is_blocked, is_best_blocked, is_waiting}

-- each number is how many of these seats run such work at the moment
pub record AreCounts (threshold now : ℕ) (seats : List (Option Work)) (counts : Counts) : Type 0 where
  pub running : counts.running ≡ count is_some seats
  pub best_running : counts.best_running ≡ count (holds_of is_best) seats
  pub blocked : counts.blocked ≡ count (holds_of (is_blocked threshold now)) seats
  pub best_blocked : counts.best_blocked ≡ count (holds_of (is_best_blocked threshold now)) seats
  pub waiting : counts.waiting ≡ count (holds_of (is_waiting threshold now)) seats

-- what one seat adds is counted
pub record IsWithin (share counts : Counts) : Type 0 where
  pub running : share.running ≤ counts.running
  pub best_running : share.best_running ≤ counts.best_running
  pub blocked : share.blocked ≤ counts.blocked
  pub best_blocked : share.best_blocked ≤ counts.best_blocked
  pub waiting : share.waiting ≤ counts.waiting

-- there is room for what one seat adds
pub record HaveRoom (counts share : Counts) : Type 0 where
  pub running : counts.running + share.running < 2 ^ 32
  pub best_running : counts.best_running + share.best_running < 2 ^ 32
  pub blocked : counts.blocked + share.blocked < 2 ^ 32
  pub best_blocked : counts.best_blocked + share.best_blocked < 2 ^ 32
  pub waiting : counts.waiting + share.waiting < 2 ^ 32

-- the counts where one seat's share changes
pub record AreMoved (old new was is : Counts) : Type 0 where
  pub running : new.running + was.running ≡ old.running + is.running
  pub best_running : new.best_running + was.best_running ≡ old.best_running + is.best_running
  pub blocked : new.blocked + was.blocked ≡ old.blocked + is.blocked
  pub best_blocked : new.best_blocked + was.best_blocked ≡ old.best_blocked + is.best_blocked
  pub waiting : new.waiting + was.waiting ≡ old.waiting + is.waiting
