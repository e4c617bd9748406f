-- Which tasks form one sequence, and which of them may be taken next.
use Rattle.std.specs.Prelude.{ℕ, ◌==◌, Bool, not, ◌&&◌, List, filter, Option}
use Rattle.task_base.specs.Plan.{Plan}
use Rattle.task_base.specs.declared.entry.Entry.{Entry}
use Rattle.list_laws.specs.Lists.{least}
use Rattle.task_model.specs.Posts.{Posted, is_taken}
use Rattle.task_model.specs.Keys.{Ready, ready}
use Rattle.task_base.specs.Keys.{key_below}
use Rattle.task_model.specs.Refusal.{is_forbidden}
use Rattle.task_base.specs.Runners.{sequence_of}

-- the accepted task is of this sequence
abbrev pub is_of : Plan → ℕ → Posted → Bool
is_of script s p = sequence_of script p.home p.task == s

-- the accepted task has not been taken, and the phase does not forbid it to start
abbrev pub may_start : Plan → List Entry → Posted → Bool
may_start script past p = not (is_taken past p.task) && not (is_forbidden script past p)

-- the accepted tasks of a sequence that have a key, have not been taken, and may start in the phase
unfoldable pub eligible : Plan → List Entry → ℕ → List Ready
eligible script past s = filter (λ r. is_of script s r.posted && may_start script past r.posted) (ready past)

-- the head of a sequence: the eligible task of least key (`thread_pool.h`: a sequence's tasks run in order)
unfoldable pub head_of : Plan → List Entry → ℕ → Option Ready
head_of script past s = least (λ a b. key_below a.key b.key) (eligible script past s)
