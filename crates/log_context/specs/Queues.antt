-- What is said of the main queue of an entry.
use Rattle.std.specs.Prelude.{ℕ, ◌==◌, Bool, true, false, List, Option, Some, None, option_and_then}
use Rattle.list_laws.specs.Lists.{holds_of, keep}
use Rattle.task_base.specs.declared.entry.Entry.{Entry}
use Rattle.task_base.specs.declared.entry.Kind.{Kind}
use Rattle.task_base.specs.declared.entry.Kind.TheVariants as kinds
use Rattle.log_context.specs.Seen.{last_marked, stands_as, tells}
use Rattle.log_context.specs.declared.fact.Fact.{Fact}
use Rattle.log_context.specs.declared.fact.Role.TheVariants as roles
use Rattle.log_context.specs.declared.mark.Mark.TheVariants as marks
use Rattle.log_context.specs.declared.seen.Seen.{Seen}

-- the main queue that the entry posts to or takes from
abbrev pub queue_of : Kind → Option ℕ
queue_of (kinds.Main task queue delay ok) = Some queue
queue_of (kinds.MainTake task queue found) = Some queue
queue_of kind = None

-- where the entry's main queue was closed
abbrev pub closed : List Entry → Kind → Option Fact
closed past kind = option_and_then (λ q. tells roles.Closed (marks.Close q) past) (queue_of kind)

-- the entry sets a fence
abbrev pub is_set : Kind → Bool
is_set (kinds.Fence queue at) = true
is_set kind = false

-- where the fence was set that the main queue has from which the entry takes
abbrev pub fence : List Entry → Kind → Option Fact
fence past (kinds.MainTake task queue found) =
    stands_as roles.Fence (keep (λ s. is_set s.entry.kind) (last_marked (marks.Fence queue) past))
fence past kind = None

-- the voter that votes
abbrev pub voter_of : Kind → Option ℕ
voter_of (kinds.Vote queue voter on) = Some voter
voter_of kind = None

-- the voter of this vote has not voted since
abbrev pub stays_off : List Entry → ℕ → Seen → Bool
stays_off past q seen = holds_of (λ v. holds_of (λ last. last.place == seen.place) (last_marked (marks.Vote q v) past)) (voter_of seen.entry.kind)

-- where a voter of the main queue from which the entry takes was switched off last, where it is still off
abbrev pub voted_off : List Entry → Kind → Option Fact
voted_off past (kinds.MainTake task queue found) = stands_as roles.Off (keep (stays_off past queue) (last_marked (marks.Off queue) past))
voted_off past kind = None
