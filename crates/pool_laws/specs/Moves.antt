-- What an entry moves of the past: one part, by its kind. What is told of the other parts stays.
use Rattle.std.specs.Prelude.{ℕ, ◌==◌, Bool, true, not, ◌&&◌, List}
use Rattle.std.specs.List.{list_all, list_any}
use Rattle.task_base.specs.declared.entry.Kind.{Kind}
use Rattle.task_base.specs.declared.entry.Kind.TheVariants as kinds

-- the parts of the past; a report moves none that a law tells of
pub data Part : Type 0 where
  Posts MainPosts Moment Takes Ends Scopes Policies Priorities Fences Votes Classes Closes MainTakes MainEnds JobPosts Items Cancels Phases Reports : Part

-- by which parts are compared
abbrev pub number : Part → ℕ
number Posts = 0
number MainPosts = 1
number Moment = 2
number Takes = 3
number Ends = 4
number Scopes = 5
number Policies = 6
number Priorities = 7
number Fences = 8
number Votes = 9
number Classes = 10
number Closes = 11
number MainTakes = 12
number MainEnds = 13
number JobPosts = 14
number Items = 15
number Cancels = 16
number Phases = 17
number Reports = 18

-- what an entry of the kind moves
abbrev pub part_of : Kind → Part
part_of (kinds.Post task runner delay ok) = Posts
part_of (kinds.Main task queue delay ok) = MainPosts
part_of (kinds.Tick now) = Moment
part_of (kinds.Take task runner found) = Takes
part_of (kinds.End task left) = Ends
part_of (kinds.Enter task scope) = Scopes
part_of (kinds.Leave task) = Scopes
part_of (kinds.Policy policy) = Policies
part_of (kinds.Reprio runner priority) = Priorities
part_of (kinds.Fence queue at) = Fences
part_of (kinds.Unfence queue) = Fences
part_of (kinds.Vote queue voter on) = Votes
part_of (kinds.Rank queue class) = Classes
part_of (kinds.Close queue) = Closes
part_of (kinds.MainTake task queue found) = MainTakes
part_of (kinds.MainEnd task left) = MainEnds
part_of (kinds.JobPost job ok) = JobPosts
part_of (kinds.JobTake job id item) = Items
part_of (kinds.JobStep job id item value next) = Items
part_of (kinds.JobCancel job) = Cancels
part_of kinds.Shutdown = Phases
part_of kinds.Done = Phases
part_of kinds.MainNone = Reports
part_of (kinds.Cancelled job) = Reports
part_of (kinds.Joined job reply) = Reports
part_of kinds.Idle = Reports

-- it is no refused post of a task, which moves nothing
abbrev pub counts : Kind → Bool
counts (kinds.Post task runner delay ok) = ok
counts (kinds.Main task queue delay ok) = ok
counts kind = true

-- the part is one of these
abbrev pub has : List Part → Part → Bool
has parts part = list_any (λ p. number p == number part) parts

-- an entry of the kind moves one of the parts
abbrev pub moves : List Part → Kind → Bool
moves parts kind = has parts (part_of kind) && counts kind

-- the second list has each part of the first, and none of them
abbrev pub within : List Part → List Part → Bool
within few many = list_all (has many) few

abbrev pub apart : List Part → List Part → Bool
apart these those = list_all (λ p. not (has those p)) these
