-- The arguments of an event, as JSON data (the key `args` of the Trace Event Format; the keys inside are this project's own).
use Rattle.std.specs.Prelude.{ℕ, List, ◌++◌, Bool, codes, decimal, nat_eq, if◌then◌else◌}
use Rattle.serde_json.specs.Data.{Data, Members, string, number, unsigned, object, member, no_members}
use Rattle.task_base.specs.declared.entry.Kind.{Kind}
use Rattle.task_base.specs.declared.entry.Kind.TheVariants as kinds
use Rattle.task_base.specs.declared.entry.JobReply.{JobReply}
use Rattle.task_base.specs.declared.entry.JobReply.TheVariants as replies
use Rattle.value_words.specs.Words.{priority_word, behaviour_word, policy_word, fence_word, scope_word, vote_word, reply_word}
use Rattle.full_trace.specs.declared.event.What.{What}
use Rattle.full_trace.specs.declared.event.What.TheVariants.{Process, Seat, TaskBegins, MainBegins, TaskEnds, ItemBegins, ItemEnds, ScopeBegins, ScopeEnds}
use Rattle.full_trace.specs.declared.event.What.TheVariants.{Posts, MainPosts, FlowsFrom, FlowsTo, Happens, Work}

-- a number as a member, before others
abbrev pub of_number : List ℕ → ℕ → Members → Members
of_number key n rest = member key (number (unsigned n)) rest

-- a text as a member, before others
abbrev pub of_word : List ℕ → List ℕ → Members → Members
of_word key word rest = member key (string word) rest

-- what a viewer shows as the name of the seat's thread
abbrev pub seat_name : ℕ → List ℕ
seat_name seat = if nat_eq seat 0 then codes "driver" else codes "worker " ++ decimal seat

-- what a task of the pool begins with: its runner, the words of its priority and behaviour, and what it finds
abbrev pub task_data : ℕ → List ℕ → List ℕ → ℕ → Data
task_data runner priority behaviour found = object (of_number (codes "runner") runner (of_word (codes "priority") priority
    (of_word (codes "behaviour") behaviour (of_number (codes "found") found no_members))))

-- what an item of a job begins with: the number of its seat inside the job, and the words of the job's priority and behaviour
abbrev pub item_data : ℕ → List ℕ → List ℕ → Data
item_data id priority behaviour =
    object (of_number (codes "id") id (of_word (codes "priority") priority (of_word (codes "behaviour") behaviour no_members)))

-- what a task is posted with, to a runner or a main queue
abbrev pub post_data : List ℕ → ℕ → ℕ → Bool → Data
post_data home n delay ok =
    object (of_number home n (of_number (codes "delay") delay (of_word (codes "reply") (reply_word ok) no_members)))

-- a vote on a main queue
abbrev pub vote_data : ℕ → ℕ → Bool → Data
vote_data queue voter on =
    object (of_number (codes "queue") queue (of_number (codes "voter") voter (of_word (codes "vote") (vote_word on) no_members)))

-- how a job that is joined has ended, in a word
abbrev pub ending_word : JobReply → List ℕ
ending_word replies.Refused = codes "refused"
ending_word (replies.Finished sum) = codes "done"
ending_word replies.Cancelled = codes "cancelled"
ending_word replies.Stopped = codes "stopped"

-- the arguments of a mark: those of its entry
abbrev pub mark_data : Kind → Data
mark_data (kinds.Tick now) = object (of_number (codes "moment") now no_members)
mark_data (kinds.Policy policy) = object (of_word (codes "policy") (policy_word policy) no_members)
mark_data (kinds.Reprio runner priority) = object (of_number (codes "runner") runner (of_word (codes "priority") (priority_word priority) no_members))
mark_data (kinds.Fence queue at) = object (of_number (codes "queue") queue (of_word (codes "at") (fence_word at) no_members))
mark_data (kinds.Unfence queue) = object (of_number (codes "queue") queue no_members)
mark_data (kinds.Close queue) = object (of_number (codes "queue") queue no_members)
mark_data (kinds.Vote queue voter on) = vote_data queue voter on
mark_data (kinds.Rank queue class) = object (of_number (codes "queue") queue (of_number (codes "class") class no_members))
mark_data (kinds.JobPost job ok) = object (of_number (codes "job") job (of_word (codes "reply") (reply_word ok) no_members))
mark_data (kinds.JobCancel job) = object (of_number (codes "job") job no_members)
mark_data (kinds.Cancelled job) = object (of_number (codes "job") job no_members)
mark_data (kinds.Joined job (replies.Finished sum)) = object (of_number (codes "job") job (of_number (codes "sum") sum no_members))
mark_data (kinds.Joined job reply) = object (of_number (codes "job") job (of_word (codes "reply") (ending_word reply) no_members))
mark_data kind = object no_members

-- the arguments of an event of the seat
abbrev pub args_data : ℕ → What → Data
args_data seat Process = object (of_word (codes "name") (codes "taskenv") no_members)
args_data seat Seat = object (of_word (codes "name") (seat_name seat) no_members)
args_data seat (TaskBegins task runner priority behaviour found) = task_data runner (priority_word priority) (behaviour_word behaviour) found
args_data seat (MainBegins task queue found) = object (of_number (codes "queue") queue (of_number (codes "found") found no_members))
args_data seat (TaskEnds task left) = object (of_number (codes "left") left no_members)
args_data seat (ItemBegins job item id priority behaviour) = item_data id (priority_word priority) (behaviour_word behaviour)
args_data seat (ItemEnds job item value) = object (of_number (codes "value") value no_members)
args_data seat (ScopeBegins scope) = object (of_word (codes "scope") (scope_word scope) no_members)
args_data seat ScopeEnds = object no_members
args_data seat (Posts task runner delay ok) = post_data (codes "runner") runner delay ok
args_data seat (MainPosts task queue delay ok) = post_data (codes "queue") queue delay ok
args_data seat (FlowsFrom task) = object no_members
args_data seat (FlowsTo task) = object no_members
args_data seat (Happens kind) = mark_data kind
args_data seat (Work running waiting) = object (of_number (codes "running") running (of_number (codes "waiting") waiting no_members))
