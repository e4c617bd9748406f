-- How the lists lie in the slab: each task is a node that has the key of the next one.
use Rattle.std.specs.Prelude.{◌≡◌, ◌≢◌, ℕ, zero, suc, ◌<◌, List, [], ◌∷◌, length, Option, Some, None, slice_index_or, unwrap_or}
use Rattle.task_sequence.specs.Sequences.{Waiting}
use Rattle.task_sequence.specs.declared.links.Node.{Node}
use Rattle.task_sequence.specs.declared.links.Ends.{Ends}

-- the node under a slab's key
abbrev pub node_at : List (Option Node) → ℕ → Option Node
node_at slots key = slice_index_or slots key None

-- what a node says of its task
abbrev pub waiting_of : Node → Waiting
waiting_of node = record { task = node.task; key = node.key; effective = node.effective }

-- the node of a task, before the next one
abbrev pub node_of : Waiting → Option ℕ → Node
node_of w next = record { task = w.task; key = w.key; effective = w.effective; next = next }

-- so many tasks, from the node under a key on
abbrev pub tasks_from : ℕ → List (Option Node) → ℕ → List Waiting
tasks_from zero slots key = []
tasks_from (suc count) slots key = elim (node_at slots key) [
  | None ↦ []
  | Some node ↦ waiting_of node ∷ tasks_from count slots (unwrap_or node.next 0)
]

-- the tasks of a list
abbrev pub tasks_of : List (Option Node) → Ends → List Waiting
tasks_of slots ends = tasks_from ends.count slots ends.first

-- a task and those behind it are linked nodes, from the first key to the last, behind which there is none
abbrev pub Linked : List (Option Node) → Waiting → List Waiting → ℕ → ℕ → Type 0
Linked slots w [] first last = (node_at slots first ≡ Some (node_of w None)) × (first ≡ last)
Linked slots w (v ∷ vs) first last = (next : ℕ) × (node_at slots first ≡ Some (node_of w (Some next))) × Linked slots v vs next last

-- the list has these tasks
abbrev pub Has : List (Option Node) → Ends → List Waiting → Type 0
Has slots ends [] = ends.count ≡ 0
Has slots ends (w ∷ ws) = (ends.count ≡ suc (length ws)) × Linked slots w ws ends.first ends.last

-- the list is linked
abbrev pub IsLinked : List (Option Node) → Ends → Type 0
IsLinked slots ends = Has slots ends (tasks_of slots ends)

-- the two lists, where neither is empty, end at different nodes: so they have no node in common
abbrev pub Apart : Ends → Ends → Type 0
Apart a b = 0 < a.count → 0 < b.count → a.last ≢ b.last

-- a list keeps its tasks, is linked still, and stands apart from the list that was changed
pub record Keeps (old : List (Option Node)) (new : List (Option Node)) (changed other : Ends) : Type 0 where
  pub linked : IsLinked new other
  pub same : tasks_of new other ≡ tasks_of old other
  pub apart : Apart other changed

-- each list that stood apart from the one that was changed is kept
abbrev pub KeepsOthers : List (Option Node) → Ends → List (Option Node) → Ends → Type 0
KeepsOthers old before new after = (other : Ends) → IsLinked old other → Apart other before → Keeps old new after other
