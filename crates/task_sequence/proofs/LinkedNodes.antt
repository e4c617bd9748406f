-- Linked nodes: a list is what its nodes say, lists that end apart have no node in common, and a list is kept where none
-- of its nodes is changed.
-- Cited by `append`, `take_first`, `Changes`.
use Rattle.std.proofs.Common.{◌≡◌, ◌≢◌, ℕ, suc, ◌<◌, List, [], ◌∷◌, length, refl, sym, ap, ◌∙◌, subst, Option, Some, None, arith}
use Rattle.std.specs.Prelude.{unwrap_or}
use Rattle.list_laws.proofs.Values.{some-injective}
use Rattle.task_sequence.specs.Sequences.{Waiting}
use Rattle.task_sequence.specs.Links.{node_at, node_of, waiting_of, tasks_from, tasks_of, Linked, Has, IsLinked}
use Rattle.task_sequence.specs.declared.links.Node.{Node}
use Rattle.task_sequence.specs.declared.links.Ends.{Ends}

-- ---- what the nodes say

-- what the walk gives from a node on
tasks_from_node : (count : ℕ) (slots : List (Option Node)) (key : ℕ) (node : Node) → node_at slots key ≡ Some node
    → tasks_from (suc count) slots key ≡ waiting_of node ∷ tasks_from count slots (unwrap_or node.next 0)
tasks_from_node count slots key node is = rw (is, tasks_from) refl

pub tasks_from-linked : (slots : List (Option Node)) (w : Waiting) (ws : List Waiting) (first last : ℕ) → Linked slots w ws first last
    → tasks_from (suc (length ws)) slots first ≡ w ∷ ws
tasks_from-linked slots w [] first last h = tasks_from_node 0 slots first (node_of w None) h.0
tasks_from-linked slots w (v ∷ vs) first last h =
    tasks_from_node (suc (length vs)) slots first (node_of w (Some h.0)) h.1
    ∙ ap (λ ts. w ∷ ts) (tasks_from-linked slots v vs h.0 last h.2)

pub tasks_of-has : (slots : List (Option Node)) (ends : Ends) (ws : List Waiting) → Has slots ends ws → tasks_of slots ends ≡ ws
tasks_of-has slots ends [] h = ap (λ n. tasks_from n slots ends.first) h
tasks_of-has slots ends (w ∷ ws) h = ap (λ n. tasks_from n slots ends.first) h.0 ∙ tasks_from-linked slots w ws ends.first ends.last h.1

pub IsLinked-has : (slots : List (Option Node)) (ends : Ends) (ws : List Waiting) → Has slots ends ws → IsLinked slots ends
IsLinked-has slots ends ws h = subst (Has slots ends) (sym (tasks_of-has slots ends ws h)) h

-- ---- one end

-- the node at the last key leads nowhere
pub Linked-last : (slots : List (Option Node)) (w : Waiting) (ws : List Waiting) (first last : ℕ) → Linked slots w ws first last
    → (u : Waiting) × (node_at slots last ≡ Some (node_of u None))
Linked-last slots w [] first last h = (w, ap (node_at slots) (sym h.1) ∙ h.0)
Linked-last slots w (v ∷ vs) first last h = Linked-last slots v vs h.0 last h.2

-- from one key the nodes lead to one end, by one number of steps
pub record SameEnd (ws vs : List Waiting) (last end : ℕ) : Type 0 where
  pub same_last : last ≡ end
  pub same_length : length ws ≡ length vs

pub next_is : (slots : List (Option Node)) (key : ℕ) (a b : Node) → node_at slots key ≡ Some a → node_at slots key ≡ Some b → a.next ≡ b.next
next_is slots key a b is also = ap (λ node. node.next) (some-injective (sym is ∙ also))

pub Linked-same_end : (slots : List (Option Node)) (w : Waiting) (ws : List Waiting) (v : Waiting) (vs : List Waiting) (key last end : ℕ)
    → Linked slots w ws key last → Linked slots v vs key end → SameEnd ws vs last end
Linked-same_end slots w [] v [] key last end h g = record { same_last = sym h.1 ∙ g.1; same_length = refl }
Linked-same_end slots w [] v (v' ∷ vs) key last end h g = absurd (let e = next_is slots key (node_of w None) (node_of v (Some g.0)) h.0 g.1 in cc)
Linked-same_end slots w (w' ∷ ws) v [] key last end h g = absurd (let e = next_is slots key (node_of w (Some h.0)) (node_of v None) h.1 g.0 in cc)
Linked-same_end slots w (w' ∷ ws) v (v' ∷ vs) key last end h g =
    let e : h.0 ≡ g.0 = some-injective (next_is slots key (node_of w (Some h.0)) (node_of v (Some g.0)) h.1 g.1) in
    let P : ℕ → Type 0 = λ k. Linked slots w' ws k last in
    let s = Linked-same_end slots w' ws v' vs g.0 last end (subst P e h.2) g.2 in
    record { same_last = s.same_last; same_length = ap suc s.same_length }

-- ---- what is kept

-- the nodes but the one under a key are still there
abbrev pub KeptBut : List (Option Node) → List (Option Node) → ℕ → Type 0
KeptBut old new key = (other : ℕ) (node : Node) → other ≢ key → node_at old other ≡ Some node → node_at new other ≡ Some node

-- all nodes are still there
abbrev pub Kept : List (Option Node) → List (Option Node) → Type 0
Kept old new = (other : ℕ) (node : Node) → node_at old other ≡ Some node → node_at new other ≡ Some node

pub Linked-kept : (old new : List (Option Node)) → Kept old new
    → (w : Waiting) (ws : List Waiting) (first last : ℕ) → Linked old w ws first last → Linked new w ws first last
Linked-kept old new kept w [] first last h = (kept first _ h.0, h.1)
Linked-kept old new kept w (v ∷ vs) first last h = (h.0, kept first _ h.1, Linked-kept old new kept v vs h.0 last h.2)

-- a list that is not empty has a node at its end
pub Has-last : (slots : List (Option Node)) (ends : Ends) (ws : List Waiting) → Has slots ends ws → 0 < ends.count
    → (u : Waiting) × (node_at slots ends.last ≡ Some (node_of u None))
Has-last slots ends [] h some = absurd (omega (arith, h))
Has-last slots ends (w ∷ ws) h some = Linked-last slots w ws ends.first ends.last h.1

-- nodes that lead to another end than the changed node, or are fewer than those from it on, are not changed
pub Linked-kept_but : (old new : List (Option Node)) (key : ℕ) (u : Waiting) (us : List Waiting) (end : ℕ) → Linked old u us key end → KeptBut old new key
    → (w : Waiting) (ws : List Waiting) (first last : ℕ) → (last ≡ end → length ws < length us)
    → Linked old w ws first last → Linked new w ws first last
Linked-kept_but old new key u us end from kept w ws first last less h = go ws w first less h
  where
    other : (ws : List Waiting) (w : Waiting) (first : ℕ) → (last ≡ end → length ws < length us) → Linked old w ws first last → first ≢ key
    other ws w first less h same =
        let P : ℕ → Type 0 = λ k. Linked old w ws k last in
        let s = Linked-same_end old w ws u us key last end (subst P same h) from in
        omega (arith, less s.same_last, s.same_length)

    go : (ws : List Waiting) (w : Waiting) (first : ℕ) → (last ≡ end → length ws < length us) → Linked old w ws first last → Linked new w ws first last
    go [] w first less h = (kept first _ (other [] w first less h) h.0, h.1)
    go (v ∷ vs) w first less h =
        (h.0, kept first _ (other (v ∷ vs) w first less h) h.1, go vs v h.0 (λ e. omega (arith, less e)) h.2)
