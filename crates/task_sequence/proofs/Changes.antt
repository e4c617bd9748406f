-- What becomes of the lists where one node is put at the end of a list, and where the first node of a list is removed.
-- Cited by `append`, `take_first`.
use Rattle.std.proofs.Common.{◌≡◌, ◌≢◌, ℕ, ◌+◌, ◌-◌, ◌<◌, List, [], ◌∷◌, ◌++◌, drop, refl, sym, ap, ◌∙◌, subst, Option, Some, None, arith, length-append}
use Rattle.std.specs.Prelude.{unwrap_or}
use Rattle.task_sequence.specs.Sequences.{Waiting}
use Rattle.task_sequence.specs.Links.{node_at, node_of, waiting_of, tasks_of, Linked, Has, IsLinked, Apart, Keeps, KeepsOthers}
use Rattle.task_sequence.specs.declared.links.Node.{Node}
use Rattle.task_sequence.specs.declared.links.Ends.{Ends}
use Rattle.task_sequence.proofs.LinkedNodes.{KeptBut, Kept, Linked-last, Linked-kept, Linked-kept_but, Has-last, tasks_of-has, IsLinked-has, next_is}

-- ---- lists that were not changed

keeps_by : (old new : List (Option Node)) (other after : Ends) → Has new other (tasks_of old other) → Apart other after → Keeps old new after other
keeps_by old new other after has apart = record {
  linked = IsLinked-has new other (tasks_of old other) has;
  same = tasks_of-has new other (tasks_of old other) has;
  apart = apart;
}

Has-kept : (old new : List (Option Node)) → Kept old new → (ends : Ends) (ws : List Waiting) → Has old ends ws → Has new ends ws
Has-kept old new kept ends [] h = h
Has-kept old new kept ends (w ∷ ws) h = (h.0, Linked-kept old new kept w ws ends.first ends.last h.1)

Has-kept_but : (old new : List (Option Node)) (key : ℕ) (u : Waiting) (us : List Waiting) (end : ℕ) → Linked old u us key end → KeptBut old new key
    → (ends : Ends) (ws : List Waiting) → (0 < ends.count → ends.last ≢ end) → Has old ends ws → Has new ends ws
Has-kept_but old new key u us end from kept ends [] apart h = h
Has-kept_but old new key u us end from kept ends (w ∷ ws) apart h =
    (h.0, Linked-kept_but old new key u us end from kept w ws ends.first ends.last (λ e. absurd (apart (omega (arith, h.0)) e)) h.1)

-- ---- a node at the end

-- a node with nothing behind it was put under a vacant key, and the last one before leads to it
record Appends (old new : List (Option Node)) (last key : ℕ) (v : Waiting) : Type 0 where
  pub vacant : node_at old key ≡ None
  pub placed : node_at new key ≡ Some (node_of v None)
  pub leads : (u : Waiting) → node_at old last ≡ Some (node_of u None) → node_at new last ≡ Some (node_of u (Some key))
  pub kept : KeptBut old new last

-- each node is still there where only a vacant key got one
pub kept_by : (old new : List (Option Node)) (key : ℕ) → node_at old key ≡ None
    → ((other : ℕ) → other ≢ key → node_at new other ≡ node_at old other) → Kept old new
kept_by old new key vacant others other node is =
    others other (λ same. absurd (let e : None ≡ Some node = sym vacant ∙ ap (node_at old) (sym same) ∙ is in cc)) ∙ is

-- a node was put under a vacant key, and then the last one was led to it
appends : (old mid new : List (Option Node)) (last key : ℕ) (v : Waiting) (u : Waiting) → node_at old last ≡ Some (node_of u None)
    → node_at old key ≡ None → node_at mid key ≡ Some (node_of v None)
    → ((other : ℕ) → other ≢ key → node_at mid other ≡ node_at old other)
    → ((node : Node) → node_at mid last ≡ Some node → node_at new last ≡ Some (record node { next = Some key }))
    → ((other : ℕ) → other ≢ last → node_at new other ≡ node_at mid other)
    → Appends old new last key v
appends old mid new last key v u there vacant placed others leads others_too =
    let kept = kept_by old mid key vacant others in
    let ne : key ≢ last = λ same. absurd (let e : None ≡ Some (node_of u None) = sym vacant ∙ ap (node_at old) same ∙ there in cc) in
    record {
      vacant = vacant;
      placed = others_too key ne ∙ placed;
      leads = λ w is. leads (node_of w None) (kept last _ is);
      kept = λ other node ne is. others_too other ne ∙ kept other node is;
    }

Linked-append : (old new : List (Option Node)) (last key : ℕ) (v : Waiting) → Appends old new last key v
    → (w : Waiting) (ws : List Waiting) (first : ℕ) → Linked old w ws first last → Linked new w (ws ++ v ∷ []) first key
Linked-append old new last key v change w [] first h =
    (key, ap (node_at new) h.1 ∙ change.leads w (ap (node_at old) (sym h.1) ∙ h.0), (change.placed, refl))
Linked-append old new last key v change w (w' ∷ ws) first h =
    let end = Linked-last old w (w' ∷ ws) first last h in
    let ne : first ≢ last = λ same. absurd (let e = next_is old first (node_of w (Some h.0)) (node_of end.0 None) h.1 (ap (node_at old) same ∙ end.1) in cc) in
    (h.0, change.kept first _ ne h.1, Linked-append old new last key v change w' ws h.0 h.2)

Has-append : (old new : List (Option Node)) (key : ℕ) (v : Waiting) (before : Ends) → Appends old new before.last key v → 0 < before.count
    → (ws : List Waiting) → Has old before ws → Has new (record { first = before.first; last = key; count = before.count + 1 }) (ws ++ v ∷ [])
Has-append old new key v before change some [] h = absurd (omega (arith, h))
Has-append old new key v before change some (w ∷ ws) h =
    (omega (arith, h.0, length-append ws (v ∷ [])), Linked-append old new before.last key v change w ws before.first h.1)

KeepsOthers-append : (old new : List (Option Node)) (key : ℕ) (v : Waiting) (before after : Ends) → Appends old new before.last key v
    → IsLinked old before → 0 < before.count → after.last ≡ key → KeepsOthers old before new after
KeepsOthers-append old new key v before after change linked some last other is apart =
    let end = Has-last old before (tasks_of old before) linked some in
    keeps_by old new other after
    (Has-kept_but old new before.last end.0 [] before.last (end.1, refl) change.kept other (tasks_of old other) (λ p. apart p some) is)
    (λ p q same.
    let there = Has-last old other (tasks_of old other) is p in
    absurd (let e : None ≡ Some (node_of there.0 None) = sym change.vacant ∙ ap (node_at old) (sym (same ∙ last)) ∙ there.1 in cc))

-- the list with the new node, and the others
pub record Appended (old new : List (Option Node)) (before after : Ends) (v : Waiting) : Type 0 where
  pub linked : IsLinked new after
  pub tasks : tasks_of new after ≡ tasks_of old before ++ v ∷ []
  pub others : KeepsOthers old before new after

pub appended : (old mid new : List (Option Node)) (before : Ends) (key : ℕ) (node : Node) → IsLinked old before → 0 < before.count → node.next ≡ None
    → node_at old key ≡ None → node_at mid key ≡ Some node
    → ((other : ℕ) → other ≢ key → node_at mid other ≡ node_at old other)
    → ((from : Node) → node_at mid before.last ≡ Some from → node_at new before.last ≡ Some (record from { next = Some key }))
    → ((other : ℕ) → other ≢ before.last → node_at new other ≡ node_at mid other)
    → Appended old new before (record { first = before.first; last = key; count = before.count + 1 }) (waiting_of node)
appended old mid new before key node linked some last vacant placed others leads others_too =
    let after : Ends = record { first = before.first; last = key; count = before.count + 1 } in
    let end = Has-last old before (tasks_of old before) linked some in
    let put : node_at mid key ≡ Some (node_of (waiting_of node) None) = placed ∙ ap (λ n. Some (node_of (waiting_of node) n)) last in
    let change = appends old mid new before.last key (waiting_of node) end.0 end.1 vacant put others leads others_too in
    let has = Has-append old new key (waiting_of node) before change some (tasks_of old before) linked in
    record {
      linked = IsLinked-has new after (tasks_of old before ++ waiting_of node ∷ []) has;
      tasks = tasks_of-has new after (tasks_of old before ++ waiting_of node ∷ []) has;
      others = KeepsOthers-append old new key (waiting_of node) before after change linked some refl;
    }

-- a list that was empty: no node was changed
pub KeepsOthers-first : (old new : List (Option Node)) (key : ℕ) (before after : Ends) → node_at old key ≡ None → Kept old new
    → after.last ≡ key → KeepsOthers old before new after
KeepsOthers-first old new key before after vacant kept last other is apart =
    keeps_by old new other after
    (Has-kept old new kept other (tasks_of old other) is)
    (λ p q same.
    let there = Has-last old other (tasks_of old other) is p in
    absurd (let e : None ≡ Some (node_of there.0 None) = sym vacant ∙ ap (node_at old) (sym (same ∙ last)) ∙ there.1 in cc))

-- ---- without the first node

pub Has-take : (old new : List (Option Node)) (before : Ends) (node : Node) → node_at old before.first ≡ Some node → KeptBut old new before.first
    → (next : ℕ) → next ≡ unwrap_or node.next 0 → (ws : List Waiting) → Has old before ws
    → Has new (record { first = next; last = before.last; count = before.count - 1 }) (drop 1 ws)
Has-take old new before node is kept next next_gives [] h = omega (arith, h)
Has-take old new before node is kept next next_gives (w ∷ []) h = omega (arith, h.0)
Has-take old new before node is kept next next_gives (w ∷ v ∷ vs) h =
    let leads : node.next ≡ Some h.1.0 = next_is old before.first node (node_of w (Some h.1.0)) is h.1.1 in
    let to : next ≡ h.1.0 = next_gives ∙ ap (λ n. unwrap_or n 0) leads in
    let there = Linked-kept_but old new before.first w (v ∷ vs) before.last h.1 kept v vs h.1.0 before.last (λ _. omega arith) h.1.2 in
    let P : ℕ → Type 0 = λ k. Linked new v vs k before.last in
    (omega (arith, h.0), subst P (sym to) there)

pub KeepsOthers-take : (old new : List (Option Node)) (before after : Ends) → KeptBut old new before.first → (ws : List Waiting)
    → Has old before ws → 0 < before.count → after.last ≡ before.last → KeepsOthers old before new after
KeepsOthers-take old new before after kept [] h some last other is apart = absurd (omega (arith, h))
KeepsOthers-take old new before after kept (w ∷ ws) h some last other is apart =
    keeps_by old new other after
    (Has-kept_but old new before.first w ws before.last h.1 kept other (tasks_of old other) (λ p. apart p some) is)
    (λ p q same. apart p some (same ∙ last))
