-- Which queue has the delayed task that ripens first.
-- Cited by `Ripens`, `Ticks`.
use Rattle.delayed_manager.specs.Delayed.{ripens_before}
use Rattle.delayed_manager.specs.declared.ripening.Ripening.{Ripening}
use Rattle.list_laws.proofs.Elements.{AllByRecursion-filter, AllByRecursion-mapped, slice_get_all}
use Rattle.list_laws.proofs.Values.{eqb-same, some-injective}
use Rattle.list_laws.specs.Sorts.{Rises}
use Rattle.sequence_manager.specs.Queues.{IsTable, queue_of, ripening_of}
use Rattle.sequence_manager.specs.Ripening.{sooner, soonest_from}
use Rattle.sequence_manager.specs.declared.task_queue.TaskQueue.{TaskQueue}
use Rattle.std.proofs.Common.{List, None, Option, Some, [], ap, arith, cond, false, length, map, refl, subst, suc, sym, true, zero, ℕ, ◌+◌, ◌<◌, ◌∙◌, ◌∷◌, ◌≡◌}
use Rattle.std.proofs.lemmas.Bool.{ne_eqb}
use Rattle.std.proofs.lemmas.Option.{slice_get_within}
use Rattle.std.specs.Option.{IfSome}
use Rattle.std.specs.Prelude.{filter, slice_get, ◌==◌}
use Rattle.task_base.specs.Plan.{Plan}
use Rattle.task_base.specs.declared.entry.Entry.{Entry}
use Rattle.delayed_manager.proofs.Heap.{ranks_ripening}
use Rattle.queue_laws.specs.Orders.{Ordered}
use Rattle.task_model.specs.Posts.{Posted}
use Rattle.task_model.specs.Posts as posts

-- Of some queues.

-- the queue's first delayed task
abbrev first_of : TaskQueue → Option Ripening
first_of queue = slice_get queue.delayed.held 0

-- the queue with none of its own that goes before keeps what is known
passed : (r : Ripening) (h k : ℕ) (other : Option Ripening) → IfSome other (λ x. ripens_before r x ≡ true)
    → sooner (Some (r, h)) other k ≡ Some (r, h)
passed r h k None behind = refl
passed r h k (Some x) behind = rw (ranks_ripening.one_way r x behind) refl

-- the one that ripens before all known ones
found : (r : Ripening) (k : ℕ) (first : Option (Ripening × ℕ)) → IfSome first (λ f. ripens_before r f.0 ≡ true) → sooner first (Some r) k ≡ Some (r, k)
found r k None behind = refl
found r k (Some f) behind = rw behind refl

-- what is known goes on being behind
behind_still : (r : Ripening) (k : ℕ) (first : Option (Ripening × ℕ)) (other : Option Ripening) → IfSome first (λ f. ripens_before r f.0 ≡ true)
    → IfSome other (λ x. ripens_before r x ≡ true) → IfSome (sooner first other k) (λ f. ripens_before r f.0 ≡ true)
behind_still r k None None of_first of_other = tt
behind_still r k None (Some x) of_first of_other = of_other
behind_still r k (Some f) None of_first of_other = of_first
behind_still r k (Some f) (Some x) of_first of_other =
    elim (ripens_before x f.0) as (λ b. ripens_before r (cond b (x, k) f).0 ≡ true) [
      | true ↦ of_other
      | false ↦ of_first
    ]

-- no queue has a task that goes before
soonest_stays : (r : Ripening) (h k : ℕ) (queues : List TaskQueue)
    → ((i : ℕ) (queue : TaskQueue) → slice_get queues i ≡ Some queue → IfSome (first_of queue) (λ x. ripens_before r x ≡ true))
    → soonest_from (Some (r, h)) k queues ≡ Some (r, h)
soonest_stays r h k [] others = refl
soonest_stays r h k (queue ∷ queues) others =
    ap (λ first. soonest_from first (k + 1) queues) (passed r h k (first_of queue) (others zero queue refl))
    ∙ soonest_stays r h (k + 1) queues (λ i q is. others (suc i) q is)

-- the queue at a place has the task that goes before those of all other queues
soonest_at : (r : Ripening) (first : Option (Ripening × ℕ)) (k m h : ℕ) (queues : List TaskQueue) → h ≡ k + m
    → IfSome first (λ f. ripens_before r f.0 ≡ true)
    → ((queue : TaskQueue) → slice_get queues m ≡ Some queue → first_of queue ≡ Some r)
    → ((i : ℕ) (queue : TaskQueue) → (i ≡ m → ⊥) → slice_get queues i ≡ Some queue → IfSome (first_of queue) (λ x. ripens_before r x ≡ true))
    → m < length queues → soonest_from first k queues ≡ Some (r, h)
soonest_at r first k m h [] place behind here others within = absurd (omega (arith, within))
soonest_at r first k zero h (queue ∷ queues) place behind here others within =
    ap (λ o. soonest_from (sooner first o k) (k + 1) queues) (here queue refl)
    ∙ ap (λ o. soonest_from o (k + 1) queues) (found r k first behind)
    ∙ soonest_stays r k (k + 1) queues (λ i q is. others (suc i) q (λ same. omega (arith, same)) is)
    ∙ ap (λ n. Some (r, n)) (omega (arith, place))
soonest_at r first k (suc m) h (queue ∷ queues) place behind here others within =
    soonest_at r (sooner first (first_of queue) k) (k + 1) m h queues (omega (arith, place))
    (behind_still r k first (first_of queue) behind (others zero queue (λ same. omega (arith, same)) refl)) here
    (λ i q other is. others (suc i) q (λ same. other (omega (arith, same))) is) (omega (arith, within))

-- no queue has a delayed task
soonest_none : (k : ℕ) (queues : List TaskQueue) → ((i : ℕ) (queue : TaskQueue) → slice_get queues i ≡ Some queue → first_of queue ≡ None)
    → soonest_from None k queues ≡ None
soonest_none k [] none = refl
soonest_none k (queue ∷ queues) none = ap (λ o. soonest_from (sooner None o k) (k + 1) queues) (none zero queue refl)
    ∙ soonest_none (k + 1) queues (λ i q is. none (suc i) q is)

-- Of the queues of a script.

-- the delayed tasks that a queue holds
pub delayed_of : (script : Plan) (past : List Entry) (arrivals : List Ordered) (waiting : List Posted) (q : ℕ)
    → (queue_of script past arrivals waiting q).delayed.held ≡ map ripening_of (filter (λ p. p.home == q) waiting)
unfolding queue_of
delayed_of script past arrivals waiting q = refl

-- a queue of a table
at_place : (at : ℕ → TaskQueue) (n : ℕ) (queues : List TaskQueue) (i : ℕ) (queue : TaskQueue) → IsTable at n queues → slice_get queues i ≡ Some queue
    → queue ≡ at i
at_place at n queues i queue table is =
    let within : i < length queues = slice_get_within queues i queue is in
    let long : length queues ≡ n = table.all in
    some-injective (sym is ∙ table.each i (omega (arith, within, long)))

-- where the tasks that wait rise, it is the first of them
pub soonest_is : (script : Plan) (past : List Entry) (arrivals : List Ordered) (p : Posted) (rest : List Posted) (queues : List TaskQueue)
    → IsTable (queue_of script past arrivals (p ∷ rest)) (length script.queues) queues → Rises posts.ripens_before (p ∷ rest)
    → p.home < length script.queues → soonest_from None 0 queues ≡ Some (ripening_of p, p.home)
soonest_is script past arrivals p rest queues table rises there =
    soonest_at (ripening_of p) None 0 p.home p.home queues (omega arith) tt here others
    (let long : length queues ≡ length script.queues = table.all in omega (arith, there, long))
  where
    held : (i : ℕ) (queue : TaskQueue) → slice_get queues i ≡ Some queue
        → first_of queue ≡ slice_get (map ripening_of (filter (λ x. x.home == i) (p ∷ rest))) 0
    held i queue is = ap first_of (at_place (queue_of script past arrivals (p ∷ rest)) (length script.queues) queues i queue table is)
        ∙ ap (λ xs. slice_get xs 0) (delayed_of script past arrivals (p ∷ rest) i)

    here : (queue : TaskQueue) → slice_get queues p.home ≡ Some queue → first_of queue ≡ Some (ripening_of p)
    here queue is = held p.home queue is ∙ rw (eqb-same p.home) refl

    others : (i : ℕ) (queue : TaskQueue) → (i ≡ p.home → ⊥) → slice_get queues i ≡ Some queue
        → IfSome (first_of queue) (λ x. ripens_before (ripening_of p) x ≡ true)
    others i queue other is = subst (λ o. IfSome o (λ x. ripens_before (ripening_of p) x ≡ true))
        (sym (held i queue is ∙ rw (ne_eqb p.home i (λ same. other (sym same))) refl))
        (slice_get_all (λ x. ripens_before (ripening_of p) x ≡ true) (map ripening_of (filter (λ x. x.home == i) rest)) 0
        (AllByRecursion-mapped (λ x. ripens_before (ripening_of p) x ≡ true) ripening_of (filter (λ x. x.home == i) rest)
        (AllByRecursion-filter (λ x. posts.ripens_before p x ≡ true) (λ x. x.home == i) rest rises.0)))

-- where none waits, there is none
pub soonest_of_none : (script : Plan) (past : List Entry) (arrivals : List Ordered) (queues : List TaskQueue)
    → IsTable (queue_of script past arrivals []) (length script.queues) queues → soonest_from None 0 queues ≡ None
soonest_of_none script past arrivals queues table = soonest_none 0 queues (λ i queue is.
    ap first_of (at_place (queue_of script past arrivals []) (length script.queues) queues i queue table is)
    ∙ ap (λ xs. slice_get xs 0) (delayed_of script past arrivals [] i))
