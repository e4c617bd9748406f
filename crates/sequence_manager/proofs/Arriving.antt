-- A delayed task goes from those of its queue that wait to the end of the lane of its queue, under the order that is drawn
-- next: what that does to the queues of a script.
-- Cited by `Posts`, `Ripens`.
use Rattle.delayed_manager.specs.Delayed.{with_held}
use Rattle.list_laws.proofs.Elements.{AllByRecursion-append, AllByRecursion-filter, AllByRecursion-mapped}
use Rattle.list_laws.proofs.Values.{eqb-same}
use Rattle.sequence_manager.proofs.Parts.{load}
use Rattle.sequence_manager.proofs.Waiting.{IsWaiting}
use Rattle.sequence_manager.specs.Postings.{room_of}
use Rattle.sequence_manager.specs.Queues.{held_in, queue_of, queued_of, ripening_of}
use Rattle.sequence_manager.specs.State.{with_task}
use Rattle.sequence_manager.specs.declared.task_queue.TaskQueue.{TaskQueue}
use Rattle.std.proofs.Common.{Bool, List, [], ap, arith, cond, drop, false, inl, inr, length, map}
use Rattle.std.proofs.Common.{refl, subst, suc, sym, true, ℕ, ◌++◌, ◌<◌, ◌∙◌, ◌∷◌, ◌≡◌, ◌≤◌}
use Rattle.std.proofs.lemmas.Bool.{cases_eq, ne_eqb, not-true}
use Rattle.std.proofs.lemmas.List.{append-nil, length-append, map-append}
use Rattle.std.proofs.lemmas.List.Elements.{All-from_recursion, filter-append}
use Rattle.std.specs.List.{AllByRecursion}
use Rattle.std.specs.Prelude.{All, filter, not, ◌&&◌, ◌==◌, ◌⊎◌}
use Rattle.task_base.specs.Plan.{Plan}
use Rattle.task_base.specs.declared.entry.Entry.{Entry}
use Rattle.task_base.specs.declared.script.Lane.{Lane}
use Rattle.task_base.specs.declared.script.Lane.TheVariants.{Delayed, Immediate}
use Rattle.task_model.specs.MainQueues.{is_in_lane, is_of_lane}
use Rattle.queue_laws.specs.Orders.{Ordered}
use Rattle.task_model.specs.Posts.{Posted, is_main_taken}
use Rattle.task_model.specs.Refusal.{is_closed}
use Rattle.work_queue.specs.Lanes.{IsBelow, all_held}
use Rattle.work_queue.specs.declared.queued.Queued.{Queued}

-- The lanes.

-- one more task in no lane of the queue
held_same : (past : List Entry) (known : List Ordered) (o : Ordered) (q : ℕ) (lane : Lane) → is_in_lane past q lane o.posted ≡ false
    → held_in past (known ++ o ∷ []) q lane ≡ held_in past known q lane
held_same past known o q lane none = ap (λ os. cond (is_closed past q) [] (map queued_of os))
    (filter-append (λ x. is_in_lane past q lane x.posted) known (o ∷ [])
    ∙ ap (λ b. filter (λ x. is_in_lane past q lane x.posted) known ++ cond b (o ∷ []) []) none
    ∙ append-nil (filter (λ x. is_in_lane past q lane x.posted) known))

-- one more in a lane of its queue
held_push : (past : List Entry) (known : List Ordered) (o : Ordered) (lane : Lane) → is_closed past o.posted.home ≡ false
    → is_in_lane past o.posted.home lane o.posted ≡ true
    → held_in past (known ++ o ∷ []) o.posted.home lane ≡ held_in past known o.posted.home lane ++ queued_of o ∷ []
held_push past known o lane still_open joins =
    ap (λ b. cond b [] (map queued_of (filter test (known ++ o ∷ [])))) still_open
    ∙ ap (map queued_of) (filter-append test known (o ∷ []) ∙ ap (λ b. filter test known ++ cond b (o ∷ []) []) joins)
    ∙ map-append queued_of (filter test known) (o ∷ [])
    ∙ ap (λ b. cond b [] (map queued_of (filter test known)) ++ queued_of o ∷ []) (sym still_open)
  where
    test : Ordered → Bool
    test x = is_in_lane past o.posted.home lane x.posted

-- each is below an order where the arrivals are
held_below : (past : List Entry) (known : List Ordered) (q n : ℕ) (lane : Lane) → AllByRecursion (λ o. o.order < n) known
    → AllByRecursion (IsBelow n) (held_in past known q lane)
held_below past known q n lane below =
    elim (is_closed past q) as (λ b. AllByRecursion (IsBelow n) (cond b [] (map queued_of (filter (λ x. is_in_lane past q lane x.posted) known)))) [
      | true ↦ tt
      | false ↦ AllByRecursion-mapped (IsBelow n) queued_of (filter (λ x. is_in_lane past q lane x.posted) known)
          (AllByRecursion-filter (λ o. o.order < n) (λ x. is_in_lane past q lane x.posted) known below)
    ]

-- The queues.

-- the queue of the first that waits, without it
pub behind_first : (script : Plan) (past : List Entry) (known : List Ordered) (p : Posted) (rest : List Posted)
    → record (queue_of script past known (p ∷ rest) p.home) {
      delayed = with_held (queue_of script past known (p ∷ rest) p.home).delayed (drop 1 (queue_of script past known (p ∷ rest) p.home).delayed.held);
    } ≡ queue_of script past known rest p.home
unfolding queue_of
behind_first script past known p rest = rw (eqb-same p.home) refl

-- and the other queues
pub other_waiting : (script : Plan) (past : List Entry) (known : List Ordered) (p : Posted) (rest : List Posted) (q : ℕ) → (q ≡ p.home → ⊥)
    → queue_of script past known (p ∷ rest) q ≡ queue_of script past known rest q
unfolding queue_of
other_waiting script past known p rest q other = rw (ne_eqb p.home q (λ same. other (sym same))) refl

-- the queue with these in its lanes
abbrev with_lanes : Plan → List Entry → List Posted → ℕ → List Queued → List Queued → TaskQueue
with_lanes script past waiting q immediate delayed = record (queue_of script past [] waiting q) {
  tasks = record { immediate = immediate; delayed = delayed; room = room_of script q };
}

-- the queue of one more task that has an order, in the lane of that task
pub arrived_in : (script : Plan) (past : List Entry) (known : List Ordered) (o : Ordered) (rest : List Posted) (lane : Lane)
    → is_closed past o.posted.home ≡ false → is_main_taken past o.posted.task ≡ false → is_of_lane lane o.posted ≡ true
    → with_task lane o.posted.task o.order (queue_of script past known rest o.posted.home) ≡ queue_of script past (known ++ o ∷ []) rest o.posted.home
unfolding queue_of
arrived_in script past known o rest Immediate still_open untaken of_lane =
    ap (λ xs. with_lanes script past rest o.posted.home xs (held_in past known o.posted.home Delayed)) (sym (held_push past known o Immediate still_open
    (rw (eqb-same o.posted.home, of_lane, untaken) refl)))
    ∙ ap (with_lanes script past rest o.posted.home (held_in past (known ++ o ∷ []) o.posted.home Immediate)) (sym (held_same past known o o.posted.home Delayed
    (rw (eqb-same o.posted.home, not-true _ of_lane) refl)))
arrived_in script past known o rest Delayed still_open untaken of_lane =
    ap (with_lanes script past rest o.posted.home (held_in past known o.posted.home Immediate)) (sym (held_push past known o Delayed still_open
    (rw (eqb-same o.posted.home, of_lane, untaken) refl)))
    ∙ ap (λ xs. with_lanes script past rest o.posted.home xs (held_in past (known ++ o ∷ []) o.posted.home Delayed)) (sym
    (held_same past known o o.posted.home Immediate
    (rw (eqb-same o.posted.home, of_lane) refl)))

-- a delayed one that is no longer waiting
pub arrived : (script : Plan) (past : List Entry) (known : List Ordered) (o : Ordered) (rest : List Posted) → IsWaiting past o.posted
    → with_task Delayed o.posted.task o.order (queue_of script past known rest o.posted.home) ≡ queue_of script past (known ++ o ∷ []) rest o.posted.home
arrived script past known o rest waiting = arrived_in script past known o rest Delayed waiting.still_open waiting.untaken waiting.delayed

-- and the other queues
pub other_arrived : (script : Plan) (past : List Entry) (known : List Ordered) (o : Ordered) (rest : List Posted) (q : ℕ) → (q ≡ o.posted.home → ⊥)
    → queue_of script past known rest q ≡ queue_of script past (known ++ o ∷ []) rest q
unfolding queue_of
other_arrived script past known o rest q other =
    ap (with_lanes script past rest q (held_in past known q Immediate)) (sym (held_same past known o q Delayed (none Delayed)))
    ∙ ap (λ xs. with_lanes script past rest q xs (held_in past (known ++ o ∷ []) q Delayed)) (sym (held_same past known o q Immediate (none Immediate)))
  where
    none : (lane : Lane) → is_in_lane past q lane o.posted ≡ false
    none lane = ap (λ b. b && is_of_lane lane o.posted && not (is_main_taken past o.posted.task)) (ne_eqb o.posted.home q (λ same. other (sym same)))

-- How many a queue holds.

-- how many wait in the queue of the first
waiting_there : (p : Posted) (rest : List Posted)
    → length (map ripening_of (filter (λ x. x.home == p.home) (p ∷ rest))) ≡ suc (length (map ripening_of (filter (λ x. x.home == p.home) rest)))
waiting_there p rest = rw (eqb-same p.home) refl

-- one that waits leaves room for it in its lane
pub room_left : (script : Plan) (past : List Entry) (known : List Ordered) (p : Posted) (rest : List Posted)
    → load (queue_of script past known (p ∷ rest) p.home) ≤ room_of script p.home
    → length (all_held (queue_of script past known rest p.home).tasks) < (queue_of script past known rest p.home).tasks.room
unfolding queue_of
room_left script past known p rest fits = omega (arith, fits, waiting_there p rest)

-- what has come to its lane waits no more
load_there : (script : Plan) (past : List Entry) (known : List Ordered) (o : Ordered) (rest : List Posted) → IsWaiting past o.posted
    → load (queue_of script past (known ++ o ∷ []) rest o.posted.home) ≡ load (queue_of script past known (o.posted ∷ rest) o.posted.home)
unfolding queue_of
load_there script past known o rest waiting =
    ap load (sym (arrived script past known o rest waiting))
    ∙ omega (
      arith,
      length-append (held_in past known o.posted.home Immediate) (held_in past known o.posted.home Delayed ++ queued_of o ∷ []),
      length-append (held_in past known o.posted.home Delayed) (queued_of o ∷ []),
      length-append (held_in past known o.posted.home Immediate) (held_in past known o.posted.home Delayed),
      waiting_there o.posted rest,
    )

-- no queue holds more
pub load_same : (script : Plan) (past : List Entry) (known : List Ordered) (o : Ordered) (rest : List Posted) (q : ℕ) → IsWaiting past o.posted
    → load (queue_of script past (known ++ o ∷ []) rest q) ≡ load (queue_of script past known (o.posted ∷ rest) q)
load_same script past known o rest q waiting = by_home (cases_eq q o.posted.home)
  where
    by_home : (q ≡ o.posted.home) ⊎ (q ≡ o.posted.home → ⊥)
        → load (queue_of script past (known ++ o ∷ []) rest q) ≡ load (queue_of script past known (o.posted ∷ rest) q)
    by_home (inl is) = subst (λ i. load (queue_of script past (known ++ o ∷ []) rest i) ≡ load (queue_of script past known (o.posted ∷ rest) i)) (sym is)
        (load_there script past known o rest waiting)
    by_home (inr other) = ap load (sym (other_waiting script past known o.posted rest q other ∙ other_arrived script past known o rest q other))

-- each of a queue is below an order where the arrivals are
pub all_below : (script : Plan) (past : List Entry) (known : List Ordered) (rest : List Posted) (q n : ℕ) → AllByRecursion (λ o. o.order < n) known
    → All (IsBelow n) (all_held (queue_of script past known rest q).tasks)
unfolding queue_of
all_below script past known rest q n below = All-from_recursion (IsBelow n) (held_in past known q Immediate ++ held_in past known q Delayed)
    (AllByRecursion-append (IsBelow n) (held_in past known q Immediate) (held_in past known q Delayed) (held_below past known q n Immediate below)
    (held_below past known q n Delayed below))
