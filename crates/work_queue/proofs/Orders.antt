-- A task whose order is above all others keeps the lanes in order.
-- Cited by `WorkQueue::push`, `WorkQueue::push_immediate`.
use Rattle.std.proofs.Common.{◌≡◌, List, [], ◌∷◌, ◌++◌, true, rules, sym, ◌∙◌, append_assoc, subst}
use Rattle.std.specs.Prelude.{All}
use Rattle.std.specs.List.{AllByRecursion}
use Rattle.std.proofs.lemmas.List.Elements.{recursion_from_All}
use Rattle.list_laws.specs.Sorts.{Rises}
use Rattle.list_laws.proofs.Elements.{AllByRecursion-back, AllByRecursion-front, AllByRecursion-map}
use Rattle.list_laws.proofs.Sorts.{rises-append}
use Rattle.work_queue.specs.declared.queued.Queued.{Queued}
use Rattle.work_queue.specs.Lanes.{IsBelow, comes_before}
use Rattle.work_queue.specs.Queues.{IsSound}

rises-push : (xs : List Queued) (queued : Queued) → Rises comes_before xs → AllByRecursion (IsBelow queued.order) xs
    → Rises comes_before (xs ++ queued ∷ [])
rises-push xs queued rises below = rises-append comes_before xs (queued ∷ []) rises (tt, tt)
    (AllByRecursion-map (IsBelow queued.order) (λ x. AllByRecursion (λ y. comes_before x y ≡ true) (queued ∷ [])) xs
    (λ x lesser. (search rules, tt)) below)

-- a task comes in, and the two immediate queues may change places
pub after_immediate : (incoming immediate delayed incoming' immediate' : List Queued) (queued : Queued) → IsSound incoming immediate delayed
    → All (IsBelow queued.order) ((immediate ++ incoming) ++ delayed) → immediate' ++ incoming' ≡ immediate ++ (incoming ++ queued ∷ [])
    → (immediate' ≡ [] → incoming' ≡ []) → IsSound incoming' immediate' delayed
after_immediate incoming immediate delayed incoming' immediate' queued sound last items reloaded = record {
  reloaded = reloaded;
  immediate_rises = subst (Rises comes_before) (append_assoc immediate incoming (queued ∷ []) ∙ sym items)
      (rises-push (immediate ++ incoming) queued sound.immediate_rises
      (AllByRecursion-front (IsBelow queued.order) (immediate ++ incoming) delayed (recursion_from_All _ _ last)));
  delayed_rises = sound.delayed_rises;
}

-- a delayed task is ripe
pub after_delayed : (incoming immediate delayed : List Queued) (queued : Queued) → IsSound incoming immediate delayed
    → All (IsBelow queued.order) ((immediate ++ incoming) ++ delayed) → IsSound incoming immediate (delayed ++ queued ∷ [])
after_delayed incoming immediate delayed queued sound last = record {
  reloaded = sound.reloaded;
  immediate_rises = sound.immediate_rises;
  delayed_rises = rises-push delayed queued sound.delayed_rises
      (AllByRecursion-back (IsBelow queued.order) (immediate ++ incoming) delayed (recursion_from_All _ _ last));
}
