-- The value of an assignment is at each moment what the steps that are done leave of the value that was found.
-- Cited by `Assignment::step`.
use Rattle.std.proofs.Common.{◌≡◌, List, ◌++◌, append_assoc, sym, ap, ◌∙◌}
use Rattle.std.proofs.lemmas.List.Sums.{fold-append}
use Rattle.task_base.specs.Steps.{after, apply_step}
use Rattle.task_base.specs.declared.step.Step.{Step}
use Rattle.task_body.specs.declared.act.Act.{Act}
use Rattle.task_body.specs.Progress.{Progress, done_of}
use Rattle.task_body.specs.Bodies.{AssignmentView, IsConsistent}
use Rattle.task_body.proofs.Progress.{Progress-does, done_of-append}

-- the steps before the rest leave the value
consistent_from : (a : AssignmentView) (done : List Step) → a.whole ≡ done ++ a.rest → a.value ≡ after done a.found → IsConsistent a
consistent_from a done parted left =
    let done_is : done_of a.whole a.rest ≡ done = ap (λ w. done_of w a.rest) parted ∙ done_of-append done a.rest in
    record {
      parted = parted ∙ ap (λ d. d ++ a.rest) (sym done_is);
      left = left ∙ ap (λ d. after d a.found) (sym done_is);
    }

-- a step keeps it
pub IsConsistent-step : (a b : AssignmentView) (act : Act) → Progress a.rest a.value act b.rest b.value → b.whole ≡ a.whole → b.found ≡ a.found
    → IsConsistent a → IsConsistent b
IsConsistent-step a b act progress whole found consistent =
    let does = Progress-does a.rest a.value act b.rest b.value progress in
    let done = done_of a.whole a.rest in
    consistent_from b (done ++ does.now)
    (whole ∙ consistent.parted ∙ ap (λ r. done ++ r) does.parted ∙ sym (append_assoc done does.now b.rest))
    (does.leaves ∙ ap (after does.now) (consistent.left ∙ ap (after done) (sym found)) ∙ sym (fold-append (λ v step. apply_step step v) b.found done does.now))
