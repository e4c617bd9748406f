use Rattle.std.proofs.Common.{sym, subst, ◌∙◌, refl}
use Rattle.script_model.specs.Laws.Sound.{IsSound}
use Rattle.task_script.specs.Generated.{generated}
use Rattle.task_script.proofs.Generated.{length-numbers_behind, generated_sound}
use Rattle.task_script.proofs.generator.generate.Goals as goal

pub actions_of-requires : goal.actions_of-requires
actions_of-requires c =
    let numbers = c.as_slice-2.ensures.value ∙ c.in_ok-numbers.ensures in
    rw (numbers, length-numbers_behind c.args.number c.args.size) c.requires.few

pub returns-clause-script : goal.returns-clause-script
unfolding generated
returns-clause-script c =
    let numbers = c.as_slice.ensures.value ∙ c.in_ok-numbers.ensures in
    let numbers-2 = c.as_slice-2.ensures.value ∙ c.in_ok-numbers.ensures in
    rw (
      c.in_ok-runners.ensures,
      c.in_ok-queues.ensures,
      c.in_ok-tasks_of.ensures,
      c.in_ok-jobs.ensures,
      c.in_ok-actions_of.ensures,
      numbers,
      numbers-2,
      length-numbers_behind c.args.number c.args.size,
    ) refl

pub returns-clause-sound : goal.returns-clause-sound
returns-clause-sound c = subst IsSound (sym (returns-clause-script c)) (generated_sound c.args.number c.args.size c.requires.some c.requires.few)
