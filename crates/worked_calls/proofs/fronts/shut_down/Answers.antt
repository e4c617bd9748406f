use Rattle.std.proofs.Common.{[], ◌∷◌, true, refl, ◌∙◌}
use Rattle.task_base.specs.declared.entry.Kind.TheVariants as kinds
use Rattle.task_base.specs.Entries.{entry_by}
use Rattle.hist_model.specs.Script.{current, is_wanted}
use Rattle.worked_calls.proofs.Turns.{asks}
use Rattle.worked_calls.specs.Plans.{closing_plan}
use Rattle.worked_calls.proofs.fronts.shut_down.Goals as goal

pub start_shutdown-requires : goal.start_shutdown-requires
unfolding is_wanted current
start_shutdown-requires g c = asks c.turn-env.result.0 closing_plan c.args.first (entry_by 0 (kinds.Post 0 0 5 true) ∷ []) kinds.Shutdown
    (c.turn-env.ensures.basis ∙ c.requires.script) c.requires.back.number_is c.requires.own c.turn-env.ensures.own refl
