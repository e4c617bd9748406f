-- Two histories of scripts that no open plan of theirs has: why a script's environment is no client of a process's.
-- Cited by nothing: worked out by hand.
use Rattle.std.proofs.Common.{◌≡◌, ℕ, true, false, List, [], ◌∷◌, Some, refl}
use Rattle.task_base.specs.Entries.{entry_by as by}
use Rattle.task_base.specs.Plan.{Plan, opened}
use Rattle.task_base.specs.declared.entry.Entry.{Entry}
use Rattle.task_base.specs.declared.entry.Kind.TheVariants as kinds
use Rattle.task_base.specs.declared.script.Action.TheVariants as actions
use Rattle.task_base.specs.declared.script.RunnerKind.TheVariants.{Parallel}
use Rattle.task_base.specs.declared.step.Step.TheVariants as steps
use Rattle.task_traits.specs.declared.traits.Behaviour.TheVariants.{SkipOnShutdown}
use Rattle.task_traits.specs.declared.traits.Priority.TheVariants.{UserVisible}
use Rattle.hist_model.proofs.Worked.Rows.{judge, plain, runner_of}

-- the log is legal for the script, and for its open plan the entry at this place may not come
abbrev IsOfScriptAlone : Plan → List Entry → ℕ → Type 0
IsOfScriptAlone script log place = ((judge script log).0 ≡ true) × ((judge (opened script) log).2 ≡ Some place)

-- a script may read the clock after shutdown is done; after that an open plan's driver makes no entry
reads_on : IsOfScriptAlone (record plain { workers = 1; actions = actions.Shutdown ∷ actions.Tick 1 ∷ [] })
    (by 0 kinds.Shutdown ∷ by 0 kinds.Done ∷ by 0 (kinds.Tick 0) ∷ []) 2
unfolding judge
reads_on = (refl, refl)

-- a script's last seat takes tasks; that of an open plan is the guest's
takes_last : IsOfScriptAlone (record plain {
  workers = 1;
  runners = runner_of Parallel UserVisible SkipOnShutdown false ∷ [];
  tasks = (steps.Add 1 ∷ []) ∷ [];
  actions = actions.Post 0 0 0 ∷ actions.Flush ∷ [];
})
    (by 0 (kinds.Post 0 0 0 true) ∷ by 1 (kinds.Take 0 0 0) ∷ []) 1
unfolding judge
takes_last = (refl, refl)
