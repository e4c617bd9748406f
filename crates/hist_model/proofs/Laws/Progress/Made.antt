-- When a seat may make an entry: by the script, and by the task that it runs.
-- Cited by `Laws/Due`, `Laws/Progress/Actions`, `Laws/Progress/Jobs`, `Laws/Progress/Pump`, `Laws/Progress/Tasks`, `Laws/Progress/Ways`,
-- `Laws/Progress/Workers`.
use Rattle.std.proofs.Common.{◌≡◌, ℕ, ◌≤◌, Bool, true, false, List, refl, ap, ◌∙◌, Some, arith}
use Rattle.std.specs.Prelude.{not}
use Rattle.std.proofs.lemmas.Bool.{le-leb}
use Rattle.task_base.specs.Plan.{Plan}
use Rattle.task_base.specs.declared.step.Step.{Step}
use Rattle.task_base.specs.declared.entry.Entry.{Entry}
use Rattle.task_base.specs.declared.entry.Kind.{Kind}
use Rattle.list_laws.specs.Lists.{holds_of}
use Rattle.task_model.specs.Seats.{Running, running, next_act}
use Rattle.hist_model.specs.Views.{own_entries}
use Rattle.hist_model.specs.Open.{IsClosed}
use Rattle.hist_model.specs.Script.{Current, current, wants}
use Rattle.hist_model.specs.Allowed.{enters, by_script, by_task, is_reply, may_come}
use Rattle.hist_model.specs.Laws.Progress.{MayMake, WantedMayCome}
use Rattle.hist_model.proofs.Laws.Open.{closed_wanted}

-- a seat of the script may make an entry of a kind that may come
pub may_make : (script : Plan) (past : List Entry) (seat : ℕ) (kind : Kind) → seat ≤ script.workers → may_come script past seat kind ≡ true
    → MayMake script past seat kind
may_make script past seat kind known may = rw (le-leb seat script.workers known, may) refl

-- what the driver's action wants comes by the script, where the plan is closed
pub wanted_now : (script : Plan) (past : List Entry) (c : Current) (kind : Kind) → IsClosed script → current script (own_entries 0 past) ≡ Some c
    → wants (own_entries 0 past) c.action c.made kind ≡ true → by_script script past 0 kind ≡ true
unfolding by_script
wanted_now script past c kind closed is wanted =
    closed_wanted script (own_entries 0 past) kind closed ∙ ap (holds_of (λ d. wants (own_entries 0 past) d.action d.made kind)) is ∙ wanted

-- an entry that the action wants, and that may come
pub by_it : (script : Plan) (past : List Entry) (c : Current) (kind : Kind) → wants (own_entries 0 past) c.action c.made kind ≡ true
    → may_come script past 0 kind ≡ true → WantedMayCome script past c
by_it script past c kind wanted may = record { kind = kind; wanted = wanted; may = may_make script past 0 kind (omega arith) may }

-- what the next act step of the task enters comes by the task
pub entered_now : (script : Plan) (past : List Entry) (seat : ℕ) (w : Running) (step : Step) (kind : Kind) → running past seat ≡ Some w
    → next_act script past seat ≡ Some step → enters w.task step kind ≡ true → by_task script past seat kind ≡ true
unfolding by_task
entered_now script past seat w step kind runs next is =
    ap (holds_of (λ x. holds_of (λ s. enters x.task s kind) (next_act script past seat))) runs ∙ ap (holds_of (λ s. enters w.task s kind)) next ∙ is

-- a post may have the reply that says whether it is refused
pub replies : (refused : Bool) → is_reply refused (not refused) ≡ true
replies true = refl
replies false = refl
