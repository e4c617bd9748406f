-- What the driver may enter in a turn, where its entries are known.
-- Cited by `post`, `shut_down`.
use Rattle.std.proofs.Common.{◌≡◌, true, List, sym, ap, refl, ◌∙◌}
use Rattle.task_base.specs.Plan.{Plan}
use Rattle.task_base.specs.declared.entry.Entry.{Entry}
use Rattle.task_base.specs.declared.entry.Kind.{Kind}
use Rattle.hist_model.specs.Script.{is_wanted}
use Rattle.hist_model.specs.Views.{own_entries}
use Rattle.turn_table.specs.Seats.{SeatView}
use Rattle.env_core.specs.Calls.{IsWantedNext}
use Rattle.env_core.specs.Views.{EnvView}

-- the environment wants it of the driver, whose entries these are
pub asks : (view : EnvView) (script : Plan) (s : SeatView) (own : List Entry) (kind : Kind) → view.script ≡ script → s.number ≡ 0 → s.mine ≡ own
    → own_entries s.number view.history ≡ s.mine → is_wanted script own kind ≡ true → IsWantedNext view 0 kind
asks view script s own kind script_is number mine own_is is =
    let driven_is : own_entries 0 view.history ≡ own = ap (λ k. own_entries k view.history) (sym number) ∙ own_is ∙ mine in
    record { driver = refl; wanted = rw (script_is, driven_is) is }
