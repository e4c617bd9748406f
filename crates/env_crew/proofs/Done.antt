-- What an action of the driver leaves.
-- Cited by `perform`.
use Rattle.std.proofs.Common.{◌≡◌, ℕ, true, List, [], ◌∷◌, ◌++◌, ap, ◌∙◌, Option, Some, None}
use Rattle.std.specs.List.{AllByRecursion}
use Rattle.list_laws.proofs.Elements.{AllByRecursion-map}
use Rattle.task_base.specs.declared.entry.Entry.{Entry}
use Rattle.task_base.specs.declared.entry.Kind.{Kind}
use Rattle.task_base.specs.declared.script.Action.{Action}
use Rattle.task_model.specs.Orders.{moment_of}
use Rattle.task_model.specs.Seats.{is_free}
use Rattle.hist_model.specs.Moments.{ticks_of}
use Rattle.hist_model.specs.Script.{behind_action}
use Rattle.env_core.specs.Views.{Enters}
use Rattle.env_crew.specs.Desk.{DeskView, Holds, IsLater, as_seen, mine, view_at}
use Rattle.env_crew.specs.Driving.{HasDone}
use Rattle.env_crew.proofs.Holds.{later_entered, mine_entered}
use Rattle.env_crew.proofs.Rests.{KeepsHolding, KeepsRunning, free_stays}
use Rattle.env_crew.proofs.Moves.{at_more, at_next}
use Rattle.env_crew.proofs.Time.{no_ticks, time_stays}

-- an entry of this kind is no tick, and leaves what the driver runs and holds
abbrev pub IsPlain : Kind → Type 0
IsPlain kind = KeepsRunning kind × KeepsHolding kind × (moment_of kind ≡ None)

-- behind such entries an action is done that they complete
pub done_by : {old new : DeskView} (action : Action) (clock : ℕ → Option ℕ) (made : List Entry) → IsLater old new → mine new ≡ mine old ++ made
    → AllByRecursion (λ e. IsPlain e.kind) made → behind_action action made ≡ Some [] → is_free (mine old) 0 ≡ true → HasDone action old new clock clock
done_by {old} {new} action clock made later own plain done rests = record {
  later = later;
  next = λ rest at. at_next new action rest made [] (at_more old new (action ∷ rest) [] made later.script_is own at) done;
  rests = ap (λ all. is_free all 0) own ∙ free_stays (mine old) made 0
      (AllByRecursion-map (λ (e : Entry). IsPlain e.kind) (λ (e : Entry). KeepsRunning e.kind) made (λ e is. is.0) plain)
      (AllByRecursion-map (λ (e : Entry). IsPlain e.kind) (λ (e : Entry). KeepsHolding e.kind) made (λ e is. is.1) plain) ∙ rests;
  time = λ told keeps. time_stays told clock (mine old) (mine new) (ap (λ all. ticks_of all) own ∙ no_ticks (mine old) made
      (AllByRecursion-map (λ (e : Entry). IsPlain e.kind) (λ (e : Entry). moment_of e.kind ≡ None) made (λ e is. is.2) plain)) keeps;
}

-- and so is an action of one entry behind the call of the desk that makes it
pub done_by_call : {old new : DeskView} {past : List Entry} {kind : Kind} (action : Action) (clock : ℕ → Option ℕ) → Holds old past new
    → Enters (view_at old past) (as_seen new) old.seat kind → IsPlain kind → behind_action action ((record { seat = old.seat; kind = kind }) ∷ []) ≡ Some []
    → is_free (mine old) 0 ≡ true → HasDone action old new clock clock
done_by_call {old} {new} {past} {kind} action clock holds enters plain done rests =
    done_by action clock ((record { seat = old.seat; kind = kind }) ∷ []) (later_entered holds kind enters) (mine_entered holds kind enters) (plain, tt) done
    rests
