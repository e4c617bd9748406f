-- At a pump a driver that runs nothing may take the chosen front, or it finds no main task.
-- Cited by `Laws/Progress/Actions`, `env_core`, `live_core`.
use Rattle.std.proofs.Common.{◌≡◌, ℕ, Bool, true, false, cond, eqb, List, [], length, refl, ap, ◌∙◌, Option, Some, None, arith}
use Rattle.std.specs.Prelude.{filter, is_none, Contains}
use Rattle.std.proofs.lemmas.Bool.{and_from, and_parts, eq-eqb, leb-true}
use Rattle.task_base.specs.Plan.{Plan}
use Rattle.task_base.specs.declared.entry.Entry.{Entry}
use Rattle.task_base.specs.declared.entry.Kind.{Kind}
use Rattle.task_base.specs.declared.entry.Kind.TheVariants as kinds
use Rattle.task_base.specs.declared.script.Action.TheVariants as actions
use Rattle.list_laws.specs.Lists.{least, holds_of}
use Rattle.list_laws.proofs.Elements.{AllByRecursion-contains_itself}
use Rattle.list_laws.proofs.Least.{no_least}
use Rattle.list_laws.proofs.Made.{contains_filter, contains_not_empty}
use Rattle.task_model.specs.Seats.{running}
use Rattle.task_model.specs.Cells.{main_cell_of}
use Rattle.task_model.specs.MainQueues.{Front, order_below, class_below, least_class, of_least_class, immediate_of_least_class}
use Rattle.task_model.specs.MainQueues.{is_starved, choice_among, open_fronts, streak_of, chosen_of}
use Rattle.hist_model.specs.Views.{own_entries}
use Rattle.hist_model.specs.Open.{IsClosed}
use Rattle.hist_model.specs.Script.{Current, current, wants}
use Rattle.hist_model.specs.Allowed.{is_front, may_come}
use Rattle.hist_model.specs.Laws.Progress.{WantedMayCome}
use Rattle.hist_model.proofs.Laws.Choice.{of_least}
use Rattle.hist_model.proofs.Laws.Own.{running_own}
use Rattle.hist_model.proofs.Laws.Progress.Made.{by_it, wanted_now}

-- there are none of the least class only where there are none
pub some_of_least : (fronts : List Front) → of_least_class fronts ≡ [] → fronts ≡ []
unfolding of_least_class
some_of_least fronts h = at (least class_below fronts) refl
  where
    is_of : Front → Bool
    is_of f = holds_of (λ class. eqb f.class class) (least_class fronts)

    at : (o : Option Front) → least class_below fronts ≡ o → fronts ≡ []
    at None is = no_least class_below fronts is
    at (Some x) is = absurd (contains_not_empty (filter is_of fronts) x
        (contains_filter is_of fronts x (of_least (Contains fronts) class_below fronts x (AllByRecursion-contains_itself fronts) is)
        (rw is (eq-eqb x.class x.class refl))) h)

-- where no front is chosen, none is open
pub none_open : (script : Plan) (past : List Entry) → chosen_of script past ≡ None → open_fronts script past ≡ []
unfolding choice_among
none_open script past h = at (is_starved fronts (streak_of script past)) refl h
  where
    fronts : List Front
    fronts = open_fronts script past

    at : (b : Bool) → is_starved fronts (streak_of script past) ≡ b
        → least order_below (cond b (immediate_of_least_class fronts) (of_least_class fronts)) ≡ None → fronts ≡ []
    at false is k = some_of_least fronts (no_least order_below (of_least_class fronts) k)
    at true is k =
        let none = no_least order_below (immediate_of_least_class fronts) k in
        absurd (omega (arith, leb-true 1 (length (immediate_of_least_class fronts)) (and_parts _ _ is).1, ap (λ xs. length xs) none))

pub pump_goes_on : (script : Plan) (past : List Entry) (c : Current) (n : ℕ) → IsClosed script → c.action ≡ actions.Pump n → running past 0 ≡ None
    → current script (own_entries 0 past) ≡ Some c → WantedMayCome script past c
unfolding may_come
pump_goes_on script past c n closed at_pump idle is = by_chosen (chosen_of script past) refl
  where
    runs_none : is_none (running (own_entries 0 past) 0) ≡ true
    runs_none = rw (running_own past 0, idle) refl

    wanted : (kind : Kind) → wants (own_entries 0 past) (actions.Pump n) c.made kind ≡ true → wants (own_entries 0 past) c.action c.made kind ≡ true
    wanted kind h = ap (λ x. wants (own_entries 0 past) x c.made kind) at_pump ∙ h

    take_of : Front → Kind
    take_of f = kinds.MainTake f.task f.queue (main_cell_of past f.queue)

    by_chosen : (o : Option Front) → chosen_of script past ≡ o → WantedMayCome script past c
    by_chosen (Some f) chosen = by_it script past c (take_of f) (wanted (take_of f) runs_none) (and_from _ _ (and_from _ _
        (wanted_now script past c (take_of f) closed is (wanted (take_of f) runs_none)) (ap (holds_of (is_front f.task f.queue)) chosen
        ∙ and_from _ _ (eq-eqb f.task f.task refl) (eq-eqb f.queue f.queue refl))) (eq-eqb (main_cell_of past f.queue) (main_cell_of past f.queue) refl))
    by_chosen None none = by_it script past c kinds.MainNone (wanted kinds.MainNone runs_none) (and_from _ _
        (wanted_now script past c kinds.MainNone closed is (wanted kinds.MainNone runs_none)) (ap (λ xs. eqb (length xs) 0) (none_open script past none)))
