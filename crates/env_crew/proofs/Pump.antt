-- How the driver moves on in a pump.
-- Cited by `pump`.
use Rattle.std.proofs.Common.{◌≡◌, ℕ, zero, suc, ◌+◌, ◌-◌, ◌<◌, ◌≤◌, true, false, leb, List}
use Rattle.std.proofs.Common.{[], ◌∷◌, ◌++◌, refl, sym, ap, ◌∙◌, append-nil, append_assoc, Option, Some, None, arith}
use Rattle.std.specs.List.{AllByRecursion}
use Rattle.list_laws.proofs.Elements.{AllByRecursion-append, AllByRecursion-map}
use Rattle.task_base.specs.declared.entry.Entry.{Entry}
use Rattle.task_base.specs.declared.entry.Kind.{Kind}
use Rattle.task_base.specs.declared.entry.Kind.TheVariants as kinds
use Rattle.task_base.specs.declared.script.Action.{Action}
use Rattle.task_base.specs.declared.script.Action.TheVariants as actions
use Rattle.task_base.specs.Entries.{is_acting}
use Rattle.task_model.specs.Orders.{moment_of}
use Rattle.task_model.specs.Seats.{is_free}
use Rattle.hist_model.specs.Moments.{ticks_of}
use Rattle.hist_model.specs.Script.{behind_pump, is_main_end, is_main_none}
use Rattle.task_body.specs.Bodies.{AssignmentView}
use Rattle.env_core.specs.Views.{Enters}
use Rattle.env_crew.specs.Desk.{DeskView, Holds, IsLater, as_seen, mine, view_at}
use Rattle.env_crew.specs.Driving.{HasDone, AreLeft}
use Rattle.env_crew.proofs.Holds.{later_entered, later_refl, later_trans, mine_entered}
use Rattle.env_crew.proofs.Rests.{free_stays}
use Rattle.env_crew.proofs.Moves.{at_more, at_next}
use Rattle.env_crew.proofs.Tasks.{HasWorked, rests_behind_work}
use Rattle.env_crew.proofs.Time.{no_ticks, time_stays}

-- the entries behind a pump that is still to run so many main tasks
abbrev left_behind : ℕ → List Entry → Option (List Entry)
left_behind zero entries = Some entries
left_behind (suc n) entries = behind_pump (suc n) entries

all_left : (n : ℕ) (entries : List Entry) → 1 ≤ n → behind_pump n entries ≡ left_behind n entries
all_left zero entries some = absurd (omega (arith, some))
all_left (suc n) entries some = refl

-- an entry inside a main task: no pump is complete behind it, and it is no tick
abbrev IsInside : Kind → Type 0
IsInside kind = (is_main_none kind ≡ false) × (is_main_end kind ≡ false) × (moment_of kind ≡ None)

acting_inside : (kind : Kind) → is_acting kind ≡ true → IsInside kind
acting_inside (kinds.Post task runner delay ok) acts = (refl, refl, refl)
acting_inside (kinds.Main task queue delay ok) acts = (refl, refl, refl)
acting_inside (kinds.Enter task scope) acts = (refl, refl, refl)
acting_inside (kinds.Leave task) acts = (refl, refl, refl)
acting_inside kind acts = absurd cc

inside_first : (n : ℕ) (front entries : List Entry) → AllByRecursion (λ e. IsInside e.kind) front
    → behind_pump n (front ++ entries) ≡ behind_pump n entries
inside_first n [] entries inside = refl
inside_first n (e ∷ front) entries inside = rw (inside.0.0, inside.0.1) (inside_first n front entries inside.1)

-- behind the end of a main task one less is to run
end_first : (n seat task left : ℕ) (entries : List Entry)
    → behind_pump (suc n) ((record { seat = seat; kind = kinds.MainEnd task left }) ∷ entries) ≡ left_behind n entries
end_first zero seat task left entries = refl
end_first (suc n) seat task left entries =
    let long : leb (suc (suc n)) 1 ≡ false = grind arith in
    let less : suc (suc n) - 1 ≡ suc n = omega arith in
    rw (long, less) refl

-- of the pump's main tasks so many have ended, and so many may still run
pub record Pumping (start now : DeskView) (count ended : ℕ) : Type 0 where
  pub later : IsLater start now
  pub left : ℕ
  pub counted : ended + left ≡ count
  pub made : List Entry
  pub pumped : (entries : List Entry) → behind_pump count (made ++ entries) ≡ left_behind left entries
  pub at : (rest : List Action) → AreLeft start (actions.Pump count ∷ rest) [] → AreLeft now (actions.Pump count ∷ rest) made
  pub rests : is_free (mine now) 0 ≡ true
  pub ticks : ticks_of (mine now) ≡ ticks_of (mine start)

-- at first none has ended
pub pump_starts : (d : DeskView) (count : ℕ) → 1 ≤ count → is_free (mine d) 0 ≡ true → Pumping d d count 0
pump_starts d count some rests = record {
  later = later_refl d;
  left = count;
  counted = omega arith;
  made = [];
  pumped = λ entries. all_left count entries some;
  at = λ rest at. at;
  rests = rests;
  ticks = refl;
}

-- while there is one left, the pump is not complete
pub pump_waits : {start now : DeskView} {count ended : ℕ} (was : Pumping start now count ended) → ended < count → behind_pump count was.made ≡ None
pump_waits {count = count} was more = ap (behind_pump count) (sym (append-nil was.made)) ∙ was.pumped []
    ∙ none was.left (omega (arith, was.counted, more))
  where
    none : (n : ℕ) → 1 ≤ n → left_behind n [] ≡ None
    none zero some = absurd (omega (arith, some))
    none (suc n) some = refl

-- one more was run
pub pump_goes_on : {start now new : DeskView} {count ended : ℕ} (begun last : AssignmentView) (was : Pumping start now count ended) → ended < count
    → now.seat ≡ 0 → HasWorked now new (kinds.MainTake begun.task begun.home begun.found) (kinds.MainEnd last.task last.value)
    → Pumping start new count (ended + 1)
pump_goes_on {start} {now} {new} {count} {ended} begun last was more driver worked =
    record {
      later = later_trans start now new was.later worked.later;
      left = was.left - 1;
      counted = omega (arith, was.counted, more);
      made = was.made ++ (front ++ e ∷ []);
      pumped = λ entries. ap (behind_pump count) (append_assoc was.made (front ++ e ∷ []) entries) ∙ was.pumped ((front ++ e ∷ []) ++ entries)
          ∙ ap (left_behind was.left) (append_assoc front (e ∷ []) entries) ∙ one_less was.left entries (omega (arith, was.counted, more));
      at = λ rest at. at_more now new (actions.Pump count ∷ rest) was.made (front ++ e ∷ []) worked.later.script_is worked.grows (was.at rest at);
      rests = ap (λ s. is_free (mine new) s) (sym driver) ∙ rests_behind_work worked (λ held. refl) (λ held. refl) (λ before. refl)
          (ap (λ s. is_free (mine now) s) driver ∙ was.rests);
      ticks = ap (λ all. ticks_of all) worked.grows ∙ no_ticks (mine now) (front ++ e ∷ []) (AllByRecursion-append (λ (x : Entry). moment_of x.kind ≡ None)
          front (e ∷ []) (AllByRecursion-map (λ (x : Entry). IsInside x.kind) (λ (x : Entry). moment_of x.kind ≡ None) front (λ x inside. inside.2) inside)
          (refl, tt)) ∙ was.ticks;
    }
  where
    front : List Entry
    front = (record { seat = now.seat; kind = kinds.MainTake begun.task begun.home begun.found }) ∷ worked.acts

    e : Entry
    e = record { seat = now.seat; kind = kinds.MainEnd last.task last.value }

    inside : AllByRecursion (λ x. IsInside x.kind) front
    inside = (
      (refl, refl, refl),
      AllByRecursion-map (λ (x : Entry). is_acting x.kind ≡ true) (λ (x : Entry). IsInside x.kind) worked.acts
          (λ x acts. acting_inside x.kind acts) worked.acting,
    )

    one_less : (n : ℕ) (entries : List Entry) → 1 ≤ n → left_behind n (front ++ e ∷ entries) ≡ left_behind (n - 1) entries
    one_less zero entries some = absurd (omega (arith, some))
    one_less (suc n) entries some =
        let less : suc n - 1 ≡ n = omega arith in
        rw less (inside_first (suc n) front (e ∷ entries) inside ∙ end_first n now.seat last.task last.value entries)

-- where as many have ended as are to run, the pump is done
pub pump_done : {start now : DeskView} {count ended : ℕ} (clock : ℕ → Option ℕ) (was : Pumping start now count ended) → ended ≡ count
    → HasDone (actions.Pump count) start now clock clock
pump_done {start} {now} {count} {ended} clock was all =
    let none : was.left ≡ 0 = omega (arith, was.counted, all) in
    record {
      later = was.later;
      next = λ rest at. at_next now (actions.Pump count) rest was.made [] (was.at rest at)
          (ap (behind_pump count) (sym (append-nil was.made)) ∙ was.pumped [] ∙ ap (λ n. left_behind n []) none);
      rests = was.rests;
      time = λ told keeps. time_stays told clock (mine start) (mine now) was.ticks keeps;
    }

-- and where there is none to run
pub pump_stops : {start now new : DeskView} {past : List Entry} {count ended : ℕ} (clock : ℕ → Option ℕ) (was : Pumping start now count ended)
    → ended < count → Holds now past new → Enters (view_at now past) (as_seen new) now.seat kinds.MainNone → HasDone (actions.Pump count) start new clock clock
pump_stops {start} {now} {new} {count = count} clock was more holds enters =
    let own = mine_entered holds kinds.MainNone enters in
    record {
      later = later_trans start now new was.later (later_entered holds kinds.MainNone enters);
      next = λ rest at. at_next new (actions.Pump count) rest (was.made ++ e ∷ []) []
          (at_more now new (actions.Pump count ∷ rest) was.made (e ∷ []) holds.script_is own (was.at rest at))
          (was.pumped (e ∷ []) ∙ none was.left (omega (arith, was.counted, more)));
      rests = ap (λ all. is_free all 0) own ∙ free_stays (mine now) (e ∷ []) 0 (λ run. refl, tt) (λ held. refl, tt) ∙ was.rests;
      time = λ told keeps. time_stays told clock (mine start) (mine new)
          (ap (λ all. ticks_of all) own ∙ no_ticks (mine now) (e ∷ []) (refl, tt) ∙ was.ticks) keeps;
    }
  where
    e : Entry
    e = record { seat = now.seat; kind = kinds.MainNone }

    none : (n : ℕ) → 1 ≤ n → left_behind n (e ∷ []) ≡ Some []
    none zero some = absurd (omega (arith, some))
    none (suc n) some = refl
