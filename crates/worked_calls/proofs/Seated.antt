-- What is known at a desk, by its own entries.
-- Cited by `enter`, `leave`, `open_three`, `open_two`, 5 functions of `desks`, `turnstile_of`, `attend`, `no_turn_is_held_at_the_gate`,
-- `nobody_takes_what_is_not_posted`, `Rests`, `desk_calls.rt`, `threads.rt`.
use Rattle.std.proofs.Common.{◌≡◌, ℕ, ◌+◌, ◌≤◌, Bool, true, false, List, [], ◌∷◌, ◌++◌, length, refl, sym, ap, subst, ◌∙◌, append_assoc, arith, Some}
use Rattle.std.specs.Prelude.{filter}
use Rattle.list_laws.proofs.Values.{eqb-same, some-injective}
use Rattle.task_base.specs.Plan.{Plan}
use Rattle.task_base.specs.Steps.{is_act}
use Rattle.task_base.specs.declared.entry.Entry.{Entry}
use Rattle.task_base.specs.declared.entry.Kind.{Kind}
use Rattle.task_base.specs.declared.entry.Kind.TheVariants as kinds
use Rattle.task_base.specs.declared.step.Step.{Step}
use Rattle.task_body.specs.Bodies.{AssignmentView}
use Rattle.task_model.specs.Seats.{acts_done, holding, is_free, next_act, running, steps_of}
use Rattle.hist_model.proofs.Laws.Own.{own_entries_push}
use Rattle.hist_model.specs.Script.{is_wanted}
use Rattle.hist_model.specs.Views.{own_entries}
use Rattle.turn_table.specs.Seats.{TurnKey, SeatView}
use Rattle.env_core.specs.Calls.{HasTaken, IsNextAct, act_of, entry_of}
use Rattle.env_crew.specs.Calls.{HasActed}
use Rattle.task_body.specs.declared.act.Act.{Act}
use Rattle.env_core.specs.Views.{Enters}
use Rattle.env_crew.specs.Desk.{DeskView, Holds, IsLater, as_seen, mine, view_at, with_own}
use Rattle.env_crew.specs.Driving.{IsWanted}
use Rattle.env_crew.specs.Serving.{IsFree}
use Rattle.env_shared.specs.Sits.{SitterView, desk_of}
use Rattle.worked_calls.specs.Known.{CanAsk, IsAtDesk, IsLast, driver_seat, worker_seat}

-- A hold of the turn.

-- the desk is later where an entry was made
pub later_entered : {old new : DeskView} {past : List Entry} → Holds old past new → (kind : Kind) → Enters (view_at old past) (as_seen new) old.seat kind
    → IsLater old new
later_entered {old} {new} {past} holds kind enters = record {
  script_is = holds.script_is;
  seat_is = holds.seat_is;
  origin_is = holds.origin_is;
  grows = (
    holds.begins.0 ++ record { seat = old.seat; kind = kind } ∷ [],
    ap (λ v. v.history) enters.entered ∙ ap (λ s. s ++ record { seat = old.seat; kind = kind } ∷ []) holds.begins.1
        ∙ append_assoc old.seen holds.begins.0 (record { seat = old.seat; kind = kind } ∷ []),
  );
  turned = omega (arith, holds.turned);
  loads_is = holds.loads_is;
  last_is = holds.last_is;
  told_on = holds.told_on;
}

-- the entry is one more of the seat's own
pub own_entered : {old new : DeskView} {past : List Entry} → Holds old past new → (kind : Kind) → Enters (view_at old past) (as_seen new) old.seat kind
    → mine new ≡ with_own old kind
own_entered {old} {new} {past} holds kind enters = rw (
  holds.seat_is,
  ap (λ v. v.history) enters.entered,
  own_entries_push past (record { seat = old.seat; kind = kind }) old.seat,
  eqb-same old.seat,
  holds.own,
) refl

-- a worker has taken a task
pub taken_later : (old new : DeskView) (past : List Entry) (work : AssignmentView) → Holds old past new
    → HasTaken (view_at old past) (as_seen new) old.seat work → IsLater old new
taken_later old new past work holds taken = later_entered holds (kinds.Take work.task work.home work.found) taken.enters

pub taken_own : (old new : DeskView) (past : List Entry) (work : AssignmentView) (task : ℕ) → Holds old past new
    → HasTaken (view_at old past) (as_seen new) old.seat work → work.task ≡ task → work.home ≡ 0 → work.found ≡ 0
    → mine new ≡ with_own old (kinds.Take task 0 0)
taken_own old new past work task holds taken task_is home_is found_is =
    own_entered holds (kinds.Take work.task work.home work.found) taken.enters
    ∙ ap (λ (t : ℕ). with_own old (kinds.Take t work.home work.found)) task_is
    ∙ ap (λ (h : ℕ). with_own old (kinds.Take task h work.found)) home_is ∙ ap (λ (f : ℕ). with_own old (kinds.Take task 0 f)) found_is

-- an act was entered, of the task that the seat runs
pub acted_own : {old new : DeskView} {past : List Entry} {act : Act} {ok : Bool} (kind : ℕ → Kind) → ((t : ℕ) → entry_of t act ok ≡ Some (kind t))
    → Holds old past new → HasActed old.seat act ok (view_at old past) (as_seen new) → (t : ℕ) × (mine new ≡ with_own old (kind t))
acted_own {old} {new} {past} kind told holds acted =
    let t = acted.enters.now.task in
    (t, own_entered holds (kind t) (rw (some-injective (sym (told t) ∙ acted.enters.kind_is)) acted.enters.enters))

-- A desk whose entries are known.

pub at_first : (key : TurnKey) (script : Plan) (n : ℕ) (s : SitterView) → s.seat ≡ worker_seat key n → key.basis ≡ script → IsAtDesk script n [] (desk_of s)
at_first key script n s is basis = record {
  script_is = ap (λ (x : SeatView). x.of.basis) is ∙ basis;
  seat_is = ap (λ (x : SeatView). x.number) is;
  own_is = ap (λ (x : SeatView). own_entries x.number x.seen) is;
}

pub driver_first : (key : TurnKey) (script : Plan) (made : ℕ) (s : SitterView) → s.seat ≡ driver_seat key made → key.basis ≡ script
    → IsAtDesk script 0 [] (desk_of s)
driver_first key script made s is basis = record {
  script_is = ap (λ (x : SeatView). x.of.basis) is ∙ basis;
  seat_is = ap (λ (x : SeatView). x.number) is;
  own_is = ap (λ (x : SeatView). own_entries x.number x.seen) is;
}

-- it goes on by an entry
pub at_later : {script : Plan} {seat : ℕ} {own : List Entry} {old new : DeskView} → IsAtDesk script seat own old → (kind : Kind) → IsLater old new
    → mine new ≡ with_own old kind → IsAtDesk script seat (own ++ record { seat = seat; kind = kind } ∷ []) new
at_later {own = own} {old = old} at kind later is = record {
  script_is = later.script_is ∙ at.script_is;
  seat_is = later.seat_is ∙ at.seat_is;
  own_is = is ∙ ap (λ l. l ++ record { seat = old.seat; kind = kind } ∷ []) at.own_is
      ∙ ap (λ k. own ++ record { seat = k; kind = kind } ∷ []) at.seat_is;
}

-- by an entry of the driver
pub at_entered : {script : Plan} {seat : ℕ} {own : List Entry} {old new : DeskView} {past : List Entry} → IsAtDesk script seat own old → (kind : Kind)
    → Holds old past new → Enters (view_at old past) (as_seen new) old.seat kind → IsAtDesk script seat (own ++ record { seat = seat; kind = kind } ∷ []) new
at_entered at kind holds enters = at_later at kind (later_entered holds kind enters) (own_entered holds kind enters)

-- what its entries say of it

pub wanted : {script : Plan} {own : List Entry} {d : DeskView} → IsAtDesk script 0 own d → (kind : Kind) → is_wanted script own kind ≡ true → IsWanted d kind
wanted {own = own} {d = d} at kind is =
    let own_is : own_entries 0 d.seen ≡ own = ap (λ k. own_entries k d.seen) (sym at.seat_is) ∙ at.own_is in
    record { driver = at.seat_is; wanted = rw (at.script_is, own_is) is }

pub free : {script : Plan} {seat : ℕ} {own : List Entry} {d : DeskView} → IsAtDesk script seat own d → 1 ≤ seat → seat ≤ script.workers
    → is_free own seat ≡ true → IsFree d
free at some known is = record {
  worker = rw at.seat_is some;
  known = rw (at.seat_is, at.script_is) known;
  free = rw at.own_is (rw at.seat_is is);
}

pub next : {script : Plan} {seat : ℕ} {own : List Entry} {d : DeskView} → IsAtDesk script seat own d → (step : Step) → seat ≤ script.workers
    → next_act script own seat ≡ Some step → IsNextAct (as_seen d) d.seat (act_of step)
next at step known is = record {
  known = rw (at.seat_is, at.script_is) known;
  step = step;
  is_next = rw (at.own_is, at.script_is, at.seat_is) is;
  is_act = refl;
}

pub last : {script : Plan} {seat : ℕ} {own : List Entry} {d : DeskView} → IsAtDesk script seat own d → (task : ℕ) → seat ≤ script.workers
    → running own seat ≡ Some (record { task = task; home = 0; found = 0; is_main = false })
    → acts_done own seat ≡ length (filter is_act (steps_of script task)) → IsLast (as_seen d) d.seat task
last at task known runs all = record {
  known = rw (at.seat_is, at.script_is) known;
  runs = rw (at.own_is, at.seat_is) runs;
  all_entered = rw (at.own_is, at.seat_is, at.script_is) all;
}

-- Seats that are drawn.

pub splits_first : (key : TurnKey) (n : ℕ) (first after : SeatView) → first ≡ driver_seat key n → after ≡ record first { made = first.made + 1 }
    → after ≡ driver_seat key (n + 1)
splits_first key n first after first_is after_is = after_is ∙ ap (λ (s : SeatView). record s { made = s.made + 1 }) first_is

pub splits_second : (key : TurnKey) (n : ℕ) (first second : SeatView) → first ≡ driver_seat key n
    → second ≡ record { of = first.of; number = first.made; seen = first.seen; mine = []; made = 0; loads = 0; last = 0; turns = 0; told = first.told }
    → second ≡ worker_seat key n
splits_second key n first second first_is second_is = second_is ∙ ap (λ (s : SeatView). record {
  of = s.of;
  number = s.made;
  seen = s.seen;
  mine = [];
  made = 0;
  loads = 0;
  last = 0;
  turns = 0;
  told = s.told;
}) first_is

-- Workers that find nothing.

-- the same seat at a desk, which is free
pub record Waits (start : SeatView) (now : SitterView) : Type 0 where
  pub table_is : now.seat.of.table ≡ start.of.table
  pub script_is : now.seat.of.basis ≡ start.of.basis
  pub number_is : now.seat.number ≡ start.number
  pub free : IsFree (desk_of now)

-- so it is at the start
pub waits_first : (key : TurnKey) (s : SeatView) (d : SitterView) → d.seat ≡ s → CanAsk key s → Waits s d
waits_first key s d same can = record {
  table_is = ap (λ (x : SeatView). x.of.table) same;
  script_is = ap (λ (x : SeatView). x.of.basis) same;
  number_is = ap (λ (x : SeatView). x.number) same;
  free = subst (λ (x : SeatView). IsFree (desk_of (record { seat = x; rests = false }))) (sym same) can.free;
}

-- it waits on where nothing was entered
pub waits_on : (start : SeatView) (old new : SitterView) (past : List Entry) → Waits start old → Holds (desk_of old) past (desk_of new)
    → as_seen (desk_of new) ≡ view_at (desk_of old) past → Waits start new
waits_on start old new past waits holds kept =
    let same : own_entries new.seat.number new.seat.seen ≡ own_entries old.seat.number old.seat.seen
    = rw (holds.seat_is, ap (λ v. v.history) kept) holds.own in
    let was = waits.free in record {
      table_is = ap (λ o. o.table) holds.origin_is ∙ waits.table_is;
      script_is = holds.script_is ∙ waits.script_is;
      number_is = holds.seat_is ∙ waits.number_is;
      free = record {
        worker = rw holds.seat_is was.worker;
        known = rw (holds.seat_is, holds.script_is) was.known;
        free = rw same (rw holds.seat_is was.free);
      };
    }

-- a worker's seat that was just drawn may ask
pub can_ask : (key : TurnKey) (script : Plan) (n : ℕ) (s : SeatView) → s ≡ worker_seat key n → key.basis ≡ script → 1 ≤ n → n ≤ script.workers → CanAsk key s
unfolding holding running
can_ask key script n s is basis some known = record {
  of_is = ap (λ (x : SeatView). x.of) is;
  known = rw (is, basis) known;
  free = rw is (record { worker = some; known = rw basis known; free = refl });
}
