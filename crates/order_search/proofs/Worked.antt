-- Events and times that were worked out by hand, checked by computing.
use Rattle.std.proofs.Common.{◌≡◌, ℕ, Bool, ◌-◌, ◌^◌, true, false, [], ◌∷◌, Some, None, refl}
use Rattle.task_base.specs.Plan.{Plan}
use Rattle.task_base.specs.declared.entry.Entry.{Entry}
use Rattle.task_base.specs.declared.entry.Kind.TheVariants as kinds
use Rattle.task_model.specs.Seats.{holding, is_quiet, running}
use Rattle.hist_model.specs.Script.{current, is_finished}
use Rattle.order_model.specs.declared.event.Event.{Event}
use Rattle.order_model.specs.Orders.{in_time, is_before, is_ended, may_precede, own_events}
use Rattle.order_search.specs.Seats.{earliest, known_time, latest, least_latest}

-- an event of a seat, between two times
abbrev between : ℕ → ℕ → ℕ → Event
between seat from to = record { entry = record { seat = seat; kind = kinds.Idle }; span = Some (record { from = from; to = to }) }

-- an event of a seat with no clock
abbrev untimed : ℕ → Event
untimed seat = record { entry = record { seat = seat; kind = kinds.Idle }; span = None }

-- ---- the events of a seat

seat_0_has_two : own_events 0 (between 0 1 2 ∷ between 1 3 4 ∷ between 0 5 6 ∷ []) ≡ between 0 1 2 ∷ between 0 5 6 ∷ []
seat_0_has_two = refl

seat_2_has_none : own_events 2 (between 0 1 2 ∷ between 1 3 4 ∷ between 0 5 6 ∷ []) ≡ []
seat_2_has_none = refl

-- ---- times

-- over at 2, the other begins at 3
over_before : is_before (between 0 1 2) (between 1 3 4) ≡ true
over_before = refl

-- both may have come at 3
both_at_3 : is_before (between 0 1 3) (between 1 3 4) ≡ false
both_at_3 = refl

-- no clock, no order
no_clock : is_before (untimed 0) (between 1 3 4) ≡ false
no_clock = refl

in_their_order : in_time [] (between 0 1 2 ∷ untimed 1 ∷ between 2 3 4 ∷ []) ≡ true
in_their_order = refl

turned : in_time [] (between 2 3 4 ∷ untimed 1 ∷ between 0 1 2 ∷ []) ≡ false
turned = refl

-- what is left has come before
left_too_long : in_time (between 0 1 2 ∷ []) (between 2 3 4 ∷ []) ≡ false
left_too_long = refl

-- the least latest time is 2, so what begins at 2 may come before these, and what begins at 3 may not
least_is_2 : least_latest (between 0 1 5 ∷ untimed 0 ∷ between 0 1 2 ∷ []) ≡ 2
least_is_2 = refl

begins_at_2 : may_precede (between 1 2 9) (between 0 1 5 ∷ untimed 0 ∷ between 0 1 2 ∷ []) ≡ true
begins_at_2 = refl

begins_at_3 : may_precede (between 1 3 9) (between 0 1 5 ∷ untimed 0 ∷ between 0 1 2 ∷ []) ≡ false
begins_at_3 = refl

-- what has no clock never came before, and nothing came before it; it is merged first
latest_of_untimed : latest (untimed 0).span ≡ 2 ^ 64 - 1
latest_of_untimed = refl

earliest_of_untimed : earliest (untimed 0).span ≡ 0
earliest_of_untimed = refl

untimed_first : known_time (untimed 0).span ≡ 0
untimed_first = refl

-- ---- where a log may end

-- a plan of two workers and one task
abbrev two_workers : Bool → Plan
two_workers is_open = record {
  workers = 2;
  foreground = 2;
  foreground_best = 1;
  background = 0;
  threshold = 0;
  runners = [];
  queues = [];
  tasks = [] ∷ [];
  jobs = [];
  actions = [];
  is_open = is_open;
}

abbrev taken : Entry
taken = record { seat = 1; kind = kinds.Take 0 0 0 }

abbrev done_with : Entry
done_with = record { seat = 1; kind = kinds.End 0 0 }

-- of an open plan, at once; but not while seat 1 runs a task
ends_at_once : is_ended (two_workers true) [] ≡ true
unfolding is_quiet running holding
ends_at_once = refl

ends_not_amid_work : is_ended (two_workers true) (taken ∷ []) ≡ false
unfolding is_quiet running holding
ends_not_amid_work = refl

ends_after_work : is_ended (two_workers true) (taken ∷ done_with ∷ []) ≡ true
unfolding is_quiet running holding
ends_after_work = refl

-- of a script, where its actions are done too
script_ends_not_amid_work : is_ended (two_workers false) (taken ∷ []) ≡ false
unfolding is_quiet running holding is_finished current
script_ends_not_amid_work = refl
