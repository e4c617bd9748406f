-- A task that a seat has taken: while its steps are done, and behind its end.
-- Cited by `pump`, `do_steps`, `serve_or`, `Pump`.
use Rattle.task_body.proofs.Progress.{computes_first}
use Rattle.std.proofs.Common.{◌≡◌, ◌≢◌, ℕ, ◌+◌, ◌<◌, ◌≤◌, Bool, true, false, List, [], ◌∷◌}
use Rattle.std.proofs.Common.{◌++◌, length, take, refl, sym, ap, ◌∙◌, append-nil, append_assoc, Option, Some, None, arith}
use Rattle.std.specs.Prelude.{filter, is_none}
use Rattle.std.specs.List.{AllByRecursion}
use Rattle.std.proofs.lemmas.Bool.{and_parts}
use Rattle.std.proofs.lemmas.List.{length-append}
use Rattle.std.proofs.lemmas.Option.{same_Some}
use Rattle.list_laws.proofs.Elements.{AllByRecursion-map}
use Rattle.list_laws.proofs.Places.{AllByRecursion-push, slice_get_seam}
use Rattle.list_laws.proofs.Values.{eqb-same}
use Rattle.task_base.specs.Steps.{is_act}
use Rattle.task_base.specs.declared.entry.Entry.{Entry}
use Rattle.task_base.specs.declared.entry.Kind.{Kind}
use Rattle.task_base.specs.declared.entry.Kind.TheVariants as kinds
use Rattle.task_base.specs.declared.step.Step.{Step}
use Rattle.task_base.specs.declared.step.Step.TheVariants as steps
use Rattle.task_base.specs.Entries.{is_acting}
use Rattle.task_model.specs.Seats.{Running, running, running_after, holding, is_free, acts_done, acts_after, steps_of}
use Rattle.task_model.proofs.Growth.{running_push, holding_push}
use Rattle.hist_model.specs.Views.{IsSeatsAssignment, own_entries}
use Rattle.task_body.specs.Bodies.{AssignmentView}
use Rattle.task_body.specs.Progress.{Progress}
use Rattle.task_body.specs.declared.act.Act.{Act}
use Rattle.task_body.specs.declared.act.Act.TheVariants as acts
use Rattle.env_core.specs.Calls.{IsNextAct, CanEnd, CanEndMain, HasTaken, HasTakenMain, EntersAct, act_of, entry_of}
use Rattle.env_core.specs.Views.{Enters}
use Rattle.env_crew.specs.Desk.{DeskView, IsLater, Holds, as_seen, mine, view_at}
use Rattle.env_crew.specs.Serving.{IsFree}
use Rattle.env_crew.specs.Tasks.{HasDoneActs, IsUnderWay, Parted}
use Rattle.env_crew.proofs.Holds.{later_refl, later_trans, later_entered, mine_entered, running_entered, acts_entered}
use Rattle.env_crew.proofs.Rests.{KeepsHolding, KeepsRunning, holding_stays, running_stays}

-- Nothing is taken.

-- a worker's desk that runs and holds nothing again is free as before
pub still_free : (old new : DeskView) → IsFree old → new.script ≡ old.script → new.seat ≡ old.seat → is_free (mine new) old.seat ≡ true → IsFree new
still_free old new free script seat rests = record {
  worker = rw seat free.worker;
  known = rw (seat, script) free.known;
  free = ap (λ s. is_free (mine new) s) seat ∙ rests;
}

-- The take.

-- a seat that has taken a task by its entry is at it
taken_by : (old new : DeskView) (past : List Entry) (work : AssignmentView) (kind : Kind) → old.seat ≤ old.script.workers
    → ((n : ℕ) → acts_after n kind ≡ 0) → Holds old past new → Enters (view_at old past) (as_seen new) old.seat kind
    → IsSeatsAssignment new.script (own_entries old.seat new.seen) old.seat work.task work.home work.found work.whole → work.rest ≡ work.whole
    → IsUnderWay new work
taken_by old new past work kind known begins holds enters seats rest = record {
  known = rw (holds.seat_is, holds.script_is) known;
  seats = rw holds.seat_is seats;
  entered = record {
    done = [];
    parted = ap (filter is_act) (sym rest);
    count = sym (acts_entered holds kind enters ∙ begins (acts_done (mine old) old.seat));
  };
}

-- a worker has taken a task of the pool
pub under_way_behind_take : (old new : DeskView) (past : List Entry) (work : AssignmentView) → IsFree old → Holds old past new
    → HasTaken (view_at old past) (as_seen new) old.seat work → IsUnderWay new work
under_way_behind_take old new past work free holds taken =
    taken_by old new past work (kinds.Take work.task work.home work.found) free.known (λ n. refl) holds taken.enters taken.seats taken.rest_is

-- the driver has taken a main task
pub under_way_behind_main_take : (old new : DeskView) (past : List Entry) (work : AssignmentView) → old.seat ≡ 0 → Holds old past new
    → HasTakenMain (view_at old past) (as_seen new) old.seat work → IsUnderWay new work
under_way_behind_main_take old new past work driver holds taken =
    taken_by old new past work (kinds.MainTake work.task work.home work.found) (omega (arith, driver)) (λ n. refl) holds taken.enters taken.seats
    taken.rest_is

-- The steps.

-- the seat is as far where no act step was done
goes_on : (now : DeskView) (old new : AssignmentView) → IsUnderWay now old → new ≡ record old { value = new.value; rest = new.rest }
    → filter is_act old.rest ≡ filter is_act new.rest → IsUnderWay now new
goes_on now old new under same none = rw same (record {
  known = under.known;
  seats = under.seats;
  entered = record {
    done = under.entered.done;
    parted = under.entered.parted ∙ ap (λ s. under.entered.done ++ s) none;
    count = under.entered.count;
  };
})

-- compute steps are no entries
pub under_way_behind_steps : (now : DeskView) (old new : AssignmentView) (n : ℕ) → IsUnderWay now old
    → Progress old.rest old.value (acts.Did n) new.rest new.value → new ≡ record old { value = new.value; rest = new.rest } → IsUnderWay now new
under_way_behind_steps now old new n under computes same =
    goes_on now old new under same (computes_first n old.rest computes.computed ∙ ap (filter is_act) (sym computes.dropped))

-- nor is it an entry that no step is left
pub under_way_at_last : (now : DeskView) (old new : AssignmentView) → IsUnderWay now old
    → Progress old.rest old.value acts.Finished new.rest new.value → new ≡ record old { value = new.value; rest = new.rest } → IsUnderWay now new
under_way_at_last now old new under rests same = goes_on now old new under same (ap (filter is_act) (rests.none ∙ sym rests.none_later))

-- The act steps.

-- the first step is an act step, which is told
record IsAct (rest : List Step) (act : Act) (later : List Step) : Type 0 where
  step : Step
  first : rest ≡ step ∷ later
  acts : is_act step ≡ true
  told : act ≡ act_of step

is_act_first : (rest : List Step) (value : ℕ) (act : Act) (later : List Step) (left : ℕ) → Progress rest value act later left
    → ((n : ℕ) → act ≢ acts.Did n) → act ≢ acts.Finished → IsAct rest act later
is_act_first rest value (acts.Did n) later left progress no_steps unfinished = absurd (no_steps n refl)
is_act_first rest value acts.Finished later left progress no_steps unfinished = absurd (unfinished refl)
is_act_first rest value (acts.Post task runner delay) later left progress no_steps unfinished =
    record { step = steps.Post task runner delay; first = progress.reached; acts = refl; told = refl }
is_act_first rest value (acts.Main task queue delay) later left progress no_steps unfinished =
    record { step = steps.Main task queue delay; first = progress.reached; acts = refl; told = refl }
is_act_first rest value (acts.Enter scope) later left progress no_steps unfinished =
    record { step = steps.Block scope; first = progress.reached; acts = refl; told = refl }
is_act_first rest value acts.Leave later left progress no_steps unfinished =
    record { step = steps.Unblock; first = progress.reached; acts = refl; told = refl }

-- the act steps are those that were entered, this one, and those of the steps that come later
parted_at : (whole rest later : List Step) (n : ℕ) (act : Act) (entered : Parted whole rest n) (is : IsAct rest act later)
    → filter is_act whole ≡ entered.done ++ is.step ∷ filter is_act later
parted_at whole rest later n act entered is = entered.parted ∙ rw (is.first, is.acts) refl

-- the act that a step answers is the next one
pub next_act_is : (now : DeskView) (work : AssignmentView) (act : Act) (value : ℕ) (later : List Step) (left : ℕ) → IsUnderWay now work
    → Progress work.rest value act later left → ((n : ℕ) → act ≢ acts.Did n) → act ≢ acts.Finished → IsNextAct (as_seen now) now.seat act
next_act_is now work act value later left under progress no_steps unfinished =
    let is = is_act_first work.rest value act later left progress no_steps unfinished in
    let parted = parted_at work.whole work.rest later (acts_done (mine now) now.seat) act under.entered is in
    record {
      known = under.known;
      step = is.step;
      is_next = rw (under.seats.runs, ← under.seats.whole_is, parted, ← under.entered.count)
          (slice_get_seam under.entered.done is.step (filter is_act later));
      is_act = is.told;
    }

-- the entry of an act is one of an act step
acting : (t : ℕ) (act : Act) (ok : Bool) (kind : Kind) → entry_of t act ok ≡ Some kind → is_acting kind ≡ true
acting t (acts.Post task runner delay) ok kind is = rw (← same_Some _ kind is) refl
acting t (acts.Main task queue delay) ok kind is = rw (← same_Some _ kind is) refl
acting t (acts.Enter scope) ok kind is = rw (← same_Some _ kind is) refl
acting t acts.Leave ok kind is = rw (← same_Some _ kind is) refl
acting t act ok kind is = absurd cc

-- it leaves what the seat runs
acting_runs : (kind : Kind) → is_acting kind ≡ true → KeepsRunning kind
acting_runs (kinds.Post task runner delay ok) acts now = refl
acting_runs (kinds.Main task queue delay ok) acts now = refl
acting_runs (kinds.Enter task scope) acts now = refl
acting_runs (kinds.Leave task) acts now = refl
acting_runs kind acts now = absurd cc

-- and what it holds
acting_holds : (kind : Kind) → is_acting kind ≡ true → KeepsHolding kind
acting_holds (kinds.Post task runner delay ok) acts now = refl
acting_holds (kinds.Main task queue delay ok) acts now = refl
acting_holds (kinds.Enter task scope) acts now = refl
acting_holds (kinds.Leave task) acts now = refl
acting_holds kind acts now = absurd cc

-- and counts
acting_counts : (kind : Kind) (n : ℕ) → is_acting kind ≡ true → acts_after n kind ≡ n + 1
acting_counts (kinds.Post task runner delay ok) n acts = refl
acting_counts (kinds.Main task queue delay ok) n acts = refl
acting_counts (kinds.Enter task scope) n acts = refl
acting_counts (kinds.Leave task) n acts = refl
acting_counts kind n acts = absurd cc

-- the act was entered
pub under_way_behind_act : (now later : DeskView) (past : List Entry) (old new : AssignmentView) (act : Act) (ok : Bool) → IsUnderWay now old
    → Progress old.rest old.value act new.rest new.value → new ≡ record old { value = new.value; rest = new.rest } → ((n : ℕ) → act ≢ acts.Did n)
    → act ≢ acts.Finished → Holds now past later → EntersAct (view_at now past) (as_seen later) now.seat act ok → IsUnderWay later new
under_way_behind_act now later past old new act ok under progress same no_steps unfinished holds entered =
    let kind = entered.kind in
    let acts = acting entered.now.task act ok kind entered.kind_is in
    let first = is_act_first old.rest old.value act new.rest new.value progress no_steps unfinished in
    let n = acts_done (mine now) now.seat in
    rw same (record {
      known = rw (holds.seat_is, holds.script_is) under.known;
      seats = record {
        now = under.seats.now;
        runs = running_entered holds kind entered.enters ∙ acting_runs kind acts (running (mine now) now.seat) ∙ under.seats.runs;
        task_is = under.seats.task_is;
        home_is = under.seats.home_is;
        found_is = under.seats.found_is;
        whole_is = under.seats.whole_is ∙ ap (λ s. steps_of s under.seats.now.task) (sym holds.script_is);
      };
      entered = record {
        done = under.entered.done ++ first.step ∷ [];
        parted = parted_at old.whole old.rest new.rest n act under.entered first
            ∙ sym (append_assoc under.entered.done (first.step ∷ []) (filter is_act new.rest));
        count = length-append under.entered.done (first.step ∷ []) ∙ ap (λ m. m + 1) under.entered.count
            ∙ sym (acts_entered holds kind entered.enters ∙ acting_counts kind n acts);
      };
    })

-- at first no act step is done
pub no_acts_done : (d : DeskView) → HasDoneActs d d
no_acts_done d = record { later = later_refl d; made = []; grows = sym (append-nil (mine d)); acts = tt }

-- and then one more
pub one_act_more : (start now later : DeskView) (past : List Entry) (act : Act) (ok : Bool) → HasDoneActs start now → Holds now past later
    → EntersAct (view_at now past) (as_seen later) now.seat act ok → HasDoneActs start later
one_act_more start now later past act ok did holds entered =
    let e : Entry = record { seat = now.seat; kind = entered.kind } in
    record {
      later = later_trans start now later did.later (later_entered holds entered.kind entered.enters);
      made = did.made ++ e ∷ [];
      grows = mine_entered holds entered.kind entered.enters ∙ ap (λ own. own ++ e ∷ []) did.grows ∙ append_assoc (mine start) did.made (e ∷ []);
      acts = AllByRecursion-push (λ (x : Entry). is_acting x.kind ≡ true) did.made e did.acts
          (acting entered.now.task act ok entered.kind entered.kind_is);
    }

-- The end.

-- all act steps were entered where no step is left
all_entered : (now : DeskView) (work : AssignmentView) → IsUnderWay now work → work.rest ≡ []
    → acts_done (mine now) now.seat ≡ length (filter is_act work.whole)
all_entered now work under none =
    sym (ap length under.entered.parted ∙ rw none (ap length (append-nil under.entered.done)) ∙ under.entered.count)

-- a task of the pool with no step left may end
pub may_end : (now : DeskView) (work : AssignmentView) (under : IsUnderWay now work) → under.seats.now.is_main ≡ false → work.rest ≡ []
    → CanEnd (as_seen now) now.seat work
may_end now work under pool none = record {
  known = under.known;
  seats = under.seats;
  is_pool = pool;
  none_left = none;
  all_entered = all_entered now work under none;
}

-- and so may a main task
pub may_end_main : (now : DeskView) (work : AssignmentView) (under : IsUnderWay now work) → under.seats.now.is_main ≡ true → work.rest ≡ []
    → CanEndMain (as_seen now) now.seat work
may_end_main now work under main none =
    record { seats = under.seats; is_main = main; none_left = none; all_entered = all_entered now work under none }

-- a task that was taken by this entry is still the one that runs, behind its act steps
still_runs : (old taken done : DeskView) (past : List Entry) (kind : Kind) (now : Running) (work : AssignmentView)
    → ((before : Option Running) → running_after before kind ≡ Some now) → Holds old past taken → Enters (view_at old past) (as_seen taken) old.seat kind
    → HasDoneActs taken done → (under : IsUnderWay done work) → under.seats.now ≡ now
still_runs old taken done past kind now work starts holds enters did under = same_Some under.seats.now now (sym under.seats.runs
    ∙ ap (λ s. running (mine done) s) did.later.seat_is ∙ ap (λ own. running own taken.seat) did.grows
    ∙ running_stays (mine taken) did.made taken.seat (AllByRecursion-map (λ (e : Entry). is_acting e.kind ≡ true) (λ (e : Entry). KeepsRunning e.kind) did.made
    (λ e acts. acting_runs e.kind acts) did.acts)
    ∙ running_entered holds kind enters ∙ starts (running (mine old) old.seat))

-- the task of the pool that a worker took is still one
pub still_pool : (old taken done : DeskView) (past : List Entry) (begun work : AssignmentView) → Holds old past taken
    → HasTaken (view_at old past) (as_seen taken) old.seat begun → HasDoneActs taken done → (under : IsUnderWay done work)
    → under.seats.now.is_main ≡ false
still_pool old taken done past begun work holds took did under = ap (λ (w : Running). w.is_main)
    (still_runs old taken done past (kinds.Take begun.task begun.home begun.found)
    (record { task = begun.task; home = begun.home; found = begun.found; is_main = false }) work (λ before. refl) holds took.enters did under)

-- the main task that the driver took is still one
pub still_main : (old taken done : DeskView) (past : List Entry) (begun work : AssignmentView) → Holds old past taken
    → HasTakenMain (view_at old past) (as_seen taken) old.seat begun → HasDoneActs taken done → (under : IsUnderWay done work)
    → under.seats.now.is_main ≡ true
still_main old taken done past begun work holds took did under = ap (λ (w : Running). w.is_main)
    (still_runs old taken done past (kinds.MainTake begun.task begun.home begun.found)
    (record { task = begun.task; home = begun.home; found = begun.found; is_main = true }) work (λ before. refl) holds took.enters did under)

-- The whole.

-- the seat took a task by one entry, did its act steps, and ended it by another
pub record HasWorked (old new : DeskView) (take end : Kind) : Type 0 where
  pub later : IsLater old new
  pub turned : old.turns < new.turns
  pub acts : List Entry
  pub acting : AllByRecursion (λ e. is_acting e.kind ≡ true) acts
  pub grows : mine new ≡ mine old ++ ((record { seat = old.seat; kind = take } ∷ acts) ++ record { seat = old.seat; kind = end } ∷ [])

pub has_worked : (old taken done new : DeskView) (past last : List Entry) (take end : Kind) → Holds old past taken
    → Enters (view_at old past) (as_seen taken) old.seat take → HasDoneActs taken done → Holds done last new
    → Enters (view_at done last) (as_seen new) done.seat end → HasWorked old new take end
has_worked old taken done new past last take end took enters did ended leaves =
    let t : Entry = record { seat = old.seat; kind = take } in
    let e : Entry = record { seat = old.seat; kind = end } in
    record {
      later = later_trans old taken new (later_entered took take enters) (later_trans taken done new did.later (later_entered ended end leaves));
      turned = omega (arith, took.turned, did.later.turned, ended.turned);
      acts = did.made;
      acting = did.acts;
      grows = mine_entered ended end leaves
          ∙ ap (λ s. mine done ++ (record { seat = s; kind = end }) ∷ []) (did.later.seat_is ∙ took.seat_is)
          ∙ ap (λ own. own ++ e ∷ []) (did.grows ∙ ap (λ own. own ++ did.made) (mine_entered took take enters) ∙ append_assoc (mine old) (t ∷ []) did.made)
          ∙ append_assoc (mine old) (t ∷ did.made) (e ∷ []);
    }

module _ {old new : DeskView} {take end : Kind} (worked : HasWorked old new take end) where
  t : Entry
  t = record { seat = old.seat; kind = take }

  e : Entry
  e = record { seat = old.seat; kind = end }

  -- it then has more entries
  pub longer_behind_work : length (mine old) < length (mine new)
  unfolding t e
  longer_behind_work = omega (
    arith,
    ap length worked.grows ∙ length-append (mine old) ((t ∷ worked.acts) ++ e ∷ []),
    length-append (t ∷ worked.acts) (e ∷ []),
  )

  -- a seat that ran and held nothing runs and holds nothing again
  pub rests_behind_work : KeepsHolding take → KeepsHolding end → ((before : Option Running) → running_after before end ≡ None)
      → is_free (mine old) old.seat ≡ true → is_free (mine new) old.seat ≡ true
  unfolding t e
  rests_behind_work takes keeps ends free =
      let own = mine old ++ (t ∷ worked.acts) in
      let grows : mine new ≡ own ++ e ∷ [] = worked.grows ∙ sym (append_assoc (mine old) (t ∷ worked.acts) (e ∷ [])) in
      let ran : running (mine new) old.seat ≡ None =
      ap (λ all. running all old.seat) grows ∙ running_push own e old.seat ∙ rw (eqb-same old.seat) (ends (running own old.seat)) in
      let held : holding (mine new) old.seat ≡ holding (mine old) old.seat =
      ap (λ all. holding all old.seat) grows
      ∙ holding_push own e old.seat ∙ rw (eqb-same old.seat) (keeps (holding own old.seat))
      ∙ holding_stays (mine old) (t ∷ worked.acts) old.seat (
        takes,
        AllByRecursion-map (λ (x : Entry). is_acting x.kind ≡ true)
            (λ (x : Entry). KeepsHolding x.kind) worked.acts (λ x acts. acting_holds x.kind acts) worked.acting,
      ) in
      rw (ran, held) (and_parts (is_none (running (mine old) old.seat)) (is_none (holding (mine old) old.seat)) free).1
