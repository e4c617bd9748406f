-- In every legal history each seat does one thing at a time.
-- Cited by `Laws/BySound`, `Laws/Claims`, `Laws/Due`, `Laws/HoldsApart`, `Laws/JobEntries`, `Laws/LegalPast`, `Laws/OneSeat`,
-- `Laws/OpenPlans`, `Laws/Progress/Coming`, `Laws/Progress/Driver`, `Laws/Progress/Ends`, `Laws/Progress/Tasks`, `Laws/Singly`,
-- `Laws/Wants`, `Laws/Ways`, `seats.rt`, `env_core`, `env_explain`, `env_step`, `live_core`, `next_entry`, `run_summary`, `situation`,
-- `task_reply`, `trace_json`.
use Rattle.std.proofs.Common.{◌≡◌, ℕ, ◌≤◌, Bool, true, false, cond, eqb, List, [], ◌∷◌, ◌++◌, length, refl}
use Rattle.std.proofs.Common.{sym, ap, subst, ◌∙◌, Option, Some, None, ◌⊎◌, inl, inr, ⊎_elim, arith}
use Rattle.std.specs.Prelude.{◌&&◌, ◌||◌, is_none}
use Rattle.std.proofs.lemmas.Bool.{eqb-true, eqb-false, and_parts, both_ways}
use Rattle.std.proofs.lemmas.Option.{none-some, same_Some}
use Rattle.task_base.specs.Plan.{Plan}
use Rattle.task_base.specs.declared.entry.Entry.{Entry}
use Rattle.task_base.specs.declared.entry.Kind.{Kind}
use Rattle.task_base.specs.declared.entry.Kind.TheVariants as kinds
use Rattle.task_base.specs.declared.entry.JobReply.{JobReply}
use Rattle.task_base.specs.declared.script.Action.{Action}
use Rattle.task_base.specs.declared.script.Action.TheVariants as actions
use Rattle.task_model.specs.Seats.{Running, Holding, running, running_after, holding, holding_after, is_free}
use Rattle.task_model.specs.MainQueues.{open_fronts}
use Rattle.task_model.specs.Cells.{main_cell_of}
use Rattle.hist_model.specs.Views.{own_entries}
use Rattle.hist_model.specs.Open.{IsClosed, IsOpen, is_tick}
use Rattle.hist_model.specs.Script.{Current, current, wants, is_wanted}
use Rattle.hist_model.specs.Laws.Agenda.{completes}
use Rattle.hist_model.specs.Allowed.{by_script, may_come}
use Rattle.hist_model.specs.Legal.{IsLegal}
use Rattle.hist_model.specs.Laws.Consistent.{is_pump, is_join, DoesOneThing}
use Rattle.hist_model.proofs.Laws.Agenda.{current_stays}
use Rattle.hist_model.proofs.Laws.Legal.{entry_induction}
use Rattle.hist_model.proofs.Laws.Open.{IsServed, closed_or_open, closed_wanted, open_wanted}
use Rattle.hist_model.proofs.Laws.Choice.{Found, found}
use Rattle.pool_laws.proofs.Seats.Whose.{RunsBehind, runs_behind, HoldsBehind, holds_behind}
use Rattle.hist_model.proofs.Laws.Takes.{IsReadyWorker, by_driver, take_is, job_take_is}
use Rattle.hist_model.proofs.Laws.Own.{running_own, holding_own, own_entries_push}

-- what the driver is at
abbrev At : Plan → List Entry → (Action → Bool) → Type 0
At script past test = (c : Current) × (current script (own_entries 0 past) ≡ Some c) × (test c.action ≡ true)

-- what a closed plan wants is wanted by the action that the driver is at
pub wanted_by : (script : Plan) (past : List Entry) (seat : ℕ) (kind : Kind) → IsClosed script → by_script script past seat kind ≡ true
    → Found Current (λ c. wants (own_entries 0 past) c.action c.made kind) (current script (own_entries 0 past))
unfolding by_script
wanted_by script past seat kind closed h = found (λ c. wants (own_entries 0 past) c.action c.made kind) (current script (own_entries 0 past))
    (sym (closed_wanted script (own_entries 0 past) kind closed) ∙ (and_parts (eqb seat 0) (is_wanted script (own_entries 0 past) kind) h).1)

-- what an open plan wants, its driver may enter
pub served_by : (script : Plan) (past : List Entry) (seat : ℕ) (kind : Kind) → IsOpen script → by_script script past seat kind ≡ true
    → IsServed script (own_entries 0 past) kind
unfolding by_script
served_by script past seat kind opened h = open_wanted script (own_entries 0 past) kind opened
    (and_parts (eqb seat 0) (is_wanted script (own_entries 0 past) kind) h).1

-- but for a tick, it runs and holds nothing
pub served_free : (script : Plan) (past : List Entry) (seat : ℕ) (kind : Kind) → IsOpen script → is_tick kind ≡ false → by_script script past seat kind ≡ true
    → is_free past 0 ≡ true
served_free script past seat kind opened no_tick h = rw (← running_own past 0, ← holding_own past 0)
    (subst (λ b. (b || is_free (own_entries 0 past) 0) ≡ true) no_tick (served_by script past seat kind opened h).free)

-- the driver at one action is not at another
not_at : (script : Plan) (past : List Entry) → At script past is_pump → At script past is_join → ⊥
not_at script past (c, c_is, pump) (d, d_is, join) = apart c.action pump (ap (λ (x : Current). is_join x.action) (same_Some c d (sym c_is ∙ d_is)) ∙ join)
  where
    apart : (action : Action) → is_pump action ≡ true → is_join action ≡ true → ⊥
    apart (actions.Pump n) p j = absurd cc
    apart action p j = absurd cc

-- main tasks are wanted by pumps alone, and items by joins
pump_wants : (own : List Entry) (action : Action) (made : List Entry) (task queue value : ℕ) → wants own action made (kinds.MainTake task queue value) ≡ true
    → is_pump action ≡ true
pump_wants own (actions.Pump n) made task queue value h = refl
pump_wants own action made task queue value h = absurd cc

pub join_wants : (own : List Entry) (action : Action) (made : List Entry) (job id item : ℕ) → wants own action made (kinds.JobTake job id item) ≡ true
    → is_join action ≡ true
join_wants own (actions.Join j) made job id item h = refl
join_wants own action made job id item h = absurd cc

-- one more entry of the driver that does not complete its action leaves it there
stays_at : (script : Plan) (past : List Entry) (kind : Kind) (test : Action → Bool) (c : Current) → current script (own_entries 0 past) ≡ Some c
    → test c.action ≡ true → completes c.action c.made kind ≡ false → At script (past ++ record { seat = 0; kind = kind } ∷ []) test
stays_at script past kind test c is passes goes_on = (
  record { action = c.action; made = c.made ++ record { seat = 0; kind = kind } ∷ [] },
  ap (current script) (own_entries_push past (record { seat = 0; kind = kind }) 0)
      ∙ current_stays script (own_entries 0 past) (record { seat = 0; kind = kind }) c is goes_on,
  passes,
)

-- an entry of a worker leaves the driver where it is
other_at : (script : Plan) (past : List Entry) (seat : ℕ) (kind : Kind) (test : Action → Bool) → eqb seat 0 ≡ false → At script past test
    → At script (past ++ record { seat = seat; kind = kind } ∷ []) test
other_at script past seat kind test other (c, is, passes) = (
  c,
  ap (current script) (own_entries_push past (record { seat = seat; kind = kind }) 0
      ∙ ap (λ b. cond b (own_entries 0 past ++ record { seat = seat; kind = kind } ∷ []) (own_entries 0 past)) other) ∙ is,
  passes,
)

-- what a pump goes on through
pump_goes_on : (script : Plan) (past : List Entry) (kind : Kind) (c : Current) (w v : Running) → IsClosed script → is_pump c.action ≡ true
    → running past 0 ≡ Some w
    → running_after (Some w) kind ≡ Some v → may_come script past 0 kind ≡ true → completes c.action c.made kind ≡ false
unfolding may_come
pump_goes_on script past kind c w v closed pump runs after h = at c.action c.made kind pump after
    (λ none. no_main_none (and_parts (by_script script past 0 kinds.MainNone) (eqb (length (open_fronts script past)) 0) (ap (may_come script past 0) none
    ∙ h)).0)
  where
    no_main_none : by_script script past 0 kinds.MainNone ≡ true → ⊥
    no_main_none wanted =
        let d = wanted_by script past 0 kinds.MainNone closed wanted in
        needs (own_entries 0 past) d.value.action d.value.made (running_own past 0 ∙ runs) d.passes
      where
        needs : (own : List Entry) (action : Action) (made : List Entry) → running own 0 ≡ Some w → wants own action made kinds.MainNone ≡ true → ⊥
        needs own (actions.Pump n) made is k = both_ways (is_none (running own 0)) (ap is_none is) k
        needs own action made is k = absurd cc

    at : (action : Action) (made : List Entry) (k : Kind) → is_pump action ≡ true → running_after (Some w) k ≡ Some v → (kinds.MainNone ≡ k → ⊥)
        → completes action made k ≡ false
    at (actions.Pump n) made kinds.MainNone p r none = absurd (none refl)
    at (actions.Pump n) made (kinds.MainEnd task left) p r none = absurd (none-some v r)
    at (actions.Pump n) made k p r none = refl
    at action made k p r none = absurd cc

-- what a join goes on through
join_goes_on : (script : Plan) (past : List Entry) (kind : Kind) (c : Current) (h : Holding) → IsClosed script → is_join c.action ≡ true
    → holding past 0 ≡ Some h
    → may_come script past 0 kind ≡ true → completes c.action c.made kind ≡ false
unfolding may_come
join_goes_on script past kind c h closed join holds may = at c.action c.made kind join
    (λ job reply is. no_joined job reply (and_parts (by_script script past 0 (kinds.Joined job reply)) _
    (and_parts _ _ (ap (may_come script past 0) is ∙ may)).0).0)
  where
    no_joined : (job : ℕ) (reply : JobReply) → by_script script past 0 (kinds.Joined job reply) ≡ true → ⊥
    no_joined job reply wanted =
        let d = wanted_by script past 0 (kinds.Joined job reply) closed wanted in
        needs (own_entries 0 past) d.value.action d.value.made (holding_own past 0 ∙ holds) d.passes
      where
        needs : (own : List Entry) (action : Action) (made : List Entry) → holding own 0 ≡ Some h → wants own action made (kinds.Joined job reply) ≡ true → ⊥
        needs own (actions.Join j) made is k = both_ways (is_none (holding own 0)) (ap is_none is) (and_parts (eqb job j) (is_none (holding own 0)) k).1
        needs own action made is k = absurd cc

    at : (action : Action) (made : List Entry) (k : Kind) → is_join action ≡ true → ((job : ℕ) (reply : JobReply) → kinds.Joined job reply ≡ k → ⊥)
        → completes action made k ≡ false
    at (actions.Join j) made (kinds.Joined job reply) p joined = absurd (joined job reply refl)
    at (actions.Join j) made k p joined = refl
    at action made k p joined = absurd cc

-- a main task is taken by the driver
main_take_wanted : (script : Plan) (past : List Entry) (seat task queue value : ℕ) → may_come script past seat (kinds.MainTake task queue value) ≡ true
    → by_script script past seat (kinds.MainTake task queue value) ≡ true
unfolding may_come
main_take_wanted script past seat task queue value h =
    (and_parts (by_script script past seat (kinds.MainTake task queue value)) _ (and_parts _ (eqb value (main_cell_of past queue)) h).0).0

-- in a closed plan at a pump
main_take_at : (script : Plan) (past : List Entry) (seat task queue value : ℕ) → IsClosed script
    → may_come script past seat (kinds.MainTake task queue value) ≡ true
    → (seat ≡ 0) × At script past is_pump
main_take_at script past seat task queue value closed h =
    let wanted = main_take_wanted script past seat task queue value h in
    let c = wanted_by script past seat (kinds.MainTake task queue value) closed wanted in (
      by_driver script past seat (kinds.MainTake task queue value) wanted,
      (c.value, c.is, pump_wants (own_entries 0 past) c.value.action c.value.made task queue value c.passes),
    )

-- and by a driver that runs nothing
pub main_take_free : (script : Plan) (past : List Entry) (seat task queue value : ℕ) → may_come script past seat (kinds.MainTake task queue value) ≡ true
    → is_none (running past seat) ≡ true
main_take_free script past seat task queue value h = rw (by_driver script past seat (kinds.MainTake task queue value) wanted)
    (⊎_elim (λ closed. let c = wanted_by script past seat (kinds.MainTake task queue value) closed wanted in
    rw (← running_own past 0) (needs (own_entries 0 past) c.value.action c.value.made c.passes))
    (λ opened. (and_parts (is_none (running past 0)) (is_none (holding past 0))
    (served_free script past seat (kinds.MainTake task queue value) opened refl wanted)).0) (closed_or_open script))
  where
    wanted : by_script script past seat (kinds.MainTake task queue value) ≡ true
    wanted = main_take_wanted script past seat task queue value h

    needs : (own : List Entry) (action : Action) (made : List Entry) → wants own action made (kinds.MainTake task queue value) ≡ true
        → is_none (running own 0) ≡ true
    needs own (actions.Pump n) made k = k
    needs own action made k = absurd cc

-- a job is entered by a free worker, or in a closed plan at a join
job_take_at : (script : Plan) (past : List Entry) (seat job id item : ℕ) → IsClosed script → may_come script past seat (kinds.JobTake job id item) ≡ true
    → IsReadyWorker script past seat ⊎ ((seat ≡ 0) × At script past is_join)
job_take_at script past seat job id item closed h = ⊎_elim (λ k. inl k.0)
    (λ k. let c = wanted_by script past seat (kinds.JobTake job id item) closed k.0 in
    inr (
      by_driver script past seat (kinds.JobTake job id item) k.0,
      (c.value, c.is, join_wants (own_entries 0 past) c.value.action c.value.made job id item c.passes),
    ))
    (job_take_is script past seat job id item h)

-- who enters a job is a free worker, or by the script the driver, which holds nothing, and runs nothing in an open plan
record IsInto (script : Plan) (past : List Entry) (seat : ℕ) : Type 0 where
  holds_nothing : is_none (holding past seat) ≡ true
  runs_nothing : IsOpen script → is_none (running past seat) ≡ true

job_take_into : (script : Plan) (past : List Entry) (seat job id item : ℕ) → may_come script past seat (kinds.JobTake job id item) ≡ true
    → IsInto script past seat
job_take_into script past seat job id item h = ⊎_elim
    (λ k. let free = and_parts (is_none (running past seat)) (is_none (holding past seat)) k.0.free in
    record { holds_nothing = free.1; runs_nothing = λ opened. free.0 })
    (λ k. subst (IsInto script past) (sym (by_driver script past seat (kinds.JobTake job id item) k.0)) (driver k.0))
    (job_take_is script past seat job id item h)
  where
    needs : (own : List Entry) (action : Action) (made : List Entry) → wants own action made (kinds.JobTake job id item) ≡ true
        → is_none (holding own 0) ≡ true
    needs own (actions.Join j) made k = (and_parts (eqb job j) (is_none (holding own 0)) k).1
    needs own action made k = absurd cc

    free : by_script script past seat (kinds.JobTake job id item) ≡ true → IsOpen script
        → (is_none (running past 0) ≡ true) × (is_none (holding past 0) ≡ true)
    free wanted opened = and_parts (is_none (running past 0)) (is_none (holding past 0))
        (served_free script past seat (kinds.JobTake job id item) opened refl wanted)

    driver : by_script script past seat (kinds.JobTake job id item) ≡ true → IsInto script past 0
    driver wanted = record {
      holds_nothing = ⊎_elim
          (λ closed. let c = wanted_by script past seat (kinds.JobTake job id item) closed wanted in
          rw (← holding_own past 0) (needs (own_entries 0 past) c.value.action c.value.made c.passes))
          (λ opened. (free wanted opened).1) (closed_or_open script);
      runs_nothing = λ opened. (free wanted opened).0;
    }

-- a seat that enters a job holds nothing
pub job_take_free : (script : Plan) (past : List Entry) (seat job id item : ℕ) → may_come script past seat (kinds.JobTake job id item) ≡ true
    → is_none (holding past seat) ≡ true
job_take_free script past seat job id item h = (job_take_into script past seat job id item h).holds_nothing

-- who ends an item held it, under this number of this job
pub job_step_holds : (script : Plan) (past : List Entry) (seat job id item value : ℕ) (next : Option ℕ)
    → may_come script past seat (kinds.JobStep job id item value next) ≡ true
    → (h : Holding) × (holding past seat ≡ Some h) × (h.job ≡ job) × (h.id ≡ id) × (h.item ≡ item)
unfolding may_come
job_step_holds script past seat job id item value next h =
    let held = found (λ (x : Holding). eqb x.job job && eqb x.id id && eqb x.item item) (holding past seat) (and_parts _ _ (and_parts _ _ h).0).0 in
    let parts = and_parts (eqb held.value.job job && eqb held.value.id id) (eqb held.value.item item) held.passes in
    let same = and_parts (eqb held.value.job job) (eqb held.value.id id) parts.0 in
    (held.value, held.is, eqb-true held.value.job job same.0, eqb-true held.value.id id same.1, eqb-true held.value.item item parts.1)

runs_none : (past : List Entry) (seat : ℕ) (w : Running) → is_free past seat ≡ true → running past seat ≡ Some w → ⊥
runs_none past seat w free r = both_ways (is_none (running past seat)) (ap is_none r)
    (and_parts (is_none (running past seat)) (is_none (holding past seat)) free).0

holds_none : (past : List Entry) (seat : ℕ) (h : Holding) → is_free past seat ≡ true → holding past seat ≡ Some h → ⊥
holds_none past seat h free k = both_ways (is_none (holding past seat)) (ap is_none k)
    (and_parts (is_none (running past seat)) (is_none (holding past seat)) free).1

-- the seat of the entry does one thing behind it
own_thing : (script : Plan) (past : List Entry) (seat : ℕ) (kind : Kind) → may_come script past seat kind ≡ true → DoesOneThing script past
    → (w : Running) (h : Holding) → running_after (running past seat) kind ≡ Some w → holding_after (holding past seat) kind ≡ Some h → ⊥
own_thing script past seat (kinds.Take task runner value) may d w h r k = holds_none past seat h (take_is script past seat task runner value may).free k
own_thing script past seat (kinds.MainTake task queue value) may d w h r k = ⊎_elim
    (λ closed. let at = main_take_at script past seat task queue value closed may in
    not_at script past at.1 (d.joins closed h (subst (λ s. holding past s ≡ Some h) at.0 k)))
    (λ opened. holds_none past 0 h (served_free script past seat (kinds.MainTake task queue value) opened refl wanted)
    (subst (λ s. holding past s ≡ Some h) (by_driver script past seat (kinds.MainTake task queue value) wanted) k)) (closed_or_open script)
  where
    wanted : by_script script past seat (kinds.MainTake task queue value) ≡ true
    wanted = main_take_wanted script past seat task queue value may
own_thing script past seat (kinds.JobTake job id item) may d w h r k = ⊎_elim
    (λ closed. by_job_take_at closed (job_take_at script past seat job id item closed may))
    (λ opened. both_ways (is_none (running past seat)) (ap is_none r) ((job_take_into script past seat job id item may).runs_nothing opened))
    (closed_or_open script)
  where
    by_job_take_at : IsClosed script → IsReadyWorker script past seat ⊎ ((seat ≡ 0) × At script past is_join) → ⊥
    by_job_take_at closed (inl worker) = runs_none past seat w worker.free r
    by_job_take_at closed (inr (driver, join)) = not_at script past (d.pumps closed w (subst (λ s. running past s ≡ Some w) driver r)) join
own_thing script past seat (kinds.JobStep job id item value (Some next)) may d w h r k = let held = job_step_holds script past seat job id item value
    (Some next) may in d.one_thing seat w held.0 r held.1
own_thing script past seat (kinds.JobStep job id item value None) may d w h r k = absurd (none-some h k)
own_thing script past seat (kinds.End task left) may d w h r k = absurd (none-some w r)
own_thing script past seat (kinds.MainEnd task left) may d w h r k = absurd (none-some w r)
own_thing script past seat kind may d w h r k = d.one_thing seat w h r k

-- the driver runs a main task behind an entry of its own only at a pump
own_pumps : (script : Plan) (past : List Entry) (kind : Kind) → IsClosed script → may_come script past 0 kind ≡ true → DoesOneThing script past → (w : Running)
    → running_after (running past 0) kind ≡ Some w → At script (past ++ record { seat = 0; kind = kind } ∷ []) is_pump
own_pumps script past (kinds.Take task runner value) closed may d w r = absurd (no_worker (take_is script past 0 task runner value may).worker)
  where
    no_worker : 1 ≤ 0 → ⊥
    no_worker low = omega (arith, low)
own_pumps script past (kinds.MainTake task queue value) closed may d w r = let (c, is, pump) = (main_take_at script past 0 task queue value closed may).1 in
    stays_at script past (kinds.MainTake task queue value) is_pump c is pump (goes_on c.action c.made pump)
  where
    goes_on : (action : Action) (made : List Entry) → is_pump action ≡ true → completes action made (kinds.MainTake task queue value) ≡ false
    goes_on (actions.Pump n) made p = refl
    goes_on action made p = absurd cc
own_pumps script past (kinds.End task left) closed may d w r = absurd (none-some w r)
own_pumps script past (kinds.MainEnd task left) closed may d w r = absurd (none-some w r)
own_pumps script past kind closed may d w r = let (c, is, pump) = d.pumps closed w r in
    stays_at script past kind is_pump c is pump (pump_goes_on script past kind c w w closed pump r refl may)

-- the driver holds an item behind an entry of its own only at a join
own_joins : (script : Plan) (past : List Entry) (kind : Kind) → IsClosed script → may_come script past 0 kind ≡ true → DoesOneThing script past → (h : Holding)
    → holding_after (holding past 0) kind ≡ Some h → At script (past ++ record { seat = 0; kind = kind } ∷ []) is_join
own_joins script past (kinds.JobTake job id item) closed may d h k = at_seat 0 refl (job_take_at script past 0 job id item closed may)
  where
    goes_on : (action : Action) (made : List Entry) → is_join action ≡ true → completes action made (kinds.JobTake job id item) ≡ false
    goes_on (actions.Join j) made p = refl
    goes_on action made p = absurd cc

    no_worker : (seat : ℕ) → seat ≡ 0 → 1 ≤ seat → ⊥
    no_worker seat driver low = omega (arith, driver, low)

    at_seat : (seat : ℕ) → seat ≡ 0 → IsReadyWorker script past seat ⊎ ((seat ≡ 0) × At script past is_join)
        → At script (past ++ record { seat = 0; kind = kinds.JobTake job id item } ∷ []) is_join
    at_seat seat driver (inl worker) = absurd (no_worker seat driver worker.worker)
    at_seat seat driver (inr (same, (c, is, join))) = stays_at script past (kinds.JobTake job id item) is_join c is join (goes_on c.action c.made join)
own_joins script past (kinds.JobStep job id item value (Some next)) closed may d h k =
    let held = job_step_holds script past 0 job id item value (Some next) may in
    let (c, is, join) = d.joins closed held.0 held.1 in
    stays_at script past (kinds.JobStep job id item value (Some next)) is_join c is join
    (join_goes_on script past (kinds.JobStep job id item value (Some next)) c held.0 closed join held.1 may)
own_joins script past (kinds.JobStep job id item value None) closed may d h k = absurd (none-some h k)
own_joins script past kind closed may d h k = let (c, is, join) = d.joins closed h k in
    stays_at script past kind is_join c is join (join_goes_on script past kind c h closed join k may)

-- an entry that is allowed keeps each seat at one thing
step : (script : Plan) (past : List Entry) (seat : ℕ) (kind : Kind) → may_come script past seat kind ≡ true → DoesOneThing script past
    → DoesOneThing script (past ++ record { seat = seat; kind = kind } ∷ [])
step script past seat kind may d = record {
  pumps = λ closed w r. pumps closed w (runs_behind past e 0 w r);
  joins = λ closed h k. joins closed h (holds_behind past e 0 h k);
  one_thing = λ s w h r k. thing s w h (runs_behind past e s w r) (holds_behind past e s h k);
}
  where
    e : Entry
    e = record { seat = seat; kind = kind }

    pumps : IsClosed script → (w : Running) → RunsBehind past e 0 w → At script (past ++ e ∷ []) is_pump
    pumps closed w (inl (before, other)) = other_at script past seat kind is_pump other (d.pumps closed w before)
    pumps closed w (inr (driver, now)) = subst (λ s. may_come script past s kind ≡ true → running_after (running past s) kind ≡ Some w
        → At script (past ++ record { seat = s; kind = kind } ∷ []) is_pump) driver (λ allowed runs. own_pumps script past kind closed allowed d w runs) may now

    joins : IsClosed script → (h : Holding) → HoldsBehind past e 0 h → At script (past ++ e ∷ []) is_join
    joins closed h (inl (before, other)) = other_at script past seat kind is_join other (d.joins closed h before)
    joins closed h (inr (driver, now)) = subst (λ s. may_come script past s kind ≡ true → holding_after (holding past s) kind ≡ Some h
        → At script (past ++ record { seat = s; kind = kind } ∷ []) is_join) driver
        (λ allowed holds. own_joins script past kind closed allowed d h holds) may now

    mixed : (s : ℕ) → eqb seat s ≡ false → s ≡ seat → ⊥
    mixed s other own = eqb-false seat s other (sym own)

    thing : (s : ℕ) (w : Running) (h : Holding) → RunsBehind past e s w → HoldsBehind past e s h → ⊥
    thing s w h (inl (runs, other)) (inl (holds, other_too)) = d.one_thing s w h runs holds
    thing s w h (inl (runs, other)) (inr (own, holds)) = mixed s other own
    thing s w h (inr (own, runs)) (inl (holds, other)) = mixed s other own
    thing s w h (inr (own, runs)) (inr (own_too, holds)) = own_thing script past seat kind may d w h runs holds

nothing_done : (script : Plan) → DoesOneThing script []
unfolding running holding
nothing_done script = record {
  pumps = λ closed w r. absurd (none-some w r);
  joins = λ closed h k. absurd (none-some h k);
  one_thing = λ seat w h r. absurd
      (none-some w r);
}

-- in every legal history each seat does one thing at a time
pub legal_does_one_thing : (script : Plan) (past : List Entry) → IsLegal script past → DoesOneThing script past
legal_does_one_thing script = entry_induction script (DoesOneThing script) (nothing_done script)
    (λ past e known may d. step script past e.seat e.kind may d)
