-- What is wanted next of the driver, seat 0: by the script, or in an open plan. It depends on the driver's own entries
-- alone (this project's own rule).
use Rattle.std.specs.Prelude.{ℕ, zero, suc, ◌-◌, ◌==◌, not, ◌&&◌, ◌||◌, Bool, true, false, nat_le, if◌then◌else◌, List, [], ◌∷◌, length, Option, Some, None, is_none, IsTrue}
use Rattle.std.specs.Option.{option_map_or}
use Rattle.task_base.specs.Plan.{Plan}
use Rattle.task_base.specs.declared.entry.Entry.{Entry}
use Rattle.task_base.specs.declared.entry.Kind.{Kind}
use Rattle.task_base.specs.declared.entry.Kind.TheVariants as kinds
use Rattle.task_base.specs.declared.policy.Policy.{Policy}
use Rattle.task_base.specs.declared.policy.Policy.TheVariants.{All, Foreground, Nothing}
use Rattle.task_base.specs.declared.script.FenceAt.{FenceAt}
use Rattle.task_base.specs.declared.script.FenceAt.TheVariants.{Now, Start}
use Rattle.task_base.specs.declared.script.Action.{Action}
use Rattle.task_base.specs.declared.script.Action.TheVariants as actions
use Rattle.task_base.specs.Groups.{importance}
use Rattle.list_laws.specs.Lists.{holds_of}
use Rattle.task_model.specs.Phase.{phase_of}
use Rattle.task_model.specs.Seats.{running, holding, is_quiet}
use Rattle.hist_model.specs.Views.{own_entries}
use Rattle.hist_model.specs.Open.{is_done, serves}

-- the entries behind the first n, where there are that many
abbrev pub behind : ℕ → List Entry → Option (List Entry)
behind zero own = Some own
behind (suc n) [] = None
behind (suc n) (e ∷ own) = behind n own

-- the entry ends a join
abbrev pub is_joined : Kind → Bool
is_joined (kinds.Joined job reply) = true
is_joined kind = false

-- the entries behind the first `Joined`
abbrev pub behind_join : List Entry → Option (List Entry)
behind_join [] = None
behind_join (e ∷ own) = if is_joined e.kind then Some own else behind_join own

-- the entry finds no main task
abbrev pub is_main_none : Kind → Bool
is_main_none kinds.MainNone = true
is_main_none kind = false

-- the entry ends a main task
abbrev pub is_main_end : Kind → Bool
is_main_end (kinds.MainEnd task left) = true
is_main_end kind = false

-- the entries behind the first `MainNone` or the n-th `MainEnd`, whichever comes first
abbrev pub behind_pump : ℕ → List Entry → Option (List Entry)
behind_pump n [] = None
behind_pump n (e ∷ own) =
    if is_main_none e.kind || (is_main_end e.kind && nat_le n 1) then Some own
    else behind_pump (if is_main_end e.kind then n - 1 else n) own

-- the entries behind the part of an action, where that part is complete
abbrev pub behind_action : Action → List Entry → Option (List Entry)
behind_action (actions.Tick count) own = behind count own
behind_action (actions.Pump count) own = behind_pump count own
behind_action (actions.Join job) own = behind_join own
behind_action (actions.Cancel job) own = behind 2 own
behind_action actions.Shutdown own = behind 2 own
behind_action action own = behind 1 own

-- an action, and the entries that it has made so far
pub record Current : Type 0 where
  pub action : Action
  pub made : List Entry

-- the first action whose part of the entries is not complete: each takes its part from the front
abbrev pub current_from : List Action → List Entry → Option Current
current_from [] own = None
current_from (action ∷ rest) own = option_map_or (λ left. current_from rest left) (behind_action action own) (Some (record { action = action; made = own }))

-- the action that the driver is at, by its own entries
unfoldable pub current : Plan → List Entry → Option Current
current script own = current_from script.actions own

-- the two policies are the same
abbrev pub same_policy : Policy → Policy → Bool
same_policy All All = true
same_policy Foreground Foreground = true
same_policy Nothing Nothing = true
same_policy a b = false

-- the two fences stand at the same
abbrev pub same_fence : FenceAt → FenceAt → Bool
same_fence Now Now = true
same_fence Start Start = true
same_fence a b = false

-- the driver's action, with what it has made so far, wants an entry of this kind; the reply, the moment and the found
-- value are left to what is allowed. A pump wants nothing while the driver runs a main task, and a join nothing while
-- it holds an item
abbrev pub wants : List Entry → Action → List Entry → Kind → Bool
wants own (actions.Post t r d) made (kinds.Post task runner delay ok) = task == t && runner == r && delay == d
wants own (actions.Main t q d) made (kinds.Main task queue delay ok) = task == t && queue == q && delay == d
wants own (actions.Tick count) made (kinds.Tick now) = true
wants own (actions.Policy p) made (kinds.Policy policy) = same_policy policy p
wants own (actions.Reprio r p) made (kinds.Reprio runner priority) = runner == r && importance priority == importance p
wants own (actions.Fence q a) made (kinds.Fence queue at) = queue == q && same_fence at a
wants own (actions.Unfence q) made (kinds.Unfence queue) = queue == q
wants own (actions.Vote q v o) made (kinds.Vote queue voter on) = queue == q && voter == v && (if o then on else not on)
wants own (actions.Rank q c) made (kinds.Rank queue class) = queue == q && class == c
wants own (actions.Close q) made (kinds.Close queue) = queue == q
wants own (actions.Pump count) made (kinds.MainTake task queue found) = is_none (running own 0)
wants own (actions.Pump count) made kinds.MainNone = is_none (running own 0)
wants own actions.Flush made kinds.Idle = true
wants own (actions.StartJob j) made (kinds.JobPost job ok) = job == j
wants own (actions.Join j) made (kinds.JobTake job id item) = job == j && is_none (holding own 0)
wants own (actions.Join j) made (kinds.Joined job reply) = job == j && is_none (holding own 0)
wants own (actions.Cancel j) made (kinds.JobCancel job) = job == j && length made == 0
wants own (actions.Cancel j) made (kinds.Cancelled job) = job == j && length made == 1
wants own actions.Shutdown made kinds.Shutdown = length made == 0
wants own actions.Shutdown made kinds.Done = length made == 1
wants own action made kind = false

-- an entry of this kind is wanted next, by the driver's own entries: by the action that the driver is at, or in an open plan
unfoldable pub is_wanted : Plan → List Entry → Kind → Bool
is_wanted script own kind = if script.is_open then serves script own kind else holds_of (λ c. wants own c.action c.made kind) (current script own)

-- nothing more is wanted: the script's actions are done, or, of an open plan, shutdown is
unfoldable pub is_finished : Plan → List Entry → Bool
is_finished script past = if script.is_open then is_done (phase_of (own_entries 0 past)) else is_none (current script (own_entries 0 past))

-- the script is finished
abbrev pub IsFinished : Plan → List Entry → Type 0
IsFinished script past = IsTrue (is_finished script past)

-- the script is finished, no seat runs a task, and none holds an item
abbrev pub is_whole : Plan → List Entry → Bool
is_whole script past = is_finished script past && is_quiet script past

-- the history is whole for the script: nothing of it is left to be done
abbrev pub IsWhole : Plan → List Entry → Type 0
IsWhole script log = IsTrue (is_whole script log)
