-- An action that does not wait may make the entry that it wants, whoever else runs.
-- Cited by `Laws/Due`, `Laws/Progress/Ways`, `env_crew`, `env_step`.
use Rattle.std.proofs.Common.{◌≡◌, ℕ, ◌≤◌, Bool, true, false, cond, leb, List, [], ◌∷◌, refl, ◌∙◌, Some, None, arith}
use Rattle.std.specs.Prelude.{not}
use Rattle.std.proofs.lemmas.Bool.{and_from, and_parts, or_left, eq-eqb, le-leb, leb-true}
use Rattle.task_base.specs.declared.limits.TheConstants.{LAST_MOMENT}
use Rattle.task_base.specs.Plan.{Plan}
use Rattle.task_base.specs.declared.entry.Entry.{Entry}
use Rattle.task_base.specs.declared.entry.Kind.{Kind}
use Rattle.task_base.specs.declared.entry.Kind.TheVariants as kinds
use Rattle.task_base.specs.declared.policy.Policy.{Policy}
use Rattle.task_base.specs.declared.policy.Policy.TheVariants.{All, Foreground, Nothing}
use Rattle.task_base.specs.declared.script.Action.{Action}
use Rattle.task_base.specs.declared.script.Action.TheVariants as actions
use Rattle.task_base.specs.declared.script.FenceAt.{FenceAt}
use Rattle.task_base.specs.declared.script.FenceAt.TheVariants.{Now, Start}
use Rattle.task_model.specs.Time.{now_of, now_after}
use Rattle.task_model.specs.Refusal.{is_refused, is_job_forbidden, is_closed}
use Rattle.task_model.specs.Seats.{running}
use Rattle.task_model.proofs.Growth.{now_of_push}
use Rattle.hist_model.specs.Views.{own_entries}
use Rattle.task_base.specs.Groups.{importance}
use Rattle.hist_model.specs.Open.{IsClosed}
use Rattle.hist_model.specs.Script.{Current, current, same_policy, same_fence, wants}
use Rattle.hist_model.specs.Allowed.{by_script, by_task, may_come}
use Rattle.hist_model.specs.Legal.{IsLegal}
use Rattle.hist_model.specs.Laws.Progress.{waits, WantedMayCome}
use Rattle.hist_model.proofs.Laws.Open.{closed_main, closed_post}
use Rattle.hist_model.proofs.Laws.Legal.{entry_induction}
use Rattle.hist_model.proofs.Laws.Progress.Made.{by_it, wanted_now, replies}
use Rattle.hist_model.proofs.Laws.Progress.Pump.{pump_goes_on}

-- the moment of a legal past is at most the last of all
now_within : (script : Plan) (past : List Entry) → IsLegal script past → now_of past ≤ LAST_MOMENT
unfolding now_of may_come
now_within script = entry_induction script (λ past. now_of past ≤ LAST_MOMENT) (omega arith)
    (λ past e known may within. rw (now_of_push past e) (next past e.seat e.kind may within))
  where
    next : (past : List Entry) (seat : ℕ) (kind : Kind) → may_come script past seat kind ≡ true → now_of past ≤ LAST_MOMENT
        → now_after (now_of past) kind ≤ LAST_MOMENT
    next past seat (kinds.Tick now) may within = leb-true now LAST_MOMENT (and_parts _ (leb now LAST_MOMENT) may).1
    next past seat kind may within = within

pub same_policy_now : (policy : Policy) → same_policy policy policy ≡ true
same_policy_now All = refl
same_policy_now Foreground = refl
same_policy_now Nothing = refl

pub same_fence_now : (at : FenceAt) → same_fence at at ≡ true
same_fence_now Now = refl
same_fence_now Start = refl

same_vote : (on : Bool) → cond on on (not on) ≡ true
same_vote true = refl
same_vote false = refl

-- an action that does not wait may make what it wants
pub action_goes_on : (script : Plan) (past : List Entry) (action : Action) (made : List Entry) → IsClosed script → IsLegal script past → running past 0 ≡ None
    → current script (own_entries 0 past) ≡ Some (record { action = action; made = made }) → waits action made ≡ false
    → WantedMayCome script past (record { action = action; made = made })
unfolding may_come
action_goes_on script past (actions.Post t r d) made closed legal idle is goes = by_it script past c kind wanted
    (closed_post script past 0 t r d (not (is_refused script past r d)) closed ∙ and_from _ _
    (or_left (by_script script past 0 kind) (by_task script past 0 kind) (wanted_now script past c kind closed is wanted))
    (replies (is_refused script past r d)))
  where
    c : Current
    c = record { action = actions.Post t r d; made = made }

    kind : Kind
    kind = kinds.Post t r d (not (is_refused script past r d))

    wanted : wants (own_entries 0 past) c.action c.made kind ≡ true
    wanted = rw (eq-eqb t t refl, eq-eqb r r refl, eq-eqb d d refl) refl
action_goes_on script past (actions.Main t n d) made closed legal idle is goes = by_it script past c kind wanted
    (closed_main script past 0 t n d (not (is_closed past n)) closed ∙ and_from _ _
    (or_left (by_script script past 0 kind) (by_task script past 0 kind) (wanted_now script past c kind closed is wanted)) (replies (is_closed past n)))
  where
    c : Current
    c = record { action = actions.Main t n d; made = made }

    kind : Kind
    kind = kinds.Main t n d (not (is_closed past n))

    wanted : wants (own_entries 0 past) c.action c.made kind ≡ true
    wanted = rw (eq-eqb t t refl, eq-eqb n n refl, eq-eqb d d refl) refl
action_goes_on script past (actions.Tick n) made closed legal idle is goes = by_it script past c (kinds.Tick (now_of past)) refl (and_from _ _ (and_from _ _
    (wanted_now script past c (kinds.Tick (now_of past)) closed is refl) (le-leb (now_of past) (now_of past) (omega arith)))
    (le-leb (now_of past) LAST_MOMENT (now_within script past legal)))
  where
    c : Current
    c = record { action = actions.Tick n; made = made }
action_goes_on script past (actions.Policy p) made closed legal idle is goes =
    by_it script past c (kinds.Policy p) (same_policy_now p) (wanted_now script past c (kinds.Policy p) closed is (same_policy_now p))
  where
    c : Current
    c = record { action = actions.Policy p; made = made }
action_goes_on script past (actions.Reprio n p) made closed legal idle is goes =
    by_it script past c (kinds.Reprio n p) wanted (wanted_now script past c (kinds.Reprio n p) closed is wanted)
  where
    c : Current
    c = record { action = actions.Reprio n p; made = made }

    wanted : wants (own_entries 0 past) c.action c.made (kinds.Reprio n p) ≡ true
    wanted = and_from _ _ (eq-eqb n n refl) (eq-eqb (importance p) (importance p) refl)
action_goes_on script past (actions.Fence n at) made closed legal idle is goes =
    by_it script past c (kinds.Fence n at) wanted (wanted_now script past c (kinds.Fence n at) closed is wanted)
  where
    c : Current
    c = record { action = actions.Fence n at; made = made }

    wanted : wants (own_entries 0 past) c.action c.made (kinds.Fence n at) ≡ true
    wanted = and_from _ _ (eq-eqb n n refl) (same_fence_now at)
action_goes_on script past (actions.Unfence n) made closed legal idle is goes =
    by_it script past c (kinds.Unfence n) (eq-eqb n n refl) (wanted_now script past c (kinds.Unfence n) closed is (eq-eqb n n refl))
  where
    c : Current
    c = record { action = actions.Unfence n; made = made }
action_goes_on script past (actions.Vote n v on) made closed legal idle is goes =
    by_it script past c (kinds.Vote n v on) wanted (wanted_now script past c (kinds.Vote n v on) closed is wanted)
  where
    c : Current
    c = record { action = actions.Vote n v on; made = made }

    wanted : wants (own_entries 0 past) c.action c.made (kinds.Vote n v on) ≡ true
    wanted = and_from _ _ (and_from _ _ (eq-eqb n n refl) (eq-eqb v v refl)) (same_vote on)
action_goes_on script past (actions.Rank n class) made closed legal idle is goes =
    by_it script past c (kinds.Rank n class) wanted (wanted_now script past c (kinds.Rank n class) closed is wanted)
  where
    c : Current
    c = record { action = actions.Rank n class; made = made }

    wanted : wants (own_entries 0 past) c.action c.made (kinds.Rank n class) ≡ true
    wanted = and_from _ _ (eq-eqb n n refl) (eq-eqb class class refl)
action_goes_on script past (actions.Close n) made closed legal idle is goes =
    by_it script past c (kinds.Close n) (eq-eqb n n refl) (wanted_now script past c (kinds.Close n) closed is (eq-eqb n n refl))
  where
    c : Current
    c = record { action = actions.Close n; made = made }
action_goes_on script past (actions.Pump n) made closed legal idle is goes = pump_goes_on script past (record { action = actions.Pump n; made = made })
    n closed refl idle is
action_goes_on script past actions.Flush made closed legal idle is goes = absurd cc
action_goes_on script past (actions.StartJob j) made closed legal idle is goes = by_it script past c kind (eq-eqb j j refl) (and_from _ _
    (wanted_now script past c kind closed is (eq-eqb j j refl)) (replies (is_job_forbidden script past j)))
  where
    c : Current
    c = record { action = actions.StartJob j; made = made }

    kind : Kind
    kind = kinds.JobPost j (not (is_job_forbidden script past j))
action_goes_on script past (actions.Join j) made closed legal idle is goes = absurd cc
action_goes_on script past (actions.Cancel j) [] closed legal idle is goes = by_it script past c (kinds.JobCancel j) wanted
    (wanted_now script past c (kinds.JobCancel j) closed is wanted)
  where
    c : Current
    c = record { action = actions.Cancel j; made = [] }

    wanted : wants (own_entries 0 past) c.action c.made (kinds.JobCancel j) ≡ true
    wanted = rw (eq-eqb j j refl) refl
action_goes_on script past (actions.Cancel j) (x ∷ made) closed legal idle is goes = absurd cc
action_goes_on script past actions.Shutdown [] closed legal idle is goes = by_it script past c kinds.Shutdown refl
    (wanted_now script past c kinds.Shutdown closed is refl)
  where
    c : Current
    c = record { action = actions.Shutdown; made = [] }
action_goes_on script past actions.Shutdown (x ∷ made) closed legal idle is goes = absurd cc
