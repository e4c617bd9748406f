-- What the driver waits for, by the action at its place in the script, and what the pool answers about it.
-- Cited by `Env::may_go_on`.
use Rattle.hist_model.proofs.Laws.BySound.{current_is_one}
use Rattle.env_core.specs.Agenda.{counted}
use Rattle.env_core.specs.Views.{EnvView}
use Rattle.env_core.specs.Waits.{has_come, may_go_on}
use Rattle.hist_model.specs.Script.{Current, current}
use Rattle.hist_model.specs.Views.{own_entries}
use Rattle.pool_core.specs.JobCalls.{KnowsJob}
use Rattle.pool_core.specs.StandsFor.{StandsFor}
use Rattle.pool_core.specs.declared.pool.Pool.{Pool}
use Rattle.script_model.specs.Laws.Sound.{IsActionSound, IsSound}
use Rattle.std.proofs.Common.{Bool, List, None, Option, Some, [], ap, false, length, refl, subst, sym, true, ℕ, ◌<◌, ◌∙◌, ◌∷◌, ◌≡◌}
use Rattle.std.proofs.lemmas.Bool.{ne_eqb, not-true, not_from_false, or_right}
use Rattle.std.proofs.lemmas.Bool.Decides.{same_from_decides, Decides-and, Decides-eqb}
use Rattle.std.proofs.lemmas.Option.{none-some, same_Some}
use Rattle.std.specs.Option.{IfSome, option_map, option_map_or}
use Rattle.std.specs.Prelude.{◌↔◌, ◌==◌, ◌&&◌, ◌||◌, not, IsOk, Result, is_ok, is_some}
use Rattle.task_base.specs.Plan.{Plan}
use Rattle.task_base.specs.declared.entry.Entry.{Entry}
use Rattle.task_base.specs.declared.entry.JobReply.{JobReply}
use Rattle.task_base.specs.declared.script.Action.{Action}
use Rattle.task_base.specs.declared.script.Action.TheVariants as actions

-- the action that the driver is at
abbrev pub IsDriversAction : EnvView → Option Action → Type 0
IsDriversAction view x = x ≡ option_map (λ (c : Current). c.action) (current view.script (own_entries 0 view.history))

-- it has made so many entries that count
abbrev pub HasMade : EnvView → ℕ → Type 0
HasMade view made = IfSome (current view.script (own_entries 0 view.history)) (λ c. made ≡ counted (c.action ∷ []) c.made)

-- all entries count of an action whose waiting asks how many it has made
counts_alike : (script : Plan) (past : List Entry) (x : Action) (made : List Entry)
    → has_come script past x (length made) ≡ has_come script past x (counted (x ∷ []) made)
counts_alike script past (actions.Pump n) made = refl
counts_alike script past (actions.Join job) made = refl
counts_alike script past x made = refl

-- the driver waits for what its action waits for
pub waits_at : (view : EnvView) (made : ℕ) (x : Option Action) → HasMade view made → IsDriversAction view x
    → may_go_on view.script view.history ≡ option_map_or (λ y. has_come view.script view.history y made) x true
unfolding may_go_on
waits_at view made x counts is = rw is (by_current (current view.script (own_entries 0 view.history)) counts)
  where
    by_current : (o : Option Current) → IfSome o (λ c. made ≡ counted (c.action ∷ []) c.made)
        → option_map_or (λ c. has_come view.script view.history c.action (length c.made)) o true
        ≡ option_map_or (λ y. has_come view.script view.history y made) (option_map (λ (c : Current). c.action) o) true
    by_current None counts = refl
    by_current (Some c) counts = rw counts (counts_alike view.script view.history c.action c.made)

-- the driver waits for what this action waits for
pub waits_for : (view : EnvView) (made : ℕ) {x : Option Action} {y action : Action} → HasMade view made → IsDriversAction view x → x ≡ Some y → y ≡ action
    → may_go_on view.script view.history ≡ has_come view.script view.history action made
waits_for view made {x = x} counts is some named = rw (← named) (waits_at view made x counts is ∙ rw some refl)

-- a driver that is at no action waits for nothing
pub waits_for_none : (view : EnvView) (made : ℕ) {x : Option Action} → HasMade view made → IsDriversAction view x → ((y : Action) → x ≡ Some y → ⊥)
    → may_go_on view.script view.history ≡ true
waits_for_none view made {x = x} counts is none = waits_at view made x counts is ∙ by_action x none
  where
    by_action : (o : Option Action) → ((y : Action) → o ≡ Some y → ⊥) → option_map_or (λ y. has_come view.script view.history y made) o true ≡ true
    by_action None none = refl
    by_action (Some y) none = absurd (none y refl)

-- the job that the driver's action names is declared
pub knows_its_job : {view : EnvView} {pool : Pool} {x : Option Action} {y action : Action} (job : ℕ) → IsSound view.script
    → StandsFor view.script view.history pool → IsDriversAction view x → x ≡ Some y → y ≡ action
    → (IsActionSound view.script action → job < length view.script.jobs) → KnowsJob view.script view.history pool job
knows_its_job {view = view} {action = action} job plan stands is some named names = record {
  stands = stands;
  declared = names (by_current (current view.script (own_entries 0 view.history)) refl (sym is ∙ some ∙ ap Some named));
}
  where
    by_current : (o : Option Current) → current view.script (own_entries 0 view.history) ≡ o → option_map (λ (c : Current). c.action) o ≡ Some action
        → IsActionSound view.script action
    by_current None now same = absurd (none-some action same)
    by_current (Some c) now same = subst (IsActionSound view.script) (same_Some c.action action same)
        (current_is_one (IsActionSound view.script) view.script (own_entries 0 view.history) c plan.actions.each_sound now)

-- an action that is none of these waits for nothing
pub others_wait_not : (script : Plan) (past : List Entry) (made : ℕ) (x : Action) → (x ≡ actions.Flush → ⊥) → ((job : ℕ) → x ≡ actions.Join job → ⊥)
    → ((job : ℕ) → x ≡ actions.Cancel job → ⊥) → (x ≡ actions.Shutdown → ⊥) → has_come script past x made ≡ true
others_wait_not script past made actions.Flush flush join cancel shutdown = absurd (flush refl)
others_wait_not script past made (actions.Join job) flush join cancel shutdown = absurd (join job refl)
others_wait_not script past made (actions.Cancel job) flush join cancel shutdown = absurd (cancel job refl)
others_wait_not script past made actions.Shutdown flush join cancel shutdown = absurd (shutdown refl)
others_wait_not script past made x flush join cancel shutdown = refl

-- before its first entry an action has nothing to wait for, and behind it what comes counts
pub at_start : (made : ℕ) (come : Bool) → made ≡ 0 → (made == 0 || come) ≡ (made == 0)
at_start made come none = rw none refl

pub behind_start : (made : ℕ) (come : Bool) → (made ≡ 0 → ⊥) → (made == 0 || come) ≡ come
behind_start made come some = rw (ne_eqb made 0 some) refl

-- a join goes on with a reply
pub answered : (enters : Bool) (o : Option JobReply) (reply : JobReply) → o ≡ Some reply → (enters || is_some o) ≡ true
answered enters o reply is = rw is (or_right enters true refl)

-- and without one where the driver may go in
pub unanswered : (enters : Bool) (o : Option JobReply) → o ≡ None → (enters || is_some o) ≡ enters
unanswered true o none = refl
unanswered false o none = rw none refl

-- whether the pool is idle, as a test
pub idle_is : {T E : Type 0} (r : Result T E) (n : ℕ) (ready : Bool) → (IsOk r ↔ ((n ≡ 0) × (ready ≡ false))) → is_ok r ≡ (n == 0 && not ready)
idle_is r n ready is = same_from_decides (is_ok r) (n == 0 && not ready) is
    (Decides-and (n == 0) (not ready) (Decides-eqb n 0) (not-true ready, not_from_false ready))

-- whether nobody is inside a job, as a test
pub empty_is : {T E : Type 0} (r : Result T E) (empty : Bool) → (IsOk r ↔ (empty ≡ true)) → is_ok r ≡ empty
empty_is r empty is = same_from_decides (is_ok r) empty is (λ e. e, λ e. e)
