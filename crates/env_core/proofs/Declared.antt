-- What the script wants next names what is declared, a post of it is new, and the phase is right where shutdown is started or done.
-- Cited by `Env::rank`, `Env::start_shutdown`, `Env::try_done`, `Env::vote`, `Entries`, `next_entry`.
use Rattle.hist_model.proofs.Laws.BySound.{current_is_one}
use Rattle.env_core.proofs.Plans.{act_is}
use Rattle.hist_model.proofs.Laws.Wants.{entered_by, enters_main, enters_post, wants_main, wants_post}
use Rattle.env_core.proofs.Plans.{steps_are}
use Rattle.env_core.proofs.Queues.{action_posts, step_posts}
use Rattle.env_core.proofs.Shutdown.{at_done, at_start}
use Rattle.env_core.specs.Calls.{IsWantedNext}
use Rattle.env_core.specs.Views.{EnvView}
use Rattle.hist_model.proofs.Laws.Open.{closed_main, closed_post}
use Rattle.hist_model.proofs.Laws.OneThing.{wanted_by}
use Rattle.hist_model.proofs.Laws.Postings.Once.{a_posted_task_is_new}
use Rattle.hist_model.specs.Allowed.{IsAllowed, by_script, by_task, enters, may_come}
use Rattle.hist_model.specs.Legal.{IsLegal}
use Rattle.hist_model.specs.Script.{wants}
use Rattle.hist_model.specs.Views.{own_entries}
use Rattle.list_laws.proofs.Elements.{AllByRecursion-contains_itself}
use Rattle.list_laws.proofs.Values.{some-injective}
use Rattle.script_model.specs.Laws.Sound.{IsActionSound, IsSound, IsStepSound, IsStepWithin}
use Rattle.sequence_manager.specs.Pasts.{IsPostedTo}
use Rattle.std.proofs.Common.{Bool, List, None, Option, Some, [], eqb, false, length, refl, subst, suc, sym, true, ℕ, ⊎_elim, ◌<◌, ◌∙◌, ◌≡◌, ◌≤◌}
use Rattle.std.proofs.lemmas.Bool.{and_parts, eqb-true, leb-true, or_cases}
use Rattle.std.proofs.lemmas.Option.{none-some}
use Rattle.std.specs.Option.{option_map, option_map_or}
use Rattle.std.specs.Prelude.{Contains, filter, nat_lt, slice_get, unwrap_or}
use Rattle.task_base.specs.Plan.{Plan}
use Rattle.task_base.specs.Steps.{is_act}
use Rattle.task_base.specs.declared.entry.Entry.{Entry}
use Rattle.task_base.specs.declared.entry.Kind.{Kind}
use Rattle.task_base.specs.declared.limits.TheConstants.{MOST_MICROSECONDS}
use Rattle.task_traits.specs.declared.traits.Priority.{Priority}
use Rattle.task_base.specs.declared.script.Action.{Action}
use Rattle.task_base.specs.declared.script.MainQueue.{MainQueue}
use Rattle.task_base.specs.declared.step.Step.{Step}
use Rattle.task_model.specs.Phase.{phase_of}
use Rattle.task_model.specs.MainQueues.{voters_of}
use Rattle.pool_laws.specs.Posts.{main_post_of, post_of}
use Rattle.task_model.specs.Seats.{Running, acts_done, steps_of}
use Rattle.task_base.specs.declared.entry.Kind.TheVariants as kinds
use Rattle.task_base.specs.declared.script.Action.TheVariants as actions
use Rattle.task_base.specs.declared.step.Step.TheVariants as steps
use Rattle.task_traits.specs.declared.phase.Phase.TheVariants as phases
use Rattle.env_core.proofs.Wanted.{wanted_by_script}

-- a post that may come is sound, and its task was not posted
pub post_is_sound : (script : Plan) (past : List Entry) (seat task runner delay : ℕ) (ok : Bool) → IsSound script → IsLegal script past
    → IsAllowed script past (record { seat = seat; kind = kinds.Post task runner delay ok })
    → (task < length script.tasks) × (runner < length script.runners) × (delay ≤ MOST_MICROSECONDS) × (post_of past task ≡ None)
unfolding may_come
post_is_sound script past seat task runner delay ok plan legal allowed =
    let may = sym (closed_post script past seat task runner delay ok plan.closed) ∙ (and_parts _ _ allowed).1 in
    let sound = ⊎_elim by_the_script by_the_task (or_cases _ _ (and_parts _ _ may).0) in (
      sound.0.task_declared,
      sound.0.runner_declared,
      sound.1,
      (a_posted_task_is_new script past (record { seat = seat; kind = kinds.Post task runner delay ok }) task plan.once.posted_once legal allowed
          refl).not_accepted,
    )
  where
    by_the_script : by_script script past seat (kinds.Post task runner delay ok) ≡ true → IsActionSound script (actions.Post task runner delay)
    by_the_script wanted =
        let c = wanted_by script past seat (kinds.Post task runner delay ok) plan.closed wanted in
        subst (IsActionSound script) (wants_post (own_entries 0 past) c.value.action c.value.made task runner delay ok c.passes)
        (current_is_one (IsActionSound script) script (own_entries 0 past) c.value plan.actions.each_sound c.is)

    by_the_task : by_task script past seat (kinds.Post task runner delay ok) ≡ true → IsActionSound script (actions.Post task runner delay)
    by_the_task enters =
        let s = entered_by script past seat (kinds.Post task runner delay ok) enters in
        let is : s.step ≡ steps.Post task runner delay = enters_post s.now.task s.step task runner delay ok s.enters in
        let declared = subst (IsStepSound script s.now.task) is (act_is (IsStepSound script s.now.task) _ _ s.step
        (steps_are script s.now.task plan.declarations).1 s.is_next) in
        let within = subst IsStepWithin is (act_is IsStepWithin _ _ s.step (steps_are script s.now.task plan.declarations).0 s.is_next) in
        (declared.1, within)

-- a post to a main queue is one of the script's, of a task that was not accepted
pub record IsMainPostSound (script : Plan) (past : List Entry) (task queue delay : ℕ) : Type 0 where
  pub task_declared : task < length script.tasks
  pub delay_fits : delay ≤ MOST_MICROSECONDS
  pub posted : IsPostedTo script task queue
  pub is_new : main_post_of past task ≡ None

-- an act step that posts to a main queue does so rightly
act_posts : (script : Plan) (t n task queue delay : ℕ) → script.is_open ≡ false
    → slice_get (filter is_act (steps_of script t)) n ≡ Some (steps.Main task queue delay) → IsPostedTo script task queue
act_posts script t n task queue delay closed is = at (slice_get script.tasks t) refl is
  where
    at : (o : Option (List Step)) → slice_get script.tasks t ≡ o
        → slice_get (filter is_act (option_map_or (λ steps. steps) o [])) n ≡ Some (steps.Main task queue delay) → IsPostedTo script task queue
    at None here k = absurd (none-some _ k)
    at (Some xs) here k = step_posts script t task queue delay xs closed here
        (act_is (Contains xs) xs n (steps.Main task queue delay) (AllByRecursion-contains_itself xs) k)

-- a post to a main queue that may come is sound, and its task was not posted
pub main_post_is_sound : (script : Plan) (past : List Entry) (seat task queue delay : ℕ) (ok : Bool) → IsSound script → IsLegal script past
    → IsAllowed script past (record { seat = seat; kind = kinds.Main task queue delay ok }) → IsMainPostSound script past task queue delay
unfolding may_come
main_post_is_sound script past seat task queue delay ok plan legal allowed =
    let may = sym (closed_main script past seat task queue delay ok plan.closed) ∙ (and_parts _ _ allowed).1 in
    let (sound, posted) = ⊎_elim by_the_script by_the_task (or_cases _ _ (and_parts _ _ may).0) in
    record {
      task_declared = sound.0.task_declared;
      delay_fits = sound.1;
      posted = posted;
      is_new = (a_posted_task_is_new script past (record { seat = seat; kind = kinds.Main task queue delay ok }) task plan.once.posted_once legal
          allowed refl).not_main_accepted;
    }
  where
    by_the_script : by_script script past seat (kinds.Main task queue delay ok) ≡ true
        → IsActionSound script (actions.Main task queue delay) × IsPostedTo script task queue
    by_the_script wanted =
        let c = wanted_by script past seat (kinds.Main task queue delay ok) plan.closed wanted in
        let same = wants_main (own_entries 0 past) c.value.action c.value.made task queue delay ok c.passes in (
          subst (IsActionSound script) same (current_is_one (IsActionSound script) script (own_entries 0 past) c.value plan.actions.each_sound c.is),
          action_posts script task queue delay plan.closed (subst (Contains script.actions) same
              (current_is_one (Contains script.actions) script (own_entries 0 past) c.value (AllByRecursion-contains_itself script.actions) c.is)),
        )

    by_the_task : by_task script past seat (kinds.Main task queue delay ok) ≡ true
        → IsActionSound script (actions.Main task queue delay) × IsPostedTo script task queue
    by_the_task enters =
        let s = entered_by script past seat (kinds.Main task queue delay ok) enters in
        let is : s.step ≡ steps.Main task queue delay = enters_main s.now.task s.step task queue delay ok s.enters in
        let declared = subst (IsStepSound script s.now.task) is (act_is (IsStepSound script s.now.task) _ _ s.step
        (steps_are script s.now.task plan.declarations).1 s.is_next) in
        let within = subst IsStepWithin is (act_is IsStepWithin _ _ s.step (steps_are script s.now.task plan.declarations).0 s.is_next) in
        ((declared.1, within), act_posts script s.now.task (acts_done past seat) task queue delay plan.closed (rw is at s.is_next))

-- What the driver does to a main queue names one that is declared.

-- the queue that such an entry names
abbrev pub named : Kind → Option ℕ
named (kinds.Fence queue at) = Some queue
named (kinds.Unfence queue) = Some queue
named (kinds.Vote queue voter on) = Some queue
named (kinds.Rank queue class) = Some queue
named (kinds.Close queue) = Some queue
named kind = None

-- an action that wants an entry of a queue is sound only where the queue is declared
names_queue : (script : Plan) (own : List Entry) (x : Action) (made : List Entry) (kind : Kind) (n : ℕ) → named kind ≡ Some n
    → wants own x made kind ≡ true → IsActionSound script x → n < length script.queues
names_queue script own (actions.Fence q a) made (kinds.Fence queue at) n is w sound =
    subst (λ k. k < length script.queues) (sym (eqb-true queue q (and_parts _ _ w).0) ∙ some-injective is) sound
names_queue script own (actions.Unfence q) made (kinds.Unfence queue) n is w sound =
    subst (λ k. k < length script.queues) (sym (eqb-true queue q w) ∙ some-injective is) sound
names_queue script own (actions.Vote q v o) made (kinds.Vote queue voter on) n is w sound =
    subst (λ k. k < length script.queues) (sym (eqb-true queue q (and_parts _ _ (and_parts _ _ w).0).0) ∙ some-injective is) sound.0
names_queue script own (actions.Rank q c) made (kinds.Rank queue class) n is w sound =
    subst (λ k. k < length script.queues) (sym (eqb-true queue q (and_parts _ _ w).0) ∙ some-injective is) sound.0
names_queue script own (actions.Close q) made (kinds.Close queue) n is w sound =
    subst (λ k. k < length script.queues) (sym (eqb-true queue q w) ∙ some-injective is) sound
names_queue script own x made (kinds.Fence queue at) n is w sound = absurd cc
names_queue script own x made (kinds.Unfence queue) n is w sound = absurd cc
names_queue script own x made (kinds.Vote queue voter on) n is w sound = absurd cc
names_queue script own x made (kinds.Rank queue class) n is w sound = absurd cc
names_queue script own x made (kinds.Close queue) n is w sound = absurd cc
names_queue script own x made kind n is w sound = absurd (none-some n is)

-- what the script wants is what a sound action wants
sound_at : (P : Type 0) (view : EnvView) (seat : ℕ) (kind : Kind) → IsSound view.script → IsWantedNext view seat kind
    → ((x : Action) (made : List Entry) → wants (own_entries 0 view.history) x made kind ≡ true → IsActionSound view.script x → P) → P
sound_at P view seat kind plan next says =
    let c = wanted_by view.script view.history seat kind plan.closed (wanted_by_script view seat kind next) in
    says c.value.action c.value.made c.passes
    (current_is_one (IsActionSound view.script) view.script (own_entries 0 view.history) c.value plan.actions.each_sound c.is)

-- the queue of an entry that the script wants is declared
pub queue_declared : (view : EnvView) (seat : ℕ) (kind : Kind) (queue : ℕ) → named kind ≡ Some queue → IsSound view.script → IsWantedNext view seat kind
    → queue < length view.script.queues
queue_declared view seat kind queue is plan next = sound_at (queue < length view.script.queues) view seat kind plan next
    (λ x made w sound. names_queue view.script (own_entries 0 view.history) x made kind queue is w sound)

-- the runner of a changed priority that the script wants is declared
pub runner_declared : (view : EnvView) (seat runner : ℕ) (priority : Priority) → IsSound view.script → IsWantedNext view seat (kinds.Reprio runner priority)
    → runner < length view.script.runners
runner_declared view seat runner priority plan next =
    sound_at (runner < length view.script.runners) view seat (kinds.Reprio runner priority) plan next by_action
  where
    by_action : (x : Action) (made : List Entry) → wants (own_entries 0 view.history) x made (kinds.Reprio runner priority) ≡ true → IsActionSound view.script x
        → runner < length view.script.runners
    by_action (actions.Reprio r p) made w sound = rw (eqb-true runner r (and_parts _ _ w).0) sound
    by_action x made w sound = absurd cc

-- the voter of a vote that the script wants is one of its queue
pub voter_declared : (view : EnvView) (seat queue voter : ℕ) (on : Bool) → IsSound view.script → IsWantedNext view seat (kinds.Vote queue voter on)
    → voter < voters_of view.script queue
voter_declared view seat queue voter on plan next = sound_at (voter < voters_of view.script queue) view seat (kinds.Vote queue voter on) plan next by_action
  where
    has : (o : Option MainQueue) (v : ℕ) → unwrap_or (option_map (λ declared. nat_lt v declared.voters) o) false ≡ true
        → v < option_map_or (λ queue. queue.voters) o 0
    has None v h = absurd cc
    has (Some q) v h = leb-true (suc v) q.voters h

    by_action : (x : Action) (made : List Entry) → wants (own_entries 0 view.history) x made (kinds.Vote queue voter on) ≡ true → IsActionSound view.script x
        → voter < voters_of view.script queue
    by_action (actions.Vote q v o) made w sound =
        let parts = and_parts _ _ (and_parts _ _ w).0 in
        rw (eqb-true queue q parts.0, eqb-true voter v parts.1) (has (slice_get view.script.queues q) v sound.2)
    by_action x made w sound = absurd cc

-- the class that the script wants is within its range
pub class_within : (view : EnvView) (seat queue class : ℕ) → IsSound view.script → IsWantedNext view seat (kinds.Rank queue class) → class ≤ 7
class_within view seat queue class plan next = sound_at (class ≤ 7) view seat (kinds.Rank queue class) plan next by_action
  where
    by_action : (x : Action) (made : List Entry) → wants (own_entries 0 view.history) x made (kinds.Rank queue class) ≡ true → IsActionSound view.script x
        → class ≤ 7
    by_action (actions.Rank q c) made w sound = rw (eqb-true class c (and_parts (eqb queue q) (eqb class c) w).1) sound.1
    by_action x made w sound = absurd cc

-- shutdown starts while the phase is running
pub starts_while_running : (script : Plan) (past : List Entry) (seat : ℕ) → IsSound script → IsLegal script past
    → IsAllowed script past (record { seat = seat; kind = kinds.Shutdown }) → phase_of past ≡ phases.Running
unfolding may_come
starts_while_running script past seat plan legal allowed = at_start script past plan legal
    (wanted_by script past seat kinds.Shutdown plan.closed (and_parts _ _ allowed).1)

-- shutdown ends where it has started
pub done_while_started : (view : EnvView) (seat : ℕ) → IsSound view.script → IsLegal view.script view.history → IsWantedNext view seat kinds.Done
    → phase_of view.history ≡ phases.Started
done_while_started view seat plan legal next = at_done view.script view.history plan legal
    (wanted_by view.script view.history seat kinds.Done plan.closed (wanted_by_script view seat kinds.Done next))
