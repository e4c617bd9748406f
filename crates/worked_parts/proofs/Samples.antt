-- Why the entries of the tests are allowed.
-- Cited by `Steps::add`.
use Rattle.std.proofs.Common.{◌≡◌, ℕ, List, [], ◌∷◌, ◌++◌, length, take, refl, sym, ap, subst, ◌∙◌, Some}
use Rattle.std.specs.Prelude.{slice_get}
use Rattle.task_base.specs.declared.entry.Entry.{Entry}
use Rattle.task_model.specs.Past.{fold_past}
use Rattle.task_model.specs.Time.{now_of, tick_from}
use Rattle.task_model.specs.Posts.{posts, is_taken, is_ended}
use Rattle.task_model.specs.Phase.{phase_of}
use Rattle.task_model.specs.Policies.{policy_of}
use Rattle.task_model.specs.Keys.{ready}
use Rattle.task_model.specs.Sequences.{eligible, head_of}
use Rattle.task_model.specs.Seats.{running, holding, runs_sequence, inside, acts_done}
use Rattle.task_model.specs.Cells.{cell_of}
use Rattle.task_model.specs.Capacity.{priority_of, taken_with, open_scope, load, capacity, best_load, best_capacity, has_room}
use Rattle.task_model.specs.Sources.{would_wait, waiting, best_of}
use Rattle.hist_model.specs.Allowed.{by_script, by_task, may_come, IsAllowed}
use Rattle.hist_model.specs.Legal.{IsLegal, is_legal}
use Rattle.hist_model.specs.Script.{current, is_wanted, is_finished}
use Rattle.hist_model.proofs.Laws.AtPlaces.{allowed_at}
use Rattle.worked_parts.specs.Samples.{steps_script, steps_log}
use Rattle.turn_table.specs.Seats.{EntersOne}

steps_legal : IsLegal steps_script steps_log
unfolding fold_past now_of tick_from posts is_taken is_ended phase_of policy_of ready eligible head_of running holding runs_sequence inside acts_done cell_of
    priority_of taken_with open_scope load capacity best_load best_capacity has_room would_wait waiting best_of current is_wanted is_finished by_script by_task
    may_come is_legal
steps_legal = refl

-- the entry at a place is allowed after those before it
pub step_enters : (place seat : ℕ) (entry : Entry) (old later : List Entry) → later ≡ old ++ entry ∷ [] → old ≡ take (length old) steps_log
    → length old ≡ place → slice_get steps_log place ≡ Some entry → entry.seat ≡ seat → EntersOne steps_script seat old later
step_enters place seat entry old later later_is begun at next seat_is = record {
  entry = entry;
  later_is = later_is;
  seat_is = seat_is;
  allowed = subst (λ past. IsAllowed steps_script past entry) (sym (begun ∙ ap (λ n. take n steps_log) at))
      (allowed_at steps_script steps_log place entry steps_legal next);
}
