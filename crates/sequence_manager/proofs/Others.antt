-- Entries that are not of the main queues.
-- Cited by `other_entries_keep_the_main_queues`, `Closes`, `DelayedPosts`, `Fences`, `Posts`, `Ranks`, `env_core`, `live_core`.
use Rattle.std.proofs.Common.{◌≡◌, ℕ, ◌<◌, ◌≤◌, true, false, List, [], ◌∷◌, ◌++◌, length, refl, sym, ap, ◌∙◌, subst, arith}
use Rattle.std.proofs.lemmas.Bool.{ne_eqb, not-true}
use Rattle.std.proofs.lemmas.Grind.{length_at_push}
use Rattle.list_laws.specs.Lists.{keep}
use Rattle.pool_laws.proofs.Seats.Running.{running_other}
use Rattle.pool_laws.specs.Runs.{moves_runs, run_parts}
use Rattle.pool_laws.specs.Seats.{main_parts, running_parts}
use Rattle.queue_laws.proofs.Fronts.{streak_of_same}
use Rattle.task_base.specs.Plan.{Plan}
use Rattle.task_base.specs.declared.entry.Entry.{Entry}
use Rattle.task_model.specs.Orders.{next_draw}
use Rattle.queue_laws.specs.Orders.{main_arrivals, order_parts}
use Rattle.sequence_manager.specs.Others.{is_still, queue_parts}
use Rattle.sequence_manager.specs.Queues.{unripe}
use Rattle.sequence_manager.specs.StandsFor.{ArePartsOf, StandsFor}
use Rattle.sequence_manager.specs.declared.manager.Manager.{Manager}
use Rattle.sequence_manager.proofs.Kept.{IsDriversAsBefore, class_kept, driver_same, is_of_other, other_keeps, taken_kept, setting_parts, other_of}
use Rattle.sequence_manager.proofs.Parts.{parts_kept}
use Rattle.sequence_manager.proofs.Quiet.{draw_kept, quiet_arrivals, quiet_now, past_kept, quiet_posts, quiet_unripe, due_parts, draw_parts, no_draw}
use Rattle.pool_laws.specs.Moves.{Classes, MainTakes, moves}
use Rattle.pool_laws.proofs.Moves.{moves_fewer, moves_apart}

pub longer : (past : List Entry) (e : Entry) → length past < length (past ++ e ∷ [])
longer past e = omega (arith, length_at_push past e)

-- the manager stands for the past with an entry that is of no main queue, where the driver runs what it ran
pub stands_apart : (script : Plan) (past : List Entry) (manager : Manager) (e : Entry) → moves queue_parts e.kind ≡ false → IsDriversAsBefore past e
    → StandsFor script past manager → StandsFor script (past ++ e ∷ []) manager
stands_apart script past manager e apart as_before stands = record {
  script_fits = stands.script_fits;
  past_fits = past_kept script past e (moves_fewer order_parts due_parts e.kind refl quiet) (taken_kept past e untaken) stands.past_fits;
  parts =
      subst (λ order. ArePartsOf script (past ++ e ∷ []) (main_arrivals (past ++ e ∷ [])) (unripe (past ++ e ∷ [])) order manager) (sym
      (draw_kept past e (no_draw past e.kind (moves_fewer draw_parts queue_parts e.kind refl apart))))
      (subst (λ waiting. ArePartsOf script (past ++ e ∷ []) (main_arrivals (past ++ e ∷ [])) waiting (next_draw past) manager) (sym
      (quiet_unripe past e quiet))
      (subst (λ arrivals. ArePartsOf script (past ++ e ∷ []) arrivals (unripe past) (next_draw past) manager) (sym (quiet_arrivals past e quiet))
      (parts_kept script past e (main_arrivals past) (unripe past) (next_draw past) manager (λ q. other_keeps past e q (other q) as_before)
      (λ q. class_kept script past e q (moves_fewer (Classes ∷ []) queue_parts e.kind refl apart)) (streak_of_same script past e untaken)
      (quiet_posts past e quiet) (longer past e) stands.parts)));
  moment = stands.moment ∙ sym (quiet_now past e quiet);
}
  where
    quiet : moves due_parts e.kind ≡ false
    quiet = moves_fewer due_parts queue_parts e.kind refl apart

    untaken : moves (MainTakes ∷ []) e.kind ≡ false
    untaken = moves_fewer (MainTakes ∷ []) queue_parts e.kind refl apart

    other : (q : ℕ) → is_of_other q e.kind ≡ true
    other q = other_of q e.kind (moves_fewer main_parts queue_parts e.kind refl apart) (moves_fewer setting_parts queue_parts e.kind refl apart)

pub stands_still : (script : Plan) (past : List Entry) (manager : Manager) (e : Entry) → is_still e.kind ≡ true
    → StandsFor script past manager → StandsFor script (past ++ e ∷ []) manager
stands_still script past manager e still = stands_apart script past manager e (moves_fewer queue_parts (queue_parts ++ run_parts false) e.kind refl none)
    (driver_same past e (moves_fewer running_parts (queue_parts ++ run_parts false) e.kind refl none))
  where
    none : moves (queue_parts ++ run_parts false) e.kind ≡ false
    none = not-true _ still

pub stands_pool : (script : Plan) (past : List Entry) (manager : Manager) (e : Entry) → moves_runs false e.kind ≡ true → 1 ≤ e.seat
    → StandsFor script past manager → StandsFor script (past ++ e ∷ []) manager
stands_pool script past manager e pool worker = stands_apart script past manager e (moves_apart (run_parts false) queue_parts e.kind refl pool)
    (ap (keep (λ w. w.is_main)) (running_other past e 0 (ne_eqb e.seat 0 (λ is. omega (arith, worker, is)))))
