-- A queue in another class.
-- Cited by `Manager::rank`.
use Rattle.std.proofs.Common.{◌≡◌, ℕ, ◌+◌, ◌≤◌, cond, List, [], ◌∷◌, ◌++◌, length, refl, sym, ap, ◌∙◌, subst, arith}
use Rattle.std.specs.Prelude.{◌==◌}
use Rattle.std.proofs.lemmas.Bool.{ne_eqb}
use Rattle.std.proofs.Math.Bool.{or-false}
use Rattle.list_laws.specs.Lists.{count}
use Rattle.list_laws.proofs.Values.{eqb-same}
use Rattle.queue_selector.specs.Selecting.{Selecting, row_at, with_class}
use Rattle.queue_selector.specs.declared.row.Row.{Row}
use Rattle.task_base.specs.Plan.{Plan}
use Rattle.task_base.specs.declared.entry.Entry.{Entry}
use Rattle.task_base.specs.declared.entry.Kind.TheVariants as kinds
use Rattle.task_model.proofs.Growth.{class_of_push, is_main_taken_push, streak_of_push}
use Rattle.task_model.specs.MainQueues.{class_of}
use Rattle.task_model.specs.Orders.{next_draw}
use Rattle.queue_laws.specs.Orders.{main_arrivals}
use Rattle.task_model.specs.Posts.{is_main_taken}
use Rattle.sequence_manager.specs.Calls.{CanRank, after_rank}
use Rattle.sequence_manager.specs.Queues.{IsTable, queue_of, row_of, unripe}
use Rattle.sequence_manager.specs.StandsFor.{ArePartsOf, StandsFor}
use Rattle.sequence_manager.specs.State.{queue_at, row_by}
use Rattle.sequence_manager.specs.declared.manager.Manager.{Manager}
use Rattle.sequence_manager.proofs.Kept.{driver_same, other_keeps, queue_kept}
use Rattle.sequence_manager.proofs.Others.{longer}
use Rattle.sequence_manager.proofs.Parts.{load}
use Rattle.sequence_manager.proofs.Quiet.{draw_kept, quiet_arrivals, quiet_now, past_kept, quiet_posts, quiet_unripe}
use Rattle.sequence_manager.proofs.Refreshing.{row_at_is}
use Rattle.sequence_manager.proofs.Tables.{table_same, table_set}

-- the manager that told the selector stands for the past with the entry
pub stands_at_rank : (script : Plan) (past : List Entry) (seat q class : ℕ) (manager : Manager) (selector : Selecting) → CanRank script past manager q class
    → selector ≡ with_class manager.selector q class → StandsFor script (after_rank past seat q class) (record manager { selector = selector })
stands_at_rank script past seat q class manager selector can told = record {
  script_fits = can.at.stands.script_fits;
  past_fits = past_kept script past e refl (λ t. is_main_taken_push past e t ∙ or-false (is_main_taken past t)) can.at.stands.past_fits;
  parts =
      subst (λ order. ArePartsOf script after (main_arrivals after) (unripe after) order behind) (sym (draw_kept past e refl))
      (subst (λ waiting. ArePartsOf script after (main_arrivals after) waiting (next_draw past) behind) (sym (quiet_unripe past e refl))
      (subst (λ arrivals. ArePartsOf script after arrivals (unripe past) (next_draw past) behind) (sym (quiet_arrivals past e refl)) parts));
  moment = can.at.stands.moment ∙ sym (quiet_now past e refl);
}
  where
    e : Entry
    e = record { seat = seat; kind = kinds.Rank q class }

    after : List Entry
    after = past ++ e ∷ []

    behind : Manager
    behind = record manager { selector = selector }

    before : ArePartsOf script past (main_arrivals past) (unripe past) (next_draw past) manager
    before = can.at.stands.parts

    queue_is : (p : ℕ) → queue_of script past (main_arrivals past) (unripe past) p ≡ queue_of script after (main_arrivals past) (unripe past) p
    queue_is p = sym (queue_kept script past after (main_arrivals past) (unripe past) p (other_keeps past e p refl (driver_same past e refl)))

    class_is : (p : ℕ) → (p ≡ q → ⊥) → class_of script past p ≡ class_of script after p
    class_is p other = sym (class_of_push script past e p ∙ ap (λ b. cond b class (class_of script past p)) (ne_eqb q p (λ is. other (sym is))))

    ranked : class ≡ class_of script after q
    ranked = sym (class_of_push script past e q ∙ ap (λ b. cond b class (class_of script past q)) (eqb-same q))

    row : record (row_at manager.selector q) { class = class } ≡ row_of script after (main_arrivals past) (unripe past) q
    row =
        ap (λ (r : Row). record r { class = class }) (row_at_is (row_of script past (main_arrivals past) (unripe past))
        (length script.queues) manager.selector q
        before.rows can.at.declared)
        ∙ ap (λ c. row_by c (queue_of script past (main_arrivals past) (unripe past) q)) ranked
        ∙ ap (row_by (class_of script after q)) (queue_is q)

    parts : ArePartsOf script after (main_arrivals past) (unripe past) (next_draw past) behind
    parts = record {
      queues = table_same (queue_of script past (main_arrivals past) (unripe past)) (queue_of script after (main_arrivals past) (unripe past))
          (length script.queues)
          manager.queues (λ p less. queue_is p) before.queues;
      rows = subst (λ (s : Selecting). IsTable (row_of script after (main_arrivals past) (unripe past)) (length script.queues) s.rows) (sym told)
          (table_set (row_of script past (main_arrivals past) (unripe past)) (row_of script after (main_arrivals past) (unripe past)) (length script.queues)
          manager.selector.rows q (record (row_at manager.selector q) { class = class }) before.rows can.at.declared
          (λ p less other. ap (λ c. row_by c (queue_of script past (main_arrivals past) (unripe past) p)) (class_is p other)
          ∙ ap (row_by (class_of script after p)) (queue_is p)) row);
      streak = ap (λ (s : Selecting). s.streak) told ∙ before.streak ∙ sym (streak_of_push script past e);
      order_is = before.order_is;
      room = λ p less. subst (λ ps. load (queue_at manager.queues p) ≤ count (λ x. x.home == p) ps) (sym (quiet_posts past e refl)) (before.room p less);
      few_orders = let few : next_draw past + length (unripe past) ≤ 2 + length past = before.few_orders in omega (arith, few, longer past e);
    }
