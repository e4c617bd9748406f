-- The front of a lane is its task of least order. An entry that takes no main task leaves the streak.
-- Cited by `Arrivals`, `hist_model`, `sequence_manager`.
use Rattle.std.proofs.Common.{◌≡◌, ℕ, false, List, [], ◌∷◌, ◌++◌, refl, sym, ◌∙◌, Some}
use Rattle.std.proofs.lemmas.Bool.{true≢false}
use Rattle.task_base.specs.Plan.{Plan}
use Rattle.task_base.specs.declared.entry.Entry.{Entry}
use Rattle.task_base.specs.declared.entry.Kind.{Kind}
use Rattle.task_base.specs.declared.entry.Kind.TheVariants as kinds
use Rattle.task_base.specs.declared.script.Lane.{Lane}
use Rattle.list_laws.specs.Lists.{least, IsLeast}
use Rattle.task_model.specs.MainQueues.{Front, order_below, front_of, streak_of, streak_after}
use Rattle.pool_laws.specs.Moves.{MainTakes, moves}
use Rattle.queue_laws.specs.Fronts.{lane_of}
use Rattle.task_model.proofs.Growth.{streak_of_push}
use Rattle.list_laws.proofs.Least.{least_is_least}
use Rattle.list_laws.proofs.Ranks.{ranks_by}

-- the front of a lane is its task of least order
pub front_is_least : (script : Plan) (past : List Entry) (q : ℕ) (lane : Lane) → front_of script past q lane ≡ least order_below (lane_of script past q lane)
unfolding front_of
front_is_least script past q lane = refl

pub front_is_first : (script : Plan) (past : List Entry) (q : ℕ) (lane : Lane) (f : Front) → front_of script past q lane ≡ Some f
    → IsLeast order_below (lane_of script past q lane) f
front_is_first script past q lane f is = least_is_least order_below (ranks_by (λ x. x.order)) (lane_of script past q lane) f
    (sym (front_is_least script past q lane) ∙ is)

pub streak_of_same : (script : Plan) (past : List Entry) (e : Entry) → moves (MainTakes ∷ []) e.kind ≡ false
    → streak_of script (past ++ e ∷ []) ≡ streak_of script past
streak_of_same script past e quiet = streak_of_push script past e ∙ by_kind e.kind quiet (streak_of script past)
  where
    by_kind : (kind : Kind) → moves (MainTakes ∷ []) kind ≡ false → (n : ℕ) → streak_after script past n kind ≡ n
    by_kind (kinds.MainTake task queue found) h n = absurd (true≢false h)
    by_kind kind h n = refl
