-- How long immediate tasks have waited, once the chosen task was taken.
-- Cited by `Takes`.
use Rattle.std.proofs.Common.{◌≡◌, ℕ, ◌+◌, Bool, true, false, cond, List, length, refl, sym, ap, ◌∙◌}
use Rattle.std.specs.Prelude.{◌==◌, ◌&&◌, nat_lt, Contains}
use Rattle.std.specs.List.{list_any}
use Rattle.std.proofs.lemmas.Bool.{eqb-true, not-true}
use Rattle.list_laws.proofs.Elements.{AllByRecursion-contains_itself, AllByRecursion-map}
use Rattle.list_laws.proofs.Tests.{list_any_none}
use Rattle.list_laws.proofs.Values.{eqb-same, some-injective}
use Rattle.queue_selector.specs.Selecting.{Selecting, streak_after}
use Rattle.task_base.specs.Plan.{Plan}
use Rattle.task_base.specs.declared.entry.Entry.{Entry}
use Rattle.task_base.specs.declared.entry.Kind.TheVariants as kinds
use Rattle.task_base.specs.declared.script.Lane.{Lane}
use Rattle.task_base.specs.declared.script.Lane.TheVariants.{Immediate, Delayed}
use Rattle.task_base.specs.Entries.{next}
use Rattle.task_model.proofs.Growth.{streak_of_push}
use Rattle.task_model.specs.MainQueues.{immediate_fronts, is_delayed_task, is_of_lane, streak_of}
use Rattle.task_model.specs.Posts.{Posted, is_delayed, main_posts}
use Rattle.pool_laws.specs.Posts.{InOrder, main_post_of}
use Rattle.sequence_manager.proofs.Accepted.{one_post}
use Rattle.sequence_manager.proofs.Choice.{Knows, immediate_is_open_seen}
use Rattle.sequence_manager.proofs.Lists.{any_contains}

-- whether a task is a delayed one, by its post
is_delayed_by_post : (past : List Entry) (p : Posted) → InOrder (main_posts past) → Contains (main_posts past) p → is_delayed_task past p.task ≡ is_delayed p
is_delayed_by_post past p order among = by_delayed (is_delayed p) refl
  where
    marks : Posted → Bool
    marks x = (x.task == p.task) && is_delayed x

    none : is_delayed p ≡ false → (x : Posted) → Contains (main_posts past) x → (b : Bool) → (x.task == p.task) ≡ b → (b && is_delayed x) ≡ false
    none immediate x also false other = refl
    none immediate x also true same =
        let one : x ≡ p =
        some-injective (sym (one_post past x order also) ∙ ap (main_post_of past) (eqb-true x.task p.task same) ∙ one_post past p order among) in
        ap is_delayed one ∙ immediate

    by_delayed : (b : Bool) → is_delayed p ≡ b → list_any marks (main_posts past) ≡ b
    by_delayed true delayed = any_contains marks (main_posts past) p among (rw (eqb-same p.task) delayed)
    by_delayed false immediate = list_any_none marks (main_posts past) (AllByRecursion-map (Contains (main_posts past)) (λ x. marks x ≡ false) (main_posts past)
        (λ x also. none immediate x also (x.task == p.task) refl) (AllByRecursion-contains_itself (main_posts past)))

-- the selector counts as the past does
pub streak_at_take : (script : Plan) (past : List Entry) (waiting : List Posted) (selector : Selecting) (lane : Lane) (p : Posted) (task queue found : ℕ)
    → Knows script past waiting selector → InOrder (main_posts past) → Contains (main_posts past) p → is_of_lane lane p ≡ true → task ≡ p.task
    → streak_after selector lane ≡ streak_of script (next past 0 (kinds.MainTake task queue found))
streak_at_take script past waiting selector lane p task queue found knows order among of_lane is =
    by_lane lane of_lane ∙ sym (streak_of_push script past (record { seat = 0; kind = kinds.MainTake task queue found }))
  where
    waits : Bool
    waits = nat_lt 0 (length (immediate_fronts script past))

    delayed : is_delayed_task past task ≡ is_delayed p
    delayed = ap (is_delayed_task past) is ∙ is_delayed_by_post past p order among

    by_lane : (l : Lane) → is_of_lane l p ≡ true → streak_after selector l ≡ cond (is_delayed_task past task && waits) (streak_of script past + 1) 0
    by_lane Immediate here = sym (ap (λ b. cond (b && waits) (streak_of script past + 1) 0) (delayed ∙ not-true (is_delayed p) here))
    by_lane Delayed here =
        ap (λ b. cond b (selector.streak + 1) 0) (immediate_is_open_seen script past waiting selector knows)
        ∙ ap (λ n. cond waits (n + 1) 0) knows.streak
        ∙ sym (ap (λ b. cond (b && waits) (streak_of script past + 1) 0) (delayed ∙ here))
