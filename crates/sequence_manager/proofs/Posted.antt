-- What is counted and what waits in a past that has accepted one more task.
-- Cited by `DelayedPosts`, `Posts`.
use Rattle.std.proofs.Common.{◌≡◌, ℕ, ◌+◌, ◌<◌, Bool, true, false, cond, List, [], ◌∷◌, ◌++◌, refl, ap, ◌∙◌, arith}
use Rattle.std.specs.Prelude.{◌&&◌, ◌==◌, nat_lt, not, filter}
use Rattle.std.proofs.lemmas.Bool.{lt-ltb, ltb-true}
use Rattle.std.proofs.lemmas.List.Elements.{filter-append}
use Rattle.std.proofs.Math.Bool.{or-false}
use Rattle.list_laws.specs.Lists.{count}
use Rattle.list_laws.proofs.Filters.{filter_congr}
use Rattle.list_laws.proofs.Places.{count-push}
use Rattle.task_base.specs.declared.entry.Entry.{Entry}
use Rattle.task_base.specs.declared.entry.Kind.TheVariants as kinds
use Rattle.task_model.proofs.Growth.{is_closed_push, main_posts_push}
use Rattle.task_model.specs.Posts.{Posted, is_delayed, main_posts, post_behind}
use Rattle.task_model.specs.Refusal.{is_closed}
use Rattle.task_model.specs.Time.{now_of}
use Rattle.sequence_manager.specs.Calls.{after_main}
use Rattle.sequence_manager.specs.Queues.{waits}
use Rattle.sequence_manager.proofs.Parts.{posted_to}
use Rattle.sequence_manager.proofs.Quiet.{now_kept}

-- the entry of an accepted post
abbrev pub accepts : ℕ → ℕ → ℕ → ℕ → Entry
accepts seat task queue delay = record { seat = seat; kind = kinds.Main task queue delay true }

-- how many tasks were posted to a queue
pub posted_at_post : (past : List Entry) (seat task queue delay q : ℕ)
    → posted_to (after_main past seat task queue delay true) q ≡ posted_to past q + cond (queue == q) 1 0
posted_at_post past seat task queue delay q =
    ap (count (λ p. p.home == q)) (main_posts_push past (accepts seat task queue delay))
    ∙ count-push (λ p. p.home == q) (main_posts past) (post_behind past task queue delay)

-- the tasks that wait, and the new one where that waits
pub waiting_at_post : (past : List Entry) (seat task queue delay : ℕ) → is_closed past queue ≡ false
    → filter (waits (after_main past seat task queue delay true)) (main_posts (after_main past seat task queue delay true))
    ≡ filter (waits past) (main_posts past) ++ cond (nat_lt 0 delay) (post_behind past task queue delay ∷ []) []
waiting_at_post past seat task queue delay still_open =
    ap (filter (waits (past ++ e ∷ []))) (main_posts_push past e)
    ∙ filter-append (waits (past ++ e ∷ [])) (main_posts past) (new ∷ [])
    ∙ ap (λ ps. ps ++ cond (waits (past ++ e ∷ []) new) (new ∷ []) []) (filter_congr (waits (past ++ e ∷ [])) (waits past) (main_posts past) same)
    ∙ ap (λ b. filter (waits past) (main_posts past) ++ cond b (new ∷ []) []) (same new
    ∙ ap (λ b. nat_lt 0 delay && not b && nat_lt (now_of past) (now_of past + delay)) still_open
    ∙ later (nat_lt 0 delay) refl)
  where
    e : Entry
    e = accepts seat task queue delay

    new : Posted
    new = post_behind past task queue delay

    same : (p : Posted) → waits (past ++ e ∷ []) p ≡ waits past p
    same p =
        ap (λ b. is_delayed p && not b && nat_lt (now_of (past ++ e ∷ [])) p.ripe) (is_closed_push past e p.home ∙ or-false (is_closed past p.home))
        ∙ ap (λ n. is_delayed p && not (is_closed past p.home) && nat_lt n p.ripe) (now_kept past e refl)

    later : (b : Bool) → nat_lt 0 delay ≡ b → (b && true && nat_lt (now_of past) (now_of past + delay)) ≡ b
    later true is = lt-ltb (now_of past) (now_of past + delay) (let positive : 0 < delay = ltb-true 0 delay is in omega (arith, positive))
    later false is = refl
