-- Entries that accept no main task, make no tick and close no queue: which tasks have orders, and which wait, stays.
-- Cited by `Closes`, `DelayedPosts`, `Driver`, `Fences`, `Others`, `Posted`, `Posts`, `Ranks`.
use Rattle.std.proofs.Common.{◌≡◌, ℕ, ◌+◌, true, false, List, [], ◌∷◌, ◌++◌, refl, sym, ap, ◌∙◌, arith}
use Rattle.std.specs.Prelude.{◌&&◌, ◌||◌, nat_lt, not, filter}
use Rattle.std.proofs.lemmas.Bool.{or_right, true≢false}
use Rattle.std.proofs.Math.Bool.{or-false}
use Rattle.list_laws.proofs.Filters.{filter_congr}
use Rattle.list_laws.specs.Sorts.{sort_by}
use Rattle.pool_laws.proofs.Keys.Posts.{main_posts_same}
use Rattle.queue_laws.proofs.Arrivals.{main_arrivals_same}
use Rattle.queue_laws.specs.Orders.{moves_orders, order_parts, main_arrivals}
use Rattle.task_base.specs.Plan.{Plan}
use Rattle.task_base.specs.declared.entry.Entry.{Entry}
use Rattle.task_base.specs.declared.entry.Kind.{Kind}
use Rattle.task_base.specs.declared.entry.Kind.TheVariants as kinds
use Rattle.task_base.specs.declared.script.FenceAt.TheVariants.{Now}
use Rattle.task_model.proofs.Growth.{draws_push, is_closed_push, is_main_taken_push, now_of_push}
use Rattle.task_model.specs.Orders.{draws, drawn_by, next_draw}
use Rattle.task_model.specs.Posts.{is_delayed, is_main_taken, main_posts, main_takes, ripens_before}
use Rattle.task_model.specs.Refusal.{closes, is_closed}
use Rattle.task_model.specs.Time.{now_after, now_of}
use Rattle.sequence_manager.specs.Pasts.{IsMainPast}
use Rattle.sequence_manager.proofs.Pasts.{past_still}
use Rattle.sequence_manager.specs.Queues.{unripe, waits}
use Rattle.pool_laws.specs.Moves.{Part, MainPosts, Moment, Fences, Closes, moves}
use Rattle.pool_laws.proofs.Moves.{moves_fewer, same_moment}

-- a main post, a tick and a closing: by these alone other main tasks wait
abbrev pub due_parts : List Part
due_parts = Closes ∷ order_parts

pub quiet_posts : (past : List Entry) (e : Entry) → moves due_parts e.kind ≡ false → main_posts (past ++ e ∷ []) ≡ main_posts past
quiet_posts past e quiet = main_posts_same past e (moves_fewer (MainPosts ∷ []) due_parts e.kind refl quiet)

pub quiet_arrivals : (past : List Entry) (e : Entry) → moves due_parts e.kind ≡ false → main_arrivals (past ++ e ∷ []) ≡ main_arrivals past
quiet_arrivals past e quiet = main_arrivals_same past e (moves_fewer order_parts due_parts e.kind refl quiet)

-- an entry that is no tick leaves the moment
pub now_kept : (past : List Entry) (e : Entry) → moves_orders e.kind ≡ false → now_of (past ++ e ∷ []) ≡ now_of past
now_kept past e no_tick = now_of_push past e ∙ same_moment (Moment ∷ []) e.kind refl no_tick (now_of past)

pub quiet_now : (past : List Entry) (e : Entry) → moves due_parts e.kind ≡ false → now_of (past ++ e ∷ []) ≡ now_of past
quiet_now past e quiet = now_kept past e (moves_fewer (Moment ∷ []) due_parts e.kind refl quiet)

pub quiet_closed : (past : List Entry) (e : Entry) (q : ℕ) → moves due_parts e.kind ≡ false → is_closed (past ++ e ∷ []) q ≡ is_closed past q
quiet_closed past e q quiet = is_closed_push past e q ∙ ap (λ b. is_closed past q || b) (by_kind e.kind quiet) ∙ or-false (is_closed past q)
  where
    by_kind : (kind : Kind) → moves due_parts kind ≡ false → closes q kind ≡ false
    by_kind (kinds.Close queue) h = absurd (true≢false h)
    by_kind kind h = refl

pub quiet_unripe : (past : List Entry) (e : Entry) → moves due_parts e.kind ≡ false → unripe (past ++ e ∷ []) ≡ unripe past
quiet_unripe past e quiet = ap (sort_by ripens_before)
    (ap (filter (waits (past ++ e ∷ []))) (quiet_posts past e quiet)
    ∙ filter_congr (waits (past ++ e ∷ [])) (waits past) (main_posts past)
    (λ p. ap (λ b. is_delayed p && not b && nat_lt (now_of (past ++ e ∷ [])) p.ripe) (quiet_closed past e p.home quiet)
    ∙ ap (λ n. is_delayed p && not (is_closed past p.home) && nat_lt n p.ripe) (quiet_now past e quiet)))

-- an entry that draws no order
pub draw_kept : (past : List Entry) (e : Entry) → drawn_by past e.kind ≡ 0 → next_draw (past ++ e ∷ []) ≡ next_draw past
draw_kept past e none =
    let grown : draws (past ++ e ∷ []) ≡ draws past + drawn_by past e.kind = draws_push past e in
    ap (λ n. 2 + n) (omega (arith, grown, none))

-- by these alone orders are drawn
abbrev pub draw_parts : List Part
draw_parts = Fences ∷ order_parts

pub no_draw : (past : List Entry) (kind : Kind) → moves draw_parts kind ≡ false → drawn_by past kind ≡ 0
no_draw past (kinds.Main task queue delay true) h = absurd (true≢false h)
no_draw past (kinds.Tick now) h = absurd (true≢false h)
no_draw past (kinds.Fence queue Now) h = absurd (true≢false h)
no_draw past kind h = refl

-- what the main queues need to know of the past stays, where no main task is accepted or taken and no tick made
pub past_kept : (script : Plan) (past : List Entry) (e : Entry) → moves order_parts e.kind ≡ false
    → ((t : ℕ) → is_main_taken (past ++ e ∷ []) t ≡ is_main_taken past t) → IsMainPast script past → IsMainPast script (past ++ e ∷ [])
past_kept script past e quiet taken fits = past_still script past e (moves_fewer (MainPosts ∷ []) order_parts e.kind refl quiet)
    (λ t takes. fits.taken_was_due t (sym (taken t) ∙ is_main_taken_push past e t ∙ or_right (is_main_taken past t) (main_takes t e.kind) takes))
    (rw now (omega arith)) (rw now fits.moment_fits) fits
  where
    now : now_after (now_of past) e.kind ≡ now_of past
    now = same_moment order_parts e.kind refl quiet (now_of past)
