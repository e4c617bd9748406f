-- What a past of plain entries leaves of the main queues: no fence, no closed queue, the classes of the script, no delay.
-- Cited by `Choice`, `Front`, `Kept`.
use Rattle.std.proofs.Common.{◌≡◌, ℕ, length, Bool, true, false, cond, eqb, List, [], ◌∷◌, ◌++◌, map, refl, sym, ap, ◌∙◌, subst, None}
use Rattle.std.specs.Prelude.{◌||◌, ◌&&◌, nat_lt, slice_get}
use Rattle.std.specs.List.{AllByRecursion}
use Rattle.std.specs.Option.{option_map_or}
use Rattle.std.proofs.lemmas.Bool.{and_parts, eqb-true, true≢false}
use Rattle.std.proofs.lemmas.List.{map-append}
use Rattle.list_laws.proofs.Elements.{AllByRecursion-append, AllByRecursion-back, AllByRecursion-front, push_induction}
use Rattle.list_laws.proofs.Tests.{list_any_none}
use Rattle.task_base.specs.Plan.{Plan}
use Rattle.task_base.specs.declared.entry.Entry.{Entry}
use Rattle.task_base.specs.declared.entry.Kind.{Kind}
use Rattle.task_base.specs.declared.entry.Kind.TheVariants as kinds
use Rattle.task_model.specs.MainQueues.{class_of, class_after, fence_of, fence_after, immediate_fronts, is_delayed_task, streak_of, streak_after}
use Rattle.queue_laws.specs.Orders.{main_arrivals, drawing_by}
use Rattle.task_model.specs.Past.{fold_past}
use Rattle.task_model.specs.Posts.{is_delayed, main_posted_by, main_posts}
use Rattle.task_model.specs.Refusal.{is_closed, closes}
use Rattle.task_model.proofs.Growth.{class_of_push, fence_of_push, is_closed_push, main_posts_push, streak_of_push}
use Rattle.queue_laws.proofs.Arrivals.{main_arrivals_push}
use Rattle.nested_loop.specs.Waiting.{is_plain}

-- the class of a queue in a script
abbrev pub first_class : Plan → ℕ → ℕ
first_class script q = option_map_or (λ queue. queue.class) (slice_get script.queues q) 0

-- nothing but posts, takes and ends has touched the main queues
pub record IsPlain (script : Plan) (entries : List Entry) : Type 0 where
  pub not_closed : (q : ℕ) → is_closed entries q ≡ false
  pub no_fence : (q : ℕ) → fence_of entries q ≡ None
  pub class_is : (q : ℕ) → class_of script entries q ≡ first_class script q
  pub immediate : AllByRecursion (λ p. is_delayed p ≡ false) (main_posts entries)
  pub no_streak : streak_of script entries ≡ 0
  pub arrivals : map (λ o. o.posted) (main_arrivals entries) ≡ main_posts entries

-- what a plain entry does
record Keeps (script : Plan) (entries : List Entry) (kind : Kind) : Type 0 where
  closes_none : (q : ℕ) → closes q kind ≡ false
  fences_none : (q : ℕ) → fence_after q entries None kind ≡ None
  ranks_none : (q now : ℕ) → class_after q now kind ≡ now
  posts_immediate : AllByRecursion (λ p. is_delayed p ≡ false) (main_posted_by entries kind)
  streaks_none : ((t : ℕ) → is_delayed_task entries t ≡ false) → streak_after script entries 0 kind ≡ 0
  draws_posted : map (λ o. o.posted) (drawing_by entries kind) ≡ main_posted_by entries kind

keeps : (script : Plan) (entries : List Entry) (kind : Kind) → is_plain kind ≡ true → Keeps script entries kind
keeps script entries (kinds.Main task queue delay ok) h = by_delay delay ok (eqb-true delay 0 (and_parts (eqb delay 0) ok h).0) (and_parts (eqb delay 0) ok h).1
  where
    by_delay : (d : ℕ) (b : Bool) → d ≡ 0 → b ≡ true → Keeps script entries (kinds.Main task queue d b)
    by_delay d b zero accepted = subst (λ n. Keeps script entries (kinds.Main task queue n b)) (sym zero)
        (subst (λ c. Keeps script entries (kinds.Main task queue 0 c)) (sym accepted) (record {
          closes_none = λ q. refl;
          fences_none = λ q. refl;
          ranks_none = λ q now. refl;
          posts_immediate = (refl, tt);
          streaks_none = λ none. refl;
          draws_posted = refl;
        }))
keeps script entries (kinds.MainTake task queue found) h = record {
  closes_none = λ q. refl;
  fences_none = λ q. refl;
  ranks_none = λ q now. refl;
  posts_immediate = tt;
  streaks_none = λ none. ap (λ b. cond (b && nat_lt 0 (length (immediate_fronts script entries))) 1 0) (none task);
  draws_posted = refl;
}
keeps script entries (kinds.MainEnd task left) h = record {
  closes_none = λ q. refl;
  fences_none = λ q. refl;
  ranks_none = λ q now. refl;
  posts_immediate = tt;
  streaks_none = λ none. refl;
  draws_posted = refl;
}
keeps script entries kind h = absurd (true≢false (sym h))

none_delayed : (entries : List Entry) → AllByRecursion (λ p. is_delayed p ≡ false) (main_posts entries) → (t : ℕ) → is_delayed_task entries t ≡ false
none_delayed entries all t = list_any_none (λ p. eqb p.task t && is_delayed p) (main_posts entries)
    (Rattle.list_laws.proofs.Elements.AllByRecursion-map (λ p. is_delayed p ≡ false) (λ p. (eqb p.task t && is_delayed p) ≡ false) (main_posts entries)
    (λ p none. by_task (eqb p.task t) (is_delayed p) none) all)
  where
    by_task : (a b : Bool) → b ≡ false → (a && b) ≡ false
    by_task true b none = none
    by_task false b none = refl

plain_grows : (script : Plan) (entries : List Entry) (e : Entry) → IsPlain script entries → is_plain e.kind ≡ true → IsPlain script (entries ++ e ∷ [])
plain_grows script entries e plain h =
    let kept = keeps script entries e.kind h in
    record {
      not_closed = λ q. is_closed_push entries e q ∙ ap (λ b. b || closes q e.kind) (plain.not_closed q) ∙ kept.closes_none q;
      no_fence = λ q. fence_of_push entries e q ∙ ap (λ o. fence_after q entries o e.kind) (plain.no_fence q) ∙ kept.fences_none q;
      class_is = λ q. class_of_push script entries e q ∙ kept.ranks_none q (class_of script entries q) ∙ plain.class_is q;
      immediate = subst (AllByRecursion (λ p. is_delayed p ≡ false)) (sym (main_posts_push entries e))
          (AllByRecursion-append (λ p. is_delayed p ≡ false) (main_posts entries) (main_posted_by entries e.kind) plain.immediate kept.posts_immediate);
      no_streak = streak_of_push script entries e ∙ ap (λ n. streak_after script entries n e.kind) plain.no_streak
          ∙ kept.streaks_none (none_delayed entries plain.immediate);
      arrivals = ap (map (λ o. o.posted)) (main_arrivals_push entries e)
          ∙ map-append (λ o. o.posted) (main_arrivals entries) (drawing_by entries e.kind)
          ∙ ap (λ ps. ps ++ map (λ o. o.posted) (drawing_by entries e.kind)) plain.arrivals
          ∙ ap (λ ps. main_posts entries ++ ps) kept.draws_posted
          ∙ sym (main_posts_push entries e);
    }

plain_at_start : (script : Plan) → IsPlain script []
unfolding is_closed fence_of class_of main_posts main_arrivals streak_of fold_past
plain_at_start script = record {
  not_closed = λ q. refl;
  no_fence = λ q. refl;
  class_is = λ q. refl;
  immediate = tt;
  no_streak = refl;
  arrivals = refl;
}

pub plain_past : (script : Plan) (entries : List Entry) → AllByRecursion (λ e. is_plain e.kind ≡ true) entries → IsPlain script entries
plain_past script = push_induction (λ entries. AllByRecursion (λ e. is_plain e.kind ≡ true) entries → IsPlain script entries) (λ all. plain_at_start script)
    (λ entries e before all. plain_grows script entries e (before (AllByRecursion-front (λ x. is_plain x.kind ≡ true) entries (e ∷ []) all))
    (AllByRecursion-back (λ x. is_plain x.kind ≡ true) entries (e ∷ []) all).0)
