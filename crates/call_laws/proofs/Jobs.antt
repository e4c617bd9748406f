-- What the pool's answers on jobs say.
-- Cited by `env_core`, `live_core`.
use Rattle.std.proofs.Common.{◌≡◌, ℕ, Bool, true, false, cond, List, refl, sym, ap, ◌∙◌, Option, Some, None}
use Rattle.std.proofs.lemmas.Option.{none-some, same_Some}
use Rattle.std.specs.Option.{option_map}
use Rattle.task_base.specs.Plan.{Plan}
use Rattle.task_base.specs.declared.entry.Entry.{Entry}
use Rattle.task_base.specs.declared.entry.JobReply.{JobReply}
use Rattle.task_model.specs.Jobs.{claimed, free_id, is_empty, may_enter, reply_of}
use Rattle.pool_core.specs.JobCalls.{entering, joined_of}
use Rattle.pool_laws.proofs.Jobs.Numbers.{free_id_is_first}

-- the job may be entered, and these are the least free number and the least unclaimed item
pub record IsOpenJob (plan : Plan) (past : List Entry) (job id item : ℕ) : Type 0 where
  pub may : may_enter plan past job ≡ true
  pub id_is : free_id plan past job ≡ Some id
  pub item_is : item ≡ claimed past job

-- who asked to go in, and got an item
pub has_got : (plan : Plan) (past : List Entry) (job id item : ℕ) → ◌≡◌ {A = Option (ℕ × ℕ)} (Some (id, item)) (entering plan past job)
    → IsOpenJob plan past job id item
has_got plan past job id item h = by_may_enter (may_enter plan past job) (free_id plan past job) refl refl h
  where
    by_may_enter : (b : Bool) (o : Option ℕ) → may_enter plan past job ≡ b → free_id plan past job ≡ o
        → ◌≡◌ {A = Option (ℕ × ℕ)} (Some (id, item)) (cond b (option_map (λ n. (n, claimed past job)) o) None) → IsOpenJob plan past job id item
    by_may_enter true (Some n) may free k =
        let same : ◌≡◌ {A = ℕ × ℕ} (id, item) (n, claimed past job) = same_Some _ _ k in
        record { may = may; id_is = free ∙ ap Some (sym (ap (λ (p : ℕ × ℕ). p.0) same)); item_is = ap (λ (p : ℕ × ℕ). p.1) same }
    by_may_enter true None may free k = absurd (none-some _ (sym k))
    by_may_enter false o may free k = absurd (none-some _ (sym k))

-- who got nothing may not go in: some number is always free
pub has_got_none : (plan : Plan) (past : List Entry) (job : ℕ) → None ≡ entering plan past job → may_enter plan past job ≡ false
has_got_none plan past job h = by_may_enter (may_enter plan past job) (free_id_is_first plan past job).0 (free_id_is_first plan past job).1 h
  where
    by_may_enter : (b : Bool) (n : ℕ) → free_id plan past job ≡ Some n
        → ◌≡◌ {A = Option (ℕ × ℕ)} None (cond b (option_map (λ n. (n, claimed past job)) (free_id plan past job)) None) → b ≡ false
    by_may_enter false n free k = refl
    by_may_enter true n free k = absurd (none-some {A = ℕ × ℕ} (n, claimed past job) (k ∙ ap (λ o. option_map (λ m. (m, claimed past job)) o) free))

-- a reply to a join comes where nobody is inside
pub joined_is : (plan : Plan) (past : List Entry) (job : ℕ) (reply : JobReply) → joined_of plan past job ≡ Some reply
    → (is_empty plan past job ≡ true) × (reply_of plan past job ≡ Some reply)
joined_is plan past job reply h = by_empty (is_empty plan past job) h
  where
    by_empty : (b : Bool) → cond b (reply_of plan past job) None ≡ Some reply → (b ≡ true) × (reply_of plan past job ≡ Some reply)
    by_empty true k = (refl, k)
    by_empty false k = absurd (none-some reply k)
