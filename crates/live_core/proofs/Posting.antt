-- What may be posted in an open plan, whatever the reply is; and that what may be posted is declared and new.
-- Cited by `Books::is_posting_it`, `Asks`, `Fits`, `May`.
use Rattle.std.proofs.Common.{◌≡◌, ℕ, ◌<◌, Bool, true, false, cond, List, length, refl, sym, ap, subst, ◌∙◌, Option, Some, None, ⊎_elim, arith}
use Rattle.std.specs.Prelude.{◌&&◌, ◌||◌, ◌==◌, is_some, nat_le, nat_lt, not}
use Rattle.std.specs.List.{list_any}
use Rattle.std.proofs.lemmas.Bool.{and_parts, eqb-true, le-leb, ltb-true, not-true, or_cases}
use Rattle.list_laws.proofs.Tests.{list_any_congr}
use Rattle.list_laws.specs.Lists.{holds_of}
use Rattle.task_base.specs.Plan.{Plan}
use Rattle.task_base.specs.declared.entry.Entry.{Entry}
use Rattle.task_base.specs.declared.entry.Kind.{Kind}
use Rattle.task_base.specs.declared.entry.Kind.TheVariants as kinds
use Rattle.task_base.specs.declared.limits.TheConstants.{MOST_MICROSECONDS}
use Rattle.task_base.specs.declared.step.Step.{Step}
use Rattle.task_base.specs.declared.step.Step.TheVariants as steps
use Rattle.task_model.specs.Seats.{Running, running, steps_of}
use Rattle.hist_model.proofs.Laws.Choice.{found}
use Rattle.hist_model.proofs.Laws.Consistent.{legal_is_consistent}
use Rattle.hist_model.specs.Allowed.{by_own_step, by_script, by_task, enters, is_posted_by, may_post}
use Rattle.hist_model.specs.Legal.{IsLegal}
use Rattle.hist_model.specs.Open.{IsOpen, is_guest, is_kept, is_post_within, is_poster, posts_task, was_posted}

-- ---- what a post says of its reply is not asked

own_post : (plan : Plan) (past : List Entry) (seat task runner delay : ℕ) (a b : Bool)
    → by_own_step plan past seat (kinds.Post task runner delay a) ≡ by_own_step plan past seat (kinds.Post task runner delay b)
own_post plan past seat task runner delay a b = at (running past seat)
  where
    same : (t : ℕ) (step : Step) → enters t step (kinds.Post task runner delay a) ≡ enters t step (kinds.Post task runner delay b)
    same t (steps.Post u r d) = refl
    same t step = refl

    at : (o : Option Running) → holds_of (λ (w : Running). list_any (λ step. enters w.task step (kinds.Post task runner delay a)) (steps_of plan w.task)) o
        ≡ holds_of (λ (w : Running). list_any (λ step. enters w.task step (kinds.Post task runner delay b)) (steps_of plan w.task)) o
    at None = refl
    at (Some w) = list_any_congr _ _ (steps_of plan w.task) (same w.task)

own_main : (plan : Plan) (past : List Entry) (seat task queue delay : ℕ) (a b : Bool)
    → by_own_step plan past seat (kinds.Main task queue delay a) ≡ by_own_step plan past seat (kinds.Main task queue delay b)
own_main plan past seat task queue delay a b = at (running past seat)
  where
    same : (t : ℕ) (step : Step) → enters t step (kinds.Main task queue delay a) ≡ enters t step (kinds.Main task queue delay b)
    same t (steps.Main u q d) = refl
    same t step = refl

    at : (o : Option Running) → holds_of (λ (w : Running). list_any (λ step. enters w.task step (kinds.Main task queue delay a)) (steps_of plan w.task)) o
        ≡ holds_of (λ (w : Running). list_any (λ step. enters w.task step (kinds.Main task queue delay b)) (steps_of plan w.task)) o
    at None = refl
    at (Some w) = list_any_congr _ _ (steps_of plan w.task) (same w.task)

pub any_reply : (plan : Plan) (past : List Entry) (seat task runner delay : ℕ) (a b : Bool)
    → may_post plan past seat task (kinds.Post task runner delay a) ≡ may_post plan past seat task (kinds.Post task runner delay b)
any_reply plan past seat task runner delay a b =
    ap (λ own. is_post_within plan (kinds.Post task runner delay a) && not (was_posted past task) && cond (is_kept plan task) own (is_poster plan past seat))
    (own_post plan past seat task runner delay a b)

pub any_main_reply : (plan : Plan) (past : List Entry) (seat task queue delay : ℕ) (a b : Bool)
    → may_post plan past seat task (kinds.Main task queue delay a) ≡ may_post plan past seat task (kinds.Main task queue delay b)
any_main_reply plan past seat task queue delay a b =
    ap (λ own. is_post_within plan (kinds.Main task queue delay a) && not (was_posted past task) && cond (is_kept plan task) own (is_poster plan past seat))
    (own_main plan past seat task queue delay a b)

-- ---- in an open plan

pub freely : (plan : Plan) (past : List Entry) (seat task : ℕ) (kind : Kind) → IsOpen plan → may_post plan past seat task kind ≡ true
    → is_posted_by plan past seat task kind ≡ true
freely plan past seat task kind opened may =
    ap (λ o. cond o (may_post plan past seat task kind) (by_script plan past seat kind || by_task plan past seat kind)) opened ∙ may

pub is_free_post : (plan : Plan) (past : List Entry) (seat task : ℕ) (kind : Kind) → IsOpen plan → is_posted_by plan past seat task kind ≡ true
    → may_post plan past seat task kind ≡ true
is_free_post plan past seat task kind opened posted =
    ap (λ o. cond o (may_post plan past seat task kind) (by_script plan past seat kind || by_task plan past seat kind)) (sym opened) ∙ posted

-- ---- what may be posted

pub record IsNewPost (plan : Plan) (past : List Entry) (seat task : ℕ) (kind : Kind) : Type 0 where
  pub within : is_post_within plan kind ≡ true
  pub fresh : was_posted past task ≡ false
  pub poster : cond (is_kept plan task) (by_own_step plan past seat kind) (is_poster plan past seat) ≡ true

pub new_post : (plan : Plan) (past : List Entry) (seat task : ℕ) (kind : Kind) → may_post plan past seat task kind ≡ true → IsNewPost plan past seat task kind
new_post plan past seat task kind may =
    let all = and_parts (is_post_within plan kind && not (was_posted past task)) _ may in
    let front = and_parts (is_post_within plan kind) (not (was_posted past task)) all.0 in
    record { within = front.0; fresh = not-true (was_posted past task) front.1; poster = all.1 }

-- it is declared
pub post_declared : (plan : Plan) (task : ℕ) (kind : Kind) → posts_task task kind ≡ true → is_post_within plan kind ≡ true → task < length plan.tasks
post_declared plan task (kinds.Post posted runner delay ok) posts within = subst (λ t. t < length plan.tasks) (eqb-true posted task posts)
    (ltb-true posted (length plan.tasks) (and_parts (nat_lt posted (length plan.tasks)) (nat_lt runner (length plan.runners))
    (and_parts _ (nat_le delay MOST_MICROSECONDS) within).0).0)
post_declared plan task (kinds.Main posted queue delay ok) posts within = subst (λ t. t < length plan.tasks) (eqb-true posted task posts)
    (ltb-true posted (length plan.tasks) (and_parts (nat_lt posted (length plan.tasks)) (nat_lt queue (length plan.queues))
    (and_parts _ (nat_le delay MOST_MICROSECONDS) within).0).0)
post_declared plan task kind posts within = absurd cc

-- ---- who posts is a seat of the plan

pub runs_known : (plan : Plan) (past : List Entry) (seat : ℕ) (w : Running) → IsLegal plan past → running past seat ≡ Some w → nat_le seat plan.workers ≡ true
runs_known plan past seat w legal runs = le-leb seat plan.workers ((legal_is_consistent plan past legal w.is_main).runs seat w runs refl).can.known

pub poster_known : (plan : Plan) (past : List Entry) (seat : ℕ) → IsLegal plan past → is_poster plan past seat ≡ true → nat_le seat plan.workers ≡ true
poster_known plan past seat legal posts = ⊎_elim
    (λ front. ⊎_elim (λ driver. le-leb seat plan.workers (omega (arith, eqb-true seat 0 driver)))
    (λ guest. le-leb seat plan.workers (omega (arith, eqb-true seat plan.workers (and_parts plan.is_open (seat == plan.workers) guest).1)))
    (or_cases (seat == 0) (is_guest plan seat) front))
    (λ runs. by_running (running past seat) refl runs)
    (or_cases (seat == 0 || is_guest plan seat) (is_some (running past seat)) posts)
  where
    by_running : (o : Option Running) → running past seat ≡ o → is_some o ≡ true → nat_le seat plan.workers ≡ true
    by_running None is h = absurd cc
    by_running (Some w) is h = runs_known plan past seat w legal is

-- also where its own step posts the task
pub new_post_known : (plan : Plan) (past : List Entry) (seat task : ℕ) (kind : Kind) → IsLegal plan past → IsNewPost plan past seat task kind
    → nat_le seat plan.workers ≡ true
new_post_known plan past seat task kind legal new = by (is_kept plan task) new.poster
  where
    by : (b : Bool) → cond b (by_own_step plan past seat kind) (is_poster plan past seat) ≡ true → nat_le seat plan.workers ≡ true
    by false poster = poster_known plan past seat legal poster
    by true own = let w = found (λ (x : Running). list_any (λ step. enters x.task step kind) (steps_of plan x.task)) (running past seat) own in
        runs_known plan past seat w.value legal w.is
