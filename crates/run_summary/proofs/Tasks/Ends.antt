-- What the ends of tasks add up to: each task ends at most once, so they add up to what the tasks that have ended add up to.
-- Cited by `Tasks/Cells`, `Tasks/Once`, `Tasks/Pumped`, `Tasks`.
use Rattle.std.proofs.Common.{◌≡◌, ℕ, ◌+◌, ◌<◌, ◌≤◌, Bool, true, false, cond, eqb, leb, List, [], ◌∷◌, ◌++◌, refl, sym, ap, subst, ◌∙◌, Some, inl, inr, arith}
use Rattle.std.specs.Prelude.{◌⊎◌, ◌||◌, sum_by}
use Rattle.std.specs.List.{range_with_len}
use Rattle.std.proofs.lemmas.Bool.{and_parts, eq-eqb, ne_eqb}
use Rattle.std.proofs.lemmas.List.Sums.{sum_by_push, sum_by-le-sum_by}
use Rattle.std.proofs.Math.Bool.{or-false}
use Rattle.task_base.specs.Plan.{Plan}
use Rattle.task_base.specs.declared.entry.Entry.{Entry}
use Rattle.task_base.specs.declared.entry.Kind.{Kind}
use Rattle.task_base.specs.declared.entry.Kind.TheVariants as kinds
use Rattle.list_laws.proofs.Elements.{AllByRecursion-contains}
use Rattle.task_model.specs.Posts.{is_ended}
use Rattle.pool_laws.specs.Posts.{is_main_ended}
use Rattle.task_model.specs.Seats.{Running, running}
use Rattle.hist_model.specs.Allowed.{may_come}
use Rattle.hist_model.specs.Legal.{IsLegal}
use Rattle.pool_laws.specs.Runs.{ended_as, ends_as, posts_as, RunsAs}
use Rattle.pool_laws.proofs.Seats.Runs.{ended_as_push}
use Rattle.hist_model.proofs.Laws.Consistent.{legal_is_consistent}
use Rattle.hist_model.proofs.Laws.Legal.{legal_induction}
use Rattle.hist_model.proofs.Laws.Takes.{end_is, main_end_is}
use Rattle.run_summary.proofs.Tasks.Adding.{AddsUp}
use Rattle.run_summary.proofs.Tasks.Posted.{IsPlainPost, plain_posts}
use Rattle.run_summary.proofs.Tasks.Rows.{sum_same, sum_more, sum_zeros}

-- what an entry adds that ends a task of the pool, or a main task
abbrev pub ends_add : Bool → (ℕ → ℕ) → Kind → ℕ
ends_add false f (kinds.End task left) = f task
ends_add true f (kinds.MainEnd task left) = f task
ends_add main f kind = 0

-- what the ends of a past add up to
abbrev pub ends_sum : Bool → (ℕ → ℕ) → List Entry → ℕ
ends_sum main f past = sum_by (λ e. ends_add main f e.kind) past

-- one more entry adds what it ends
pub ends_sum_push : (main : Bool) (f : ℕ → ℕ) (past : List Entry) (e : Entry)
    → ends_sum main f (past ++ e ∷ []) ≡ ends_sum main f past + ends_add main f e.kind
ends_sum_push main f past e = sum_by_push (λ x. ends_add main f x.kind) past e

-- what the tasks that have ended add up to
abbrev pub ended_sum : Bool → (ℕ → ℕ) → ℕ → List Entry → ℕ
ended_sum main f size past = sum_by (λ t. cond (ended_as main past t) (f t) 0) (range_with_len 0 size)

-- ---- what runs was accepted

-- what a seat runs is one of the script's tasks, and has not ended
pub record RunsOne (main : Bool) (size : ℕ) (past : List Entry) (w : Running) : Type 0 where
  pub task_is : w.task < size
  pub home_is : w.home < cond main 1 4
  pub not_ended : ended_as main past w.task ≡ false

-- so it is in every legal past
pub runs_one : (script : Plan) (size : ℕ) (amount : ℕ → ℕ) (past : List Entry) (seat : ℕ) (w : Running) → AddsUp script size amount → IsLegal script past
    → running past seat ≡ Some w → RunsOne w.is_main size past w
runs_one script size amount past seat w a legal runs =
    let r : RunsAs script past seat w w.is_main = (legal_is_consistent script past legal w.is_main).runs seat w runs refl in
    let plain : IsPlainPost w.is_main size r.can.accepted = AllByRecursion-contains (IsPlainPost w.is_main size) (posts_as w.is_main past) r.can.accepted
    (plain_posts w.is_main script size amount a past legal) r.can.posted in
    record {
      task_is = omega (arith, r.can.task_is, plain.task_is);
      home_is = subst (λ n. n < cond w.is_main 1 4) r.can.home_is plain.home_is;
      not_ended = r.not_ended;
    }

-- ---- ends

-- an entry that ends a task, of the pool or of the main queue
pub record EndsOne (main : Bool) (f : ℕ → ℕ) (size : ℕ) (past : List Entry) (kind : Kind) : Type 0 where
  pub task : ℕ
  pub task_is : task < size
  pub not_ended : ended_as main past task ≡ false
  pub adds : ends_add main f kind ≡ f task
  pub ends_it : (t : ℕ) → ends_as main t kind ≡ eqb task t

-- an entry that ends none
pub record EndsNone (main : Bool) (f : ℕ → ℕ) (kind : Kind) : Type 0 where
  pub adds : ends_add main f kind ≡ 0
  pub ends_it : (t : ℕ) → ends_as main t kind ≡ false

-- an entry that may come ends one task that had not ended, or none
pub ends_one : (main : Bool) (f : ℕ → ℕ) (script : Plan) (size : ℕ) (amount : ℕ → ℕ) (past : List Entry) (seat : ℕ) (kind : Kind) → AddsUp script size amount
    → IsLegal script past → may_come script past seat kind ≡ true → EndsOne main f size past kind ⊎ EndsNone main f kind
ends_one false f script size amount past seat (kinds.End task left) a legal may =
    let (w, is, pool, same) = end_is script past seat task left may in
    let r : RunsOne false size past w = subst (λ m. RunsOne m size past w) pool (runs_one script size amount past seat w a legal is) in
    inl (record {
      task = task;
      task_is = omega (arith, same, r.task_is);
      not_ended = ap (is_ended past) (sym same) ∙ r.not_ended;
      adds = refl;
      ends_it = λ t. refl;
    })
ends_one true f script size amount past seat (kinds.MainEnd task left) a legal may =
    let (w, is, main, same) = main_end_is script past seat task left may in
    let r : RunsOne true size past w = subst (λ m. RunsOne m size past w) main (runs_one script size amount past seat w a legal is) in
    inl (record {
      task = task;
      task_is = omega (arith, same, r.task_is);
      not_ended = ap (is_main_ended past) (sym same) ∙ r.not_ended;
      adds = refl;
      ends_it = λ t. refl;
    })
ends_one false f script size amount past seat kind a legal may = inr (record { adds = refl; ends_it = λ t. refl })
ends_one true f script size amount past seat kind a legal may = inr (record { adds = refl; ends_it = λ t. refl })

-- what the ends add up to is what the tasks that have ended add up to
ends_next : (main : Bool) (f : ℕ → ℕ) (size : ℕ) (past : List Entry) (e : Entry) → EndsOne main f size past e.kind ⊎ EndsNone main f e.kind
    → ends_sum main f past ≡ ended_sum main f size past → ends_sum main f (past ++ e ∷ []) ≡ ended_sum main f size (past ++ e ∷ [])
ends_next main f size past e (inl one) before =
    let more : ended_sum main f size (past ++ e ∷ []) ≡ ended_sum main f size past + f one.task =
    sum_more (λ t. cond (ended_as main past t) (f t) 0) (λ t. cond (ended_as main (past ++ e ∷ []) t) (f t) 0) (f one.task) one.task 0 size (omega arith)
    (omega (arith, one.task_is)) other here in
    omega (arith, before, more, ends_sum_push main f past e, one.adds)
  where
    ended : (t : ℕ) → ended_as main (past ++ e ∷ []) t ≡ (ended_as main past t || eqb one.task t)
    ended t = ended_as_push main past e t ∙ ap (λ b. ended_as main past t || b) (one.ends_it t)

    other : (t : ℕ) → (t ≡ one.task → ⊥) → cond (ended_as main past t) (f t) 0 ≡ cond (ended_as main (past ++ e ∷ []) t) (f t) 0
    other t apart = ap (λ b. cond b (f t) 0) (sym (ended t ∙ ap (λ b. ended_as main past t || b) (ne_eqb one.task t (λ same. apart (sym same)))
        ∙ or-false (ended_as main past t)))

    here : cond (ended_as main (past ++ e ∷ []) one.task) (f one.task) 0 ≡ cond (ended_as main past one.task) (f one.task) 0 + f one.task
    here = rw (ended one.task, one.not_ended, eq-eqb one.task one.task refl) (omega arith)
ends_next main f size past e (inr none) before =
    let same : ended_sum main f size past ≡ ended_sum main f size (past ++ e ∷ []) =
    sum_same (λ t. cond (ended_as main past t) (f t) 0) (λ t. cond (ended_as main (past ++ e ∷ []) t) (f t) 0) 0 size
    (λ t from to. ap (λ b. cond b (f t) 0) (sym (ended_as_push main past e t ∙ ap (λ b. ended_as main past t || b) (none.ends_it t)
    ∙ or-false (ended_as main past t)))) in
    omega (arith, before, same, ends_sum_push main f past e, none.adds)

-- at first nothing has ended
none_ended : (main : Bool) (t : ℕ) → ended_as main [] t ≡ false
unfolding is_ended is_main_ended
none_ended false t = refl
none_ended true t = refl

-- so it adds up to nothing
none_ended_sum : (main : Bool) (f : ℕ → ℕ) (size : ℕ) → 0 ≡ ended_sum main f size []
none_ended_sum main f size = sym (sum_zeros 0 size) ∙ sum_same (λ t. 0) (λ t. cond (ended_as main [] t) (f t) 0) 0 size
    (λ t from to. ap (λ b. cond b (f t) 0) (sym (none_ended main t)))

-- each task ends at most once: the ends of a legal past add up to what the tasks that have ended add up to
pub ends_are_ended : (main : Bool) (f : ℕ → ℕ) (script : Plan) (size : ℕ) (amount : ℕ → ℕ) → AddsUp script size amount → (past : List Entry)
    → IsLegal script past → ends_sum main f past ≡ ended_sum main f size past
ends_are_ended main f script size amount a = legal_induction script (λ past. ends_sum main f past ≡ ended_sum main f size past)
    (none_ended_sum main f size) (λ past e legal allowed before. ends_next main f size past e
    (ends_one main f script size amount past e.seat e.kind a legal
    (and_parts (leb e.seat script.workers) (may_come script past e.seat e.kind) allowed).1) before)

-- ---- what has ended by a past is within all

-- a term is taken whole or not at all
ended_within : (b : Bool) (n : ℕ) → cond b n 0 ≤ n
ended_within true n = omega arith
ended_within false n = omega arith

-- the ends of a legal past add up to no more than all tasks
pub ends_within : (main : Bool) (f : ℕ → ℕ) (script : Plan) (size : ℕ) (amount : ℕ → ℕ) (past : List Entry) → AddsUp script size amount → IsLegal script past
    → ends_sum main f past ≤ sum_by f (range_with_len 0 size)
ends_within main f script size amount past a legal = omega (
  arith,
  ends_are_ended main f script size amount a past legal,
  sum_by-le-sum_by (λ t. cond (ended_as main past t) (f t) 0) f (range_with_len 0 size) (λ t. ended_within (ended_as main past t) (f t)),
)
