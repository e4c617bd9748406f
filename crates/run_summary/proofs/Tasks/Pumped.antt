-- The pump of such a script takes each main task: it goes on until no main task is left, or until as many have ended as there are
-- tasks.
-- Cited by `Tasks/Once`.
use Rattle.std.proofs.Common.{◌≡◌, ℕ, suc, ◌+◌, ◌<◌, ◌≤◌, Bool, true, false, cond, eqb, List, [], ◌∷◌, ◌++◌, length, refl}
use Rattle.std.proofs.Common.{sym, ap, subst, ◌∙◌, Option, Some, None, inl, inr, arith, append_assoc, append-nil}
use Rattle.std.specs.Prelude.{◌⊎◌, nat_lt, filter, take, drop, Contains, sum_by}
use Rattle.std.specs.List.{list_any, flat_map, filter_map, range_with_len}
use Rattle.std.specs.Option.{option_map, option_to_list}
use Rattle.std.proofs.lemmas.Bool.{and_parts, eqb-true, eq-eqb, ne_eqb, both_ways, true≢false, true_from_ne_false, false_from_ne_true, or_left}
use Rattle.std.proofs.lemmas.List.Folds.{list_any-append}
use Rattle.std.proofs.lemmas.List.Sums.{sum_by-le-sum_by}
use Rattle.task_base.specs.Plan.{Plan}
use Rattle.task_base.specs.declared.entry.Entry.{Entry}
use Rattle.task_base.specs.declared.entry.Kind.{Kind}
use Rattle.task_base.specs.declared.entry.Kind.TheVariants as kinds
use Rattle.task_base.specs.declared.script.Action.{Action}
use Rattle.task_base.specs.declared.script.Action.TheVariants as actions
use Rattle.task_base.specs.declared.script.Lane.TheVariants.{Immediate, Delayed}
use Rattle.list_laws.proofs.Counts.{count-append}
use Rattle.list_laws.proofs.Elements.{AllByRecursion-contains, AllByRecursion-always}
use Rattle.list_laws.proofs.Filters.{filter_always}
use Rattle.list_laws.proofs.Finds.{contained_counts}
use Rattle.list_laws.proofs.Least.{no_least}
use Rattle.list_laws.proofs.Made.{contains_filter, contains_filter_map, contains_not_empty}
use Rattle.list_laws.proofs.Tests.{list_all-from_recursion}
use Rattle.script_model.specs.Laws.Postings.{times}
use Rattle.task_model.specs.Posts.{Posted, is_delayed, posts, main_posts, is_main_taken, main_takes}
use Rattle.pool_laws.specs.Posts.{is_main_ended}
use Rattle.task_model.specs.Orders.{next_draw, order_of}
use Rattle.task_model.specs.MainQueues.{Front, class_of, voters_of, votes_on, is_enabled, is_in_lane, front_with}
use Rattle.task_model.specs.MainQueues.{order_below, front_of, is_open, fronts_of, open_fronts}
use Rattle.hist_model.specs.Views.{own_entries}
use Rattle.hist_model.specs.Script.{wants, is_main_none, is_main_end, IsFinished}
use Rattle.hist_model.specs.Allowed.{by_script, may_come}
use Rattle.hist_model.specs.Legal.{IsLegal}
use Rattle.hist_model.specs.Laws.Consistent.{is_pump}
use Rattle.hist_model.proofs.Laws.AtPlaces.{parted_at, passes_at, past_is_legal, may_come_at}
use Rattle.pool_laws.specs.Runs.{posts_as, posted_as}
use Rattle.pool_laws.proofs.Seats.Runs.{posts_as_push}
use Rattle.hist_model.proofs.Laws.Consistent.{legal_is_consistent}
use Rattle.hist_model.proofs.Laws.Postings.Driver.{actions_post}
use Rattle.hist_model.proofs.Laws.Postings.Counts.{of_task, counted, posted_at_most_once}
use Rattle.run_summary.proofs.Calm.{IsCalm, calm_logs}
use Rattle.run_summary.proofs.Tasks.Driver.{IsPlain, plan_of, main_ends_in, pumped}
use Rattle.run_summary.proofs.Tasks.Comes.{WantedAt, wanted_at}
use Rattle.run_summary.proofs.Tasks.Adding.{AddsUp}
use Rattle.run_summary.proofs.Tasks.Posted.{plain_at, IsPlainPost, plain_posts, is_accepted, HasPost, accepted_post}
use Rattle.run_summary.proofs.Tasks.Rows.{sum_more, sum_ones, count_sum}
use Rattle.run_summary.proofs.Tasks.Ends.{ends_add, ends_are_ended}
use Rattle.run_summary.proofs.Tasks.Rest.{finished_plan}

-- ---- where no front is open, no main task is left

-- in a calm past each front is open
always_open : (script : Plan) (past : List Entry) (f : Front) → IsCalm past → is_open script past f ≡ true
always_open script past f calm = rw (calm.not_closed f.queue, calm.no_fence f.queue, enabled) refl
  where
    enabled : is_enabled script past f.queue ≡ true
    enabled = list_all-from_recursion (votes_on past f.queue) (range_with_len 0 (voters_of script f.queue))
        (AllByRecursion-always (λ v. votes_on past f.queue v ≡ true) (range_with_len 0 (voters_of script f.queue)) (λ v. calm.votes f.queue v))

-- so the main queue has no front where none is open
no_front : (script : Plan) (past : List Entry) → length script.queues ≡ 1 → IsCalm past → length (open_fronts script past) ≡ 0
    → front_of script past 0 Immediate ≡ None
unfolding open_fronts
no_front script past one calm none = by_front (front_of script past 0 Immediate) (option_to_list (front_of script past 0 Delayed))
    (subst (λ n. length (flat_map (fronts_of script past) (range_with_len 0 n)) ≡ 0) one
    (ap length (sym (filter_always (is_open script past) (flat_map (fronts_of script past) (range_with_len 0 (length script.queues)))
    (λ f. always_open script past f calm))) ∙ none))
  where
    by_front : (o : Option Front) (more : List Front) → length ((option_to_list o ++ more) ++ []) ≡ 0 → o ≡ None
    by_front None more h = refl
    by_front (Some f) more h = absurd (omega (arith, h))

-- and no accepted main task that was not taken
none_in_lane : (script : Plan) (past : List Entry) (p : Posted) → front_of script past 0 Immediate ≡ None → Contains (main_posts past) p
    → p.home ≡ 0 → p.delay ≡ 0 → is_main_taken past p.task ≡ false → ⊥
unfolding front_of order_of
none_in_lane script past p none among home_is delay_is free = contains_not_empty
    (filter_map (front_with script past 0 Immediate) (filter (is_in_lane past 0 Immediate) (main_posts past))) own own_there
    (no_least order_below (filter_map (front_with script past 0 Immediate) (filter (is_in_lane past 0 Immediate) (main_posts past))) none)
  where
    own : Front
    own = record { queue = 0; lane = Immediate; task = p.task; order = next_draw (take p.place past); class = class_of script past 0 }

    at_once : is_delayed p ≡ false
    at_once = ap (λ n. nat_lt 0 n) delay_is

    in_lane : is_in_lane past 0 Immediate p ≡ true
    in_lane = rw (home_is, at_once, free) refl

    order_is : order_of past p ≡ Some (next_draw (take p.place past))
    order_is = rw at_once refl

    own_there : Contains (filter_map (front_with script past 0 Immediate) (filter (is_in_lane past 0 Immediate) (main_posts past))) own
    own_there = contains_filter_map (front_with script past 0 Immediate) (filter (is_in_lane past 0 Immediate) (main_posts past)) p own
        (contains_filter (is_in_lane past 0 Immediate) (main_posts past) p among in_lane)
        (ap (option_map (λ n. record { queue = 0; lane = Immediate; task = p.task; order = n; class = class_of script past 0 })) order_is)

-- ---- what was accepted stays so

-- a task has no fewer accepted posts later
grows : (main : Bool) (t : ℕ) (xs ys : List Entry) → of_task t (posts_as main xs) ≤ of_task t (posts_as main (xs ++ ys))
grows main t xs [] = rw (append-nil xs) (omega arith)
grows main t xs (y ∷ ys) = omega (
  arith,
  count-append (λ (p : Posted). eqb p.task t) (posts_as main xs) (posted_as main xs y.kind),
  ap (of_task t) (posts_as_push main xs y),
  grows main t (xs ++ y ∷ []) ys,
  ap (λ l. of_task t (posts_as main l)) (append_assoc xs (y ∷ []) ys),
)

-- no task is accepted on the pool and on the main queue
pub not_on_both : (script : Plan) (size : ℕ) (amount : ℕ → ℕ) (log : List Entry) (t : ℕ) → AddsUp script size amount → IsLegal script log
    → 1 ≤ of_task t (posts log) → 1 ≤ of_task t (main_posts log) → ⊥
not_on_both script size amount log t a legal pool main = omega (
  arith,
  (counted script a.posted_once log legal).accepted t,
  posted_at_most_once script log t a.posted_once legal,
  pool,
  main,
)

-- ---- the pump that finds no main task

-- what wants that entry is a pump, behind which nothing is posted
pump_posts_none : (size t : ℕ) (own : List Entry) (x : Action) (rest : List Action) (made : List Entry) → IsPlain size x rest
    → wants own x made kinds.MainNone ≡ true → actions_post t (x ∷ rest) ≡ 0
pump_posts_none size t own (actions.Pump n) rest made plain h = ap (times t) plain.1
pump_posts_none size t own x rest made plain h = absurd cc

-- the pump finds no main task only where each accepted main task was taken
found_none : (script : Plan) (size : ℕ) (amount : ℕ → ℕ) (past : List Entry) (seat : ℕ) → AddsUp script size amount → IsLegal script past
    → may_come script past seat kinds.MainNone ≡ true → (front_of script past 0 Immediate ≡ None) × ((t : ℕ) → actions_post t (plan_of script past).actions ≡ 0)
unfolding may_come
found_none script size amount past seat a legal may =
    let parts = and_parts (by_script script past seat kinds.MainNone) (eqb (length (open_fronts script past)) 0) may in
    let w : WantedAt script past kinds.MainNone = (wanted_at script past seat kinds.MainNone a.calm.closed parts.0).1 in (
      no_front script past a.one_queue (calm_logs script a.calm past legal) (eqb-true (length (open_fronts script past)) 0 parts.1),
      λ t. ap (λ (p : _). actions_post t p.actions) w.plan_is
          ∙ pump_posts_none size t (own_entries 0 past) w.action w.rest w.made
          (plain_at script size amount past w.action w.rest w.made a w.plan_is).0 w.wants_it,
    )

-- a main task that was not taken in the log was not taken before
not_taken_before : (xs ys : List Entry) (t : ℕ) → is_main_taken (xs ++ ys) t ≡ false → is_main_taken xs t ≡ false
unfolding is_main_taken
not_taken_before xs ys t free = false_from_ne_true (list_any (λ e. main_takes t e.kind) xs) (λ taken. both_ways
    (list_any (λ e. main_takes t e.kind) (xs ++ ys)) free (list_any-append (λ e. main_takes t e.kind) xs ys
    ∙ or_left (list_any (λ e. main_takes t e.kind) xs) (list_any (λ e. main_takes t e.kind) ys) taken))

-- so no accepted main task of the log is left behind it: all tasks were accepted by then
taken_by_none : (script : Plan) (size : ℕ) (amount : ℕ → ℕ) (past rest : List Entry) (seat : ℕ) (p : Posted) → AddsUp script size amount
    → IsLegal script (past ++ rest) → IsLegal script past → may_come script past seat kinds.MainNone ≡ true → Contains (main_posts (past ++ rest)) p
    → is_main_taken (past ++ rest) p.task ≡ false → ⊥
taken_by_none script size amount past rest seat p a whole legal may among free = by_accepted_post (accepted_post p.task past
    (is_accepted script size amount p.task a past legal plain.task_is (none.1 p.task)))
  where
    plain : IsPlainPost true size p
    plain = AllByRecursion-contains (IsPlainPost true size) (main_posts (past ++ rest)) p (plain_posts true script size amount a (past ++ rest) whole) among

    none : (front_of script past 0 Immediate ≡ None) × ((t : ℕ) → actions_post t (plan_of script past).actions ≡ 0)
    none = found_none script size amount past seat a legal may

    by_accepted_post : HasPost (posts past) p.task ⊎ HasPost (main_posts past) p.task → ⊥
    by_accepted_post (inl (q, there, is)) = not_on_both script size amount (past ++ rest) p.task a whole
        (omega (arith, grows false p.task past rest, contained_counts (λ (x : Posted). eqb x.task p.task) (posts past) q there (eq-eqb q.task p.task is)))
        (contained_counts (λ (x : Posted). eqb x.task p.task) (main_posts (past ++ rest)) p among (eq-eqb p.task p.task refl))
    by_accepted_post (inr (q, there, is)) =
        let it : IsPlainPost true size q = AllByRecursion-contains (IsPlainPost true size) (main_posts past) q
        (plain_posts true script size amount a past legal) there in
        none_in_lane script past q none.0 there (omega (arith, it.home_is)) it.delay_is
        (ap (is_main_taken past) is ∙ not_taken_before past rest p.task free)

-- ---- the pump that runs as many as there are

-- what sums to as much as there are numbers has all of them
all_of : (test : ℕ → Bool) (size t : ℕ) → size ≤ sum_by (λ k. cond (test k) 1 0) (range_with_len 0 size) → t < size → test t ≡ true
all_of test size t full below = true_from_ne_false (test t) (λ fails.
    let more : sum_by (λ k. cond (eqb k t) 1 (cond (test k) 1 0)) (range_with_len 0 size) ≡ sum_by (λ k. cond (test k) 1 0) (range_with_len 0 size) + 1 =
    sum_more (λ k. cond (test k) 1 0) (λ k. cond (eqb k t) 1 (cond (test k) 1 0)) 1 t 0 size (omega arith) (omega (arith, below))
    (λ k other. sym (ap (λ b. cond b 1 (cond (test k) 1 0)) (ne_eqb k t other))) (rw (eq-eqb t t refl, fails) refl) in
    let within = sum_by-le-sum_by (λ k. cond (eqb k t) 1 (cond (test k) 1 0)) (λ k. 1) (range_with_len 0 size)
    (λ k. at_most (eqb k t) (test k)) in
    omega (arith, full, more, within, sum_ones 0 size))
  where
    at_most : (b c : Bool) → cond b 1 (cond c 1 0) ≤ 1
    at_most true c = omega arith
    at_most false true = omega arith
    at_most false false = omega arith

-- where as many main tasks ended as there are tasks, each of them ended
all_main_ended : (script : Plan) (size : ℕ) (amount : ℕ → ℕ) (log : List Entry) (t : ℕ) → AddsUp script size amount → IsLegal script log
    → size ≤ main_ends_in log → t < size → is_main_ended log t ≡ true
all_main_ended script size amount log t a legal ends below = all_of (is_main_ended log) size t (omega (
  arith,
  ends,
  count_sum (λ (e : Entry). is_main_end e.kind) (λ e. ends_add true (λ k. 1) e.kind) log (λ e. ones e.kind),
  ends_are_ended true (λ k. 1) script size amount a log legal,
)) below
  where
    ones : (kind : Kind) → ends_add true (λ k. 1) kind ≡ cond (is_main_end kind) 1 0
    ones (kinds.MainEnd task left) = refl
    ones kind = refl

-- ---- each accepted main task is taken

-- the test of that entry is the entry
is_none_kind : (kind : Kind) → is_main_none kind ≡ true → kind ≡ kinds.MainNone
is_none_kind kinds.MainNone h = refl
is_none_kind kind h = absurd cc

-- each accepted main task is taken where the script is finished
pub main_tasks_taken : (script : Plan) (size : ℕ) (amount : ℕ → ℕ) (log : List Entry) (p : Posted) → AddsUp script size amount → IsLegal script log
    → IsFinished script log → Contains (main_posts log) p → is_main_taken log p.task ≡ true
main_tasks_taken script size amount log p a legal done among =
    true_from_ne_false (is_main_taken log p.task) (λ free. by_free free (pumped script size a.plain a.pumps log).how)
  where
    plain : IsPlainPost true size p
    plain = AllByRecursion-contains (IsPlainPost true size) (main_posts log) p (plain_posts true script size amount a log legal) among

    by_free : is_main_taken log p.task ≡ false
        → (list_any is_pump (plan_of script log).actions ≡ true) ⊎ ((list_any (λ e. is_main_none e.kind) log ≡ true) ⊎ (size ≤ main_ends_in log)) → ⊥
    by_free free (inl left) = true≢false (sym left ∙ ap (list_any is_pump) (finished_plan script log a.calm.closed done))
    by_free free (inr (inl none)) =
        let at = passes_at (λ (e : Entry). is_main_none e.kind) log none in
        let parts = parted_at log at.place at.value at.is in
        taken_by_none script size amount (take at.place log) (at.value ∷ drop (suc at.place) log) at.value.seat p a
        (subst (IsLegal script) (sym parts) legal) (past_is_legal script log at.place at.value legal at.is)
        (subst (λ k. may_come script (take at.place log) at.value.seat k ≡ true) (is_none_kind at.value.kind at.passes)
        (may_come_at script log at.place at.value legal at.is))
        (subst (λ l. Contains (main_posts l) p) (sym parts) among) (ap (λ l. is_main_taken l p.task) parts ∙ free)
    by_free free (inr (inr ends)) = both_ways (is_main_taken log p.task) free ((legal_is_consistent script log legal true).taken_before_ended p.task
        (all_main_ended script size amount log p.task a legal ends plain.task_is))
