-- Each task is taken and ended at most once, behind its accepted post, and by one seat.
-- Cited by `Laws/Shutdown/Places`, `Laws/Singly`, `Laws/State`, `starts.rt`, `log_count`, `situation`, `task_reply`, `trace_json`.
use Rattle.std.proofs.Common.{◌≡◌, ℕ, ◌<◌, Bool, true, false, List, [], ◌∷◌, ◌++◌, take, refl, sym, ap, subst, ◌∙◌, Some, inl, inr}
use Rattle.std.specs.Prelude.{slice_get, Contains}
use Rattle.std.specs.List.{list_any, AllByRecursion}
use Rattle.std.proofs.lemmas.Bool.{eqb-true, eq-eqb, both_ways, true≢false, cases_order}
use Rattle.std.proofs.lemmas.Option.{same_Some}
use Rattle.task_base.specs.Plan.{Plan}
use Rattle.task_base.specs.declared.entry.Entry.{Entry}
use Rattle.task_base.specs.declared.entry.Kind.{Kind}
use Rattle.task_base.specs.declared.entry.Kind.TheVariants as kinds
use Rattle.list_laws.proofs.Elements.{push_induction, AllByRecursion-append, AllByRecursion-map, AllByRecursion-contains}
use Rattle.list_laws.proofs.Places.{slice_get-more, slice_get_seam}
use Rattle.task_model.specs.Past.{fold_past}
use Rattle.task_model.specs.Posts.{Posted, posts, main_posts, is_taken, is_ended, is_main_taken}
use Rattle.pool_laws.specs.Posts.{is_main_ended}
use Rattle.task_model.specs.Seats.{Running, running}
use Rattle.hist_model.specs.Allowed.{may_come}
use Rattle.hist_model.specs.Legal.{IsLegal}
use Rattle.hist_model.specs.Laws.Places.{IsAt}
use Rattle.hist_model.specs.Laws.Choice.{IsTake, IsMainTake}
use Rattle.hist_model.specs.Laws.Starts.{TasksStartAtMostOnce}
use Rattle.hist_model.proofs.Laws.AtPlaces.{in_past, of_past, passed_by, past_is_legal, may_come_at}
use Rattle.hist_model.proofs.Laws.Takes.{take_is, main_take_is, end_is, main_end_is}
use Rattle.pool_laws.specs.Runs.{taken_as, ended_as, takes_as, ends_as, posts_as, posted_as}
use Rattle.pool_laws.proofs.Seats.Runs.{posts_as_push}
use Rattle.hist_model.proofs.Laws.Consistent.{legal_is_consistent}
use Rattle.hist_model.proofs.Laws.Order.Pasts.{post_as}
use Rattle.hist_model.proofs.Laws.Since.{taking, RunningSince, running_since}

-- ---- accepted posts stand at their places

-- the accepted post stands in the past
pub record StandsIn (main : Bool) (past : List Entry) (p : Posted) : Type 0 where
  pub poster : ℕ
  pub is : IsAt past p.place poster (post_as main p.task p.home p.delay)

-- what an entry adds stands behind the past
new_stands : (main : Bool) (past : List Entry) (seat : ℕ) (kind : Kind)
    → AllByRecursion (StandsIn main (past ++ record { seat = seat; kind = kind } ∷ [])) (posted_as main past kind)
new_stands false past seat (kinds.Post task runner delay true) = (record { poster = seat; is = slice_get_seam past _ [] }, tt)
new_stands true past seat (kinds.Main task queue delay true) = (record { poster = seat; is = slice_get_seam past _ [] }, tt)
new_stands false past seat (kinds.Post task runner delay false) = tt
new_stands true past seat (kinds.Main task queue delay false) = tt
new_stands false past seat kind = tt
new_stands true past seat kind = tt

none_stands : (main : Bool) → AllByRecursion (StandsIn main []) (posts_as main [])
unfolding fold_past posts main_posts
none_stands false = tt
none_stands true = tt

-- each accepted post stands in the past, at its place
pub all_stand : (main : Bool) (past : List Entry) → AllByRecursion (StandsIn main past) (posts_as main past)
all_stand main = push_induction (λ past. AllByRecursion (StandsIn main past) (posts_as main past)) (none_stands main) (λ past e before.
    subst (AllByRecursion (StandsIn main (past ++ e ∷ []))) (sym (posts_as_push main past e))
    (AllByRecursion-append (StandsIn main (past ++ e ∷ [])) (posts_as main past) (posted_as main past e.kind)
    (AllByRecursion-map (StandsIn main past) (StandsIn main (past ++ e ∷ [])) (posts_as main past)
    (λ p s. record { poster = s.poster; is = slice_get-more past (e ∷ []) p.place _ s.is }) before)
    (new_stands main past e.seat e.kind)))

-- the accepted post of what the past accepted stands at an earlier place of the log
record PostedAs (log : List Entry) (place : ℕ) (main : Bool) (task home : ℕ) : Type 0 where
  at : ℕ
  poster : ℕ
  delay : ℕ
  earlier : at < place
  is : IsAt log at poster (post_as main task home delay)

posted_as_before : (log : List Entry) (place : ℕ) (main : Bool) (p : Posted) (task home : ℕ) → Contains (posts_as main (take place log)) p
    → p.task ≡ task → p.home ≡ home → PostedAs log place main task home
posted_as_before log place main p task home accepted task_is home_is =
    let s : StandsIn main (take place log) p =
    AllByRecursion-contains (StandsIn main (take place log)) (posts_as main (take place log)) p (all_stand main (take place log)) accepted in
    let there = of_past log p.place place _ s.is in
    record {
      at = p.place;
      poster = s.poster;
      delay = p.delay;
      earlier = there.0;
      is = rw (← task_is, ← home_is) there.1;
    }

-- ---- what the past says at a take and at an end

-- what is taken was not taken before
pub takes_fresh : (script : Plan) (past : List Entry) (seat : ℕ) (kind : Kind) (main : Bool) (t : ℕ) → may_come script past seat kind ≡ true
    → takes_as main t kind ≡ true → taken_as main past t ≡ false
takes_fresh script past seat (kinds.Take task runner value) false t may takes_it =
    ap (is_taken past) (sym (eqb-true task t takes_it)) ∙ (take_is script past seat task runner value may).not_taken
takes_fresh script past seat (kinds.MainTake task queue value) true t may takes_it =
    let taken : IsMainTake script past seat task queue value = main_take_is script past seat task queue value may in
    ap (is_main_taken past) (sym (taken.task_is ∙ eqb-true task t takes_it)) ∙ taken.is_front.not_taken
takes_fresh script past seat kind false t may takes_it = absurd (true≢false (sym takes_it))
takes_fresh script past seat kind true t may takes_it = absurd (true≢false (sym takes_it))

-- what a seat ends it runs
record RunsIt (past : List Entry) (seat : ℕ) (main : Bool) (t : ℕ) : Type 0 where
  now : Running
  running_is : running past seat ≡ Some now
  as_main : now.is_main ≡ main
  task_is : now.task ≡ t

ends_what_runs : (script : Plan) (past : List Entry) (seat : ℕ) (kind : Kind) (main : Bool) (t : ℕ) → may_come script past seat kind ≡ true
    → ends_as main t kind ≡ true → RunsIt past seat main t
ends_what_runs script past seat (kinds.End task left) false t may ends_it =
    let (w, is, pool, task_is) = end_is script past seat task left may in
    record { now = w; running_is = is; as_main = pool; task_is = task_is ∙ eqb-true task t ends_it }
ends_what_runs script past seat (kinds.MainEnd task left) true t may ends_it =
    let (w, is, main, task_is) = main_end_is script past seat task left may in
    record { now = w; running_is = is; as_main = main; task_is = task_is ∙ eqb-true task t ends_it }
ends_what_runs script past seat kind false t may ends_it = absurd (true≢false (sym ends_it))
ends_what_runs script past seat kind true t may ends_it = absurd (true≢false (sym ends_it))

-- what ends had not ended before
ends_fresh : (script : Plan) (past : List Entry) (seat : ℕ) (kind : Kind) (main : Bool) (t : ℕ) → IsLegal script past
    → may_come script past seat kind ≡ true → ends_as main t kind ≡ true → ended_as main past t ≡ false
ends_fresh script past seat kind main t legal may ends_it =
    let r : RunsIt past seat main t = ends_what_runs script past seat kind main t may ends_it in
    ap (ended_as main past) (sym r.task_is) ∙ ((legal_is_consistent script past legal main).runs seat r.now r.running_is r.as_main).not_ended

-- ---- at one place

-- what stands at an earlier place and passes a test is in the past of the later one
pub passed_before : (test : Entry → Bool) (log : List Entry) (i k : ℕ) (d : Entry) → i < k → slice_get log i ≡ Some d → test d ≡ true
    → list_any test (take k log) ≡ true
passed_before test log i k d less is passes = passed_by test (take k log) i d (in_past log i k less ∙ is) passes

-- a test that nothing of the past passes where an entry passes it is passed at one place
one_place : (test : Entry → Bool) (log : List Entry)
    → ((k : ℕ) (e : Entry) → slice_get log k ≡ Some e → test e ≡ true → list_any test (take k log) ≡ false) → (i k : ℕ) (d e : Entry)
    → slice_get log i ≡ Some d → slice_get log k ≡ Some e → test d ≡ true → test e ≡ true → i ≡ k
one_place test log fresh i k d e at_i at_k first second = elim (cases_order i k) [
  | inl same ↦ same
  | inr (inl less) ↦ absurd (both_ways (list_any test (take k log)) (fresh k e at_k second) (passed_before test log i k d less at_i first))
  | inr (inr less) ↦ absurd (both_ways (list_any test (take i log)) (fresh i d at_i first) (passed_before test log k i e less at_k second))
]

-- two places that take one task of the pool, or one main task, are one place
pub one_take_place : (script : Plan) (log : List Entry) (main : Bool) (t i k : ℕ) (d e : Entry) → IsLegal script log → slice_get log i ≡ Some d
    → slice_get log k ≡ Some e → takes_as main t d.kind ≡ true → takes_as main t e.kind ≡ true → i ≡ k
unfolding is_taken is_main_taken
one_take_place script log main t i k d e legal = one_place (λ x. takes_as main t x.kind) log (fresh main) i k d e
  where
    fresh : (m : Bool) (k : ℕ) (e : Entry) → slice_get log k ≡ Some e → takes_as m t e.kind ≡ true
        → list_any (λ x. takes_as m t x.kind) (take k log) ≡ false
    fresh false k e at takes_it = takes_fresh script (take k log) e.seat e.kind false t (may_come_at script log k e legal at) takes_it
    fresh true k e at takes_it = takes_fresh script (take k log) e.seat e.kind true t (may_come_at script log k e legal at) takes_it

-- two places that end one are one place
pub one_end_place : (script : Plan) (log : List Entry) (main : Bool) (t i k : ℕ) (d e : Entry) → IsLegal script log → slice_get log i ≡ Some d
    → slice_get log k ≡ Some e → ends_as main t d.kind ≡ true → ends_as main t e.kind ≡ true → i ≡ k
unfolding is_ended is_main_ended
one_end_place script log main t i k d e legal = one_place (λ x. ends_as main t x.kind) log (fresh main) i k d e
  where
    fresh : (m : Bool) (k : ℕ) (e : Entry) → slice_get log k ≡ Some e → ends_as m t e.kind ≡ true
        → list_any (λ x. ends_as m t x.kind) (take k log) ≡ false
    fresh false k e at ends_it =
        ends_fresh script (take k log) e.seat e.kind false t (past_is_legal script log k e legal at) (may_come_at script log k e legal at) ends_it
    fresh true k e at ends_it =
        ends_fresh script (take k log) e.seat e.kind true t (past_is_legal script log k e legal at) (may_come_at script log k e legal at) ends_it

-- the seat took the task from this home at an earlier place of the log
pub record TakenAs (log : List Entry) (place seat : ℕ) (main : Bool) (t home : ℕ) : Type 0 where
  pub at : ℕ
  pub found : ℕ
  pub earlier : at < place
  pub is : IsAt log at seat (taking main t home found)

-- so it did with what it runs at the place
pub taken_as_before : (log : List Entry) (place seat : ℕ) (w : Running) (main : Bool) (t : ℕ) → running (take place log) seat ≡ Some w → w.is_main ≡ main
    → w.task ≡ t → TakenAs log place seat main t w.home
taken_as_before log place seat w main t runs as_main task_is =
    let since : RunningSince (take place log) seat w = running_since (take place log) seat w runs in
    let there = of_past log since.place place _ since.is in
    record {
      at = since.place;
      found = w.found;
      earlier = there.0;
      is = subst (λ m. IsAt log since.place seat (taking m t w.home w.found)) as_main
          (subst (λ u. IsAt log since.place seat (taking w.is_main u w.home w.found)) task_is there.1);
    }

-- and with what it ends there
pub taken_before_end : (script : Plan) (log : List Entry) (k seat : ℕ) (kind : Kind) (main : Bool) (t : ℕ) → IsLegal script log → IsAt log k seat kind
    → ends_as main t kind ≡ true → (home : ℕ) × TakenAs log k seat main t home
taken_before_end script log k seat kind main t legal at ends_it =
    let r : RunsIt (take k log) seat main t = ends_what_runs script (take k log) seat kind main t (may_come_at script log k _ legal at) ends_it in
    (r.now.home, taken_as_before log k seat r.now main t r.running_is r.as_main r.task_is)

-- ---- the law

-- what stands at one place is one entry
pub same_entry : (log : List Entry) (i k : ℕ) (d e : Entry) → i ≡ k → slice_get log i ≡ Some d → slice_get log k ≡ Some e → d ≡ e
same_entry log i k d e same at_i at_k = same_Some d e (sym at_i ∙ ap (slice_get log) same ∙ at_k)

-- the runner or the queue of a take
abbrev home_of_take : Kind → ℕ
home_of_take (kinds.Take task runner found) = runner
home_of_take (kinds.MainTake task queue found) = queue
home_of_take kind = 0

-- tasks start at most once, and end at most once
pub tasks_start_at_most_once : (script : Plan) (log : List Entry) → IsLegal script log → TasksStartAtMostOnce log
tasks_start_at_most_once script log legal = record {
  one_take = λ i k seat other task runner home found value at_i at_k.
      let same : i ≡ k = one_take_place script log false task i k _ _ legal at_i at_k (eq-eqb task task refl) (eq-eqb task task refl) in
      let entry = same_entry log i k _ _ same at_i at_k in
      (same, ap (λ e. e.seat) entry, ap (λ e. home_of_take e.kind) entry);
  posted_before = λ k seat task runner found at.
      let t : IsTake script (take k log) seat task runner found = take_is script (take k log) seat task runner found (may_come_at script log k _ legal at) in
      let p : PostedAs log k false task runner = posted_as_before log k false t.head.posted task runner t.is_head.accepted t.task_is t.home_is in
      record { at = p.at; poster = p.poster; delay = p.delay; earlier = p.earlier; is = p.is };
  one_end = λ i k seat other task left value at_i at_k.
      let same : i ≡ k = one_end_place script log false task i k _ _ legal at_i at_k (eq-eqb task task refl) (eq-eqb task task refl) in
      (same, ap (λ e. e.seat) (same_entry log i k _ _ same at_i at_k));
  taken_before = λ k seat task left at.
      let (home, t) = taken_before_end script log k seat _ false task legal at (eq-eqb task task refl) in
      record { at = t.at; runner = home; found = t.found; earlier = t.earlier; is = t.is };
  one_main_take = λ i k seat other task queue home found value at_i at_k.
      let same : i ≡ k = one_take_place script log true task i k _ _ legal at_i at_k (eq-eqb task task refl) (eq-eqb task task refl) in
      let entry = same_entry log i k _ _ same at_i at_k in
      (same, ap (λ e. e.seat) entry, ap (λ e. home_of_take e.kind) entry);
  main_posted_before = λ k seat task queue found at.
      let t : IsMainTake script (take k log) seat task queue found =
      main_take_is script (take k log) seat task queue found (may_come_at script log k _ legal at) in
      let p : PostedAs log k true task queue = posted_as_before log k true t.is_front.accepted task queue t.is_front.posted
      (t.is_front.task_is ∙ t.task_is) (t.is_front.queue_is ∙ t.queue_is) in
      record { at = p.at; poster = p.poster; delay = p.delay; earlier = p.earlier; is = p.is };
  one_main_end = λ i k seat other task left value at_i at_k.
      let same : i ≡ k = one_end_place script log true task i k _ _ legal at_i at_k (eq-eqb task task refl) (eq-eqb task task refl) in
      (same, ap (λ e. e.seat) (same_entry log i k _ _ same at_i at_k));
  main_taken_before = λ k seat task left at.
      let (home, t) = taken_before_end script log k seat _ true task legal at (eq-eqb task task refl) in
      record { at = t.at; queue = home; found = t.found; earlier = t.earlier; is = t.is };
}
