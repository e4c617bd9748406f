-- A task is posted at most once.
-- Cited by `Laws/Entries/Bound`, `Laws/Postings/Once`, `postings.rt`, `env_core`, `run_summary`, `task_reply`.
use Rattle.std.proofs.Common.{◌≡◌, ℕ, ◌+◌, ◌≤◌, Bool, true, false, cond, eqb, List, [], ◌∷◌, ◌++◌, length, refl, sym, ap, ◌∙◌, arith, append-nil, ⊎_elim}
use Rattle.std.specs.Prelude.{◌||◌, not, flat_map}
use Rattle.std.specs.List.{list_any}
use Rattle.std.proofs.lemmas.List.Concat.{flat_map-append}
use Rattle.std.proofs.lemmas.Bool.{eqb-true, and_parts, eq-eqb, or_cases, or_parts, false_from_ne_true, true≢false}
use Rattle.task_base.specs.Plan.{Plan}
use Rattle.task_base.specs.declared.entry.Entry.{Entry}
use Rattle.task_base.specs.declared.entry.Kind.{Kind}
use Rattle.task_base.specs.declared.entry.Kind.TheVariants as kinds
use Rattle.list_laws.specs.Lists.{count}
use Rattle.task_model.specs.Past.{fold_past}
use Rattle.task_model.specs.Posts.{Posted, post_behind, posts, posted_by, main_posts, main_posted_by, is_taken, takes, is_main_taken, main_takes}
use Rattle.task_model.specs.Refusal.{is_refused, is_closed}
use Rattle.task_model.proofs.Growth.{posts_push, main_posts_push}
use Rattle.list_laws.proofs.Counts.{count-append}
use Rattle.hist_model.specs.Allowed.{by_script, by_task, may_come}
use Rattle.hist_model.specs.Open.{IsClosed, IsOpen, posts_task, was_posted}
use Rattle.hist_model.specs.Legal.{IsLegal}
use Rattle.list_laws.proofs.Finds.{contained_counts}
use Rattle.hist_model.specs.Laws.Postings.{kind_posts, posted_in}
use Rattle.script_model.specs.Laws.Postings.{posts_of_step, posts_of_action, postings, times, IsPostedOnce}
use Rattle.hist_model.proofs.Laws.Legal.{entry_induction}
use Rattle.hist_model.proofs.Laws.Open.{closed_main, closed_or_open, closed_post, open_posts}
use Rattle.hist_model.proofs.Laws.Takes.{take_is, main_take_is}
use Rattle.pool_laws.specs.Runs.{taken_as, takes_as, posts_as, posted_as}
use Rattle.pool_laws.proofs.Seats.Runs.{taken_as_push, posts_as_push}
use Rattle.hist_model.proofs.Laws.Postings.Driver.{times-append, driver_has, driver_has_less, driver_posts, driver_begins}
use Rattle.hist_model.proofs.Laws.Postings.Tasks.{seats_have, seats_have_less, seats_post, seats_take, seats_begin, takes_nothing}
use Rattle.hist_model.proofs.Laws.Postings.Tasks.{is_untaken, tasks_have, tasks_have_less, tasks_take, tasks_begin}

-- how many accepted posts name a task
abbrev pub of_task : ℕ → List Posted → ℕ
of_task t ps = count (λ p. eqb p.task t) ps

-- and how often it was accepted, by the pool or by a main queue
abbrev pub accepted_of : ℕ → List Entry → ℕ
accepted_of t past = of_task t (posts past) + of_task t (main_posts past)

of_task-append : (t : ℕ) (xs ys : List Posted) → of_task t (xs ++ ys) ≡ of_task t xs + of_task t ys
of_task-append t xs ys = count-append (λ p. eqb p.task t) xs ys

-- a task that is taken is accepted, and was not taken, of the pool and of a main queue
taken_is : (script : Plan) (past : List Entry) (seat : ℕ) (kind : Kind) (main : Bool) (u : ℕ) → may_come script past seat kind ≡ true
    → takes_as main u kind ≡ true → (1 ≤ of_task u (posts_as main past)) × (taken_as main past u ≡ false)
taken_is script past seat (kinds.Take task runner value) false u may h =
    let t = take_is script past seat task runner value may in
    let same = eqb-true task u h in (
      contained_counts (λ p. eqb p.task u) (posts past) t.head.posted t.is_head.accepted (eq-eqb t.head.posted.task u (t.task_is ∙ same)),
      ap (is_taken past) (sym same) ∙ t.not_taken,
    )
taken_is script past seat (kinds.MainTake task queue value) true u may h =
    let t = main_take_is script past seat task queue value may in
    let same = t.task_is ∙ eqb-true task u h in (
      contained_counts (λ p. eqb p.task u) (main_posts past) t.is_front.accepted t.is_front.posted
          (eq-eqb t.is_front.accepted.task u (t.is_front.task_is ∙ same)),
      ap (is_main_taken past) (sym same) ∙ t.is_front.not_taken,
    )
taken_is script past seat kind false u may h = absurd (true≢false (sym h))
taken_is script past seat kind true u may h = absurd (true≢false (sym h))

-- one more entry of what was posted
pub posted_in_push : (t : ℕ) (past : List Entry) (e : Entry) → times t (posted_in (past ++ e ∷ [])) ≡ times t (posted_in past) + times t (kind_posts e.kind)
unfolding posted_in
posted_in_push t past e = ap (times t) (flat_map-append (λ x. kind_posts x.kind) past (e ∷ [])
    ∙ ap (λ xs. flat_map (λ x. kind_posts x.kind) past ++ xs) (append-nil (kind_posts e.kind)))
    ∙ times-append t (flat_map (λ x. kind_posts x.kind) past) (kind_posts e.kind)

-- one accepted post is one posting
pub one_post : (t : ℕ) (p : Posted) → of_task t (p ∷ []) ≡ times t (p.task ∷ [])
one_post t p = elim (eqb p.task t) as (λ b. length (cond b (p ∷ []) []) ≡ length (cond b (p.task ∷ []) [])) [
  | true ↦ refl
  | false ↦ refl
]

-- what is accepted was posted
accepted_posts : (t : ℕ) (past : List Entry) (kind : Kind) → of_task t (posted_by past kind) + of_task t (main_posted_by past kind) ≤ times t (kind_posts kind)
accepted_posts t past (kinds.Post task runner delay true) = omega (arith, one_post t (post_behind past task runner delay))
accepted_posts t past (kinds.Post task runner delay false) = omega arith
accepted_posts t past (kinds.Main task queue delay true) = omega (arith, one_post t (post_behind past task queue delay))
accepted_posts t past (kinds.Main task queue delay false) = omega arith
accepted_posts t past kind = omega arith

-- what holds of the postings of a legal history: what was taken is accepted; what is accepted was posted; nothing was posted
-- twice; in a closed plan, what was posted and what is left to be posted are no more than the script's postings
pub record Counted (script : Plan) (past : List Entry) : Type 0 where
  pub taken : (main : Bool) (u : ℕ) → taken_as main past u ≡ true → 1 ≤ of_task u (posts_as main past)
  pub accepted : (t : ℕ) → of_task t (posts past) + of_task t (main_posts past) ≤ times t (posted_in past)
  pub once : (t : ℕ) → times t (posted_in past) ≤ 1
  pub within : IsClosed script → (t : ℕ)
      → times t (posted_in past) + (driver_has script t past + tasks_have script t past + seats_have script t past) ≤ times t (postings script)

nothing_counted : (script : Plan) → Counted script []
unfolding fold_past is_taken is_main_taken posts main_posts posted_in postings
nothing_counted script = record {
  taken = none_taken;
  accepted = λ t. omega arith;
  once = λ t. omega arith;
  within = λ closed t. omega (
    arith,
    driver_begins script t,
    tasks_begin script t,
    seats_begin script t,
    times-append t (flat_map posts_of_action script.actions)
        (flat_map (λ steps. flat_map posts_of_step steps) script.tasks),
  );
}
  where
    none_taken : (main : Bool) (u : ℕ) → taken_as main [] u ≡ true → 1 ≤ of_task u (posts_as main [])
    none_taken false u h = absurd (true≢false (sym h))
    none_taken true u h = absurd (true≢false (sym h))

taken_next : (script : Plan) (past : List Entry) (e : Entry) → Counted script past → may_come script past e.seat e.kind ≡ true → (main : Bool) (u : ℕ)
    → taken_as main (past ++ e ∷ []) u ≡ true → 1 ≤ of_task u (posts_as main (past ++ e ∷ []))
taken_next script past e known may main u h = rw (posts_as_push main past e, of_task-append u (posts_as main past) (posted_as main past e.kind))
    (⊎_elim (λ k. omega (arith, known.taken main u k)) (λ k. omega (arith, (taken_is script past e.seat e.kind main u may k).0))
    (or_cases (taken_as main past u) (takes_as main u e.kind) (sym (taken_as_push main past e u) ∙ h)))

accepted_next : (script : Plan) (past : List Entry) (e : Entry) → Counted script past → (t : ℕ)
    → of_task t (posts (past ++ e ∷ [])) + of_task t (main_posts (past ++ e ∷ [])) ≤ times t (posted_in (past ++ e ∷ []))
accepted_next script past e known t = rw (
  posts_push past e,
  main_posts_push past e,
  of_task-append t (posts past) (posted_by past e.kind),
  of_task-append t
      (main_posts past) (main_posted_by past e.kind),
  posted_in_push t past e,
)
    (omega (arith, known.accepted t, accepted_posts t past e.kind))

-- all postings that are left
has_left : Plan → ℕ → List Entry → ℕ
has_left script t past = driver_has script t past + tasks_have script t past + seats_have script t past

-- an entry that takes no task, and posts none
left_goes_on : (script : Plan) (t : ℕ) (past : List Entry) (e : Entry) → e.seat ≤ script.workers → takes_nothing e.kind ≡ true
    → has_left script t (past ++ e ∷ []) ≤ has_left script t past
unfolding has_left
left_goes_on script t past e le h = omega (arith, driver_has_less script t past e, tasks_have_less script t past e, seats_have_less script t past e le h)

-- an entry that posts, by the script or by a task
left_posts : (script : Plan) (t : ℕ) (past : List Entry) (e : Entry) → IsClosed script → e.seat ≤ script.workers → takes_nothing e.kind ≡ true
    → (by_script script past e.seat e.kind || by_task script past e.seat e.kind) ≡ true
    → has_left script t (past ++ e ∷ []) + times t (kind_posts e.kind) ≤ has_left script t past
unfolding has_left
left_posts script t past e closed le h by = ⊎_elim
    (λ k. omega (arith, driver_posts script t past e closed k, tasks_have_less script t past e, seats_have_less script t past e le h))
    (λ k. omega (arith, driver_has_less script t past e, tasks_have_less script t past e, seats_post script t past e le k))
    (or_cases (by_script script past e.seat e.kind) (by_task script past e.seat e.kind) by)

-- an entry that takes a task which was not taken
left_takes : (script : Plan) (t u : ℕ) (past : List Entry) (e : Entry) → e.seat ≤ script.workers → (takes u e.kind || main_takes u e.kind) ≡ true
    → is_untaken past u ≡ true → has_left script t (past ++ e ∷ []) ≤ has_left script t past
unfolding has_left
left_takes script t u past e le h was = omega (arith, driver_has_less script t past e, tasks_take script t u past e h was, seats_take script t u past e le h)

-- by an entry that is allowed in a closed plan, what is left falls by what it posts
left_next : (script : Plan) (past : List Entry) (t seat : ℕ) (kind : Kind) → IsClosed script → Counted script past → seat ≤ script.workers
    → may_come script past seat kind ≡ true
    → has_left script t (past ++ (record { seat = seat; kind = kind }) ∷ []) + times t (kind_posts kind) ≤ has_left script t past
unfolding may_come
left_next script past t seat (kinds.Post task runner delay ok) closed known le h = left_posts script t past
    (record { seat = seat; kind = kinds.Post task runner delay ok }) closed le refl
    (and_parts _ (cond (is_refused script past runner delay) (not ok) ok) (sym (closed_post script past seat task runner delay ok closed) ∙ h)).0
left_next script past t seat (kinds.Main task queue delay ok) closed known le h = left_posts script t past
    (record { seat = seat; kind = kinds.Main task queue delay ok }) closed le refl
    (and_parts _ (cond (is_closed past queue) (not ok) ok) (sym (closed_main script past seat task queue delay ok closed) ∙ h)).0
left_next script past t seat (kinds.Take task runner value) closed known le h =
    let now : (1 ≤ of_task task (posts past)) × (is_taken past task ≡ false) =
    taken_is script past seat (kinds.Take task runner value) false task h (eq-eqb task task refl) in
    let other : is_main_taken past task ≡ false = false_from_ne_true (is_main_taken past task)
    (λ k. omega (arith, now.0, known.taken true task k, known.accepted task, known.once task)) in
    let free : is_untaken past task ≡ true = rw (now.1, other) refl in
    omega (arith, left_takes script t task past (record { seat = seat; kind = kinds.Take task runner value }) le (rw (eq-eqb task task refl) refl) free)
left_next script past t seat (kinds.MainTake task queue value) closed known le h =
    let now : (1 ≤ of_task task (main_posts past)) × (is_main_taken past task ≡ false) =
    taken_is script past seat (kinds.MainTake task queue value) true task h (eq-eqb task task refl) in
    let other : is_taken past task ≡ false = false_from_ne_true (is_taken past task)
    (λ k. omega (arith, now.0, known.taken false task k, known.accepted task, known.once task)) in
    let free : is_untaken past task ≡ true = rw (other, now.1) refl in
    omega (arith, left_takes script t task past (record { seat = seat; kind = kinds.MainTake task queue value }) le (rw (eq-eqb task task refl) refl) free)
left_next script past t seat kind closed known le h = omega (arith, left_goes_on script t past (record { seat = seat; kind = kind }) le refl)

-- what was not posted is in no posting
not_in : (t : ℕ) (kind : Kind) → posts_task t kind ≡ false → times t (kind_posts kind) ≡ 0
not_in t (kinds.Post task runner delay ok) none = rw none refl
not_in t (kinds.Main task queue delay ok) none = rw none refl
not_in t kind none = refl

none_posted : (past : List Entry) (t : ℕ) → was_posted past t ≡ false → times t (posted_in past) ≡ 0
unfolding was_posted posted_in
none_posted [] t none = refl
none_posted (e ∷ past) t none =
    let both = or_parts (posts_task t e.kind) (list_any (λ x. posts_task t x.kind) past) none in
    omega (arith, times-append t (kind_posts e.kind) (flat_map (λ x. kind_posts x.kind) past), not_in t e.kind both.0, none_posted past t both.1)

-- one more posting, of a task that was not posted
once_more : (past : List Entry) (t u : ℕ) → times t (posted_in past) ≤ 1 → times u (posted_in past) ≡ 0 → times t (posted_in past) + times t (u ∷ []) ≤ 1
once_more past t u once none = by_same (eqb u t) refl
  where
    by_same : (b : Bool) → eqb u t ≡ b → times t (posted_in past) + times t (u ∷ []) ≤ 1
    by_same true is = rw is (let same : u ≡ t = eqb-true u t is in omega (arith, ap (λ v. times v (posted_in past)) (sym same) ∙ none))
    by_same false is = rw is (omega (arith, once))

-- an entry that is allowed in an open plan posts what was not posted
once_next : (script : Plan) (past : List Entry) (t seat : ℕ) (kind : Kind) → IsOpen script → Counted script past → may_come script past seat kind ≡ true
    → times t (posted_in past) + times t (kind_posts kind) ≤ 1
unfolding may_come
once_next script past t seat (kinds.Post task runner delay ok) opened known may =
    once_more past t task (known.once t)
    (none_posted past task (open_posts script past seat task (kinds.Post task runner delay ok) opened (and_parts _ _ may).0).fresh)
once_next script past t seat (kinds.Main task queue delay ok) opened known may =
    once_more past t task (known.once t)
    (none_posted past task (open_posts script past seat task (kinds.Main task queue delay ok) opened (and_parts _ _ may).0).fresh)
once_next script past t seat kind opened known may = omega (arith, known.once t)

counted_next : (script : Plan) → IsPostedOnce script → (past : List Entry) (e : Entry) → e.seat ≤ script.workers
    → may_come script past e.seat e.kind ≡ true → Counted script past → Counted script (past ++ e ∷ [])
unfolding has_left
counted_next script once past e le may known = record {
  taken = taken_next script past e known may;
  accepted = accepted_next script past e known;
  once = λ t. ⊎_elim (λ closed. omega (arith, within closed t, once t))
      (λ opened. omega (arith, posted_in_push t past e, once_next script past t e.seat e.kind opened known may)) (closed_or_open script);
  within = within;
}
  where
    within : IsClosed script → (t : ℕ)
        → times t (posted_in (past ++ e ∷ [])) +
        (driver_has script t (past ++ e ∷ []) + tasks_have script t (past ++ e ∷ []) + seats_have script t (past ++ e ∷ []))
        ≤ times t (postings script)
    within closed t = omega (arith, posted_in_push t past e, known.within closed t, left_next script past t e.seat e.kind closed known le may)

pub counted : (script : Plan) → IsPostedOnce script → (past : List Entry) → IsLegal script past → Counted script past
counted script once = entry_induction script (Counted script) (nothing_counted script) (counted_next script once)

-- a task is posted at most once
pub posted_at_most_once : (script : Plan) (past : List Entry) (t : ℕ) → IsPostedOnce script → IsLegal script past → times t (posted_in past) ≤ 1
posted_at_most_once script past t once legal = (counted script once past legal).once t
