-- The postings that the tasks have left: those of the tasks that no seat has taken, and those of what each seat runs.
-- Cited by `Laws/Entries/Bound`, `Laws/Entries/Tasks`, `Laws/Postings/Counts`.
use Rattle.std.proofs.Common.{◌≡◌, ℕ, zero, suc, ◌+◌, ◌≤◌, Bool, true, false, cond, eqb, List, [], ◌∷◌, ◌++◌}
use Rattle.std.proofs.Common.{refl, sym, ap, subst, ◌∙◌, Option, Some, None, arith, add-one, zero-add}
use Rattle.std.specs.Prelude.{◌||◌, not, filter, flat_map, slice_get, option_and_then}
use Rattle.std.specs.Option.{option_map_or}
use Rattle.std.proofs.Math.Bool.{or-false}
use Rattle.std.proofs.lemmas.Bool.{cond_both, eqb-true, eq-eqb, and_parts}
use Rattle.task_base.specs.Plan.{Plan}
use Rattle.task_base.specs.Steps.{is_act}
use Rattle.task_base.specs.declared.step.Step.{Step}
use Rattle.task_base.specs.declared.step.Step.TheVariants as steps
use Rattle.task_base.specs.declared.entry.Entry.{Entry}
use Rattle.task_base.specs.declared.entry.Kind.{Kind}
use Rattle.task_base.specs.declared.entry.Kind.TheVariants as kinds
use Rattle.list_laws.specs.Lists.{holds_of}
use Rattle.task_model.specs.Posts.{is_taken, takes, is_main_taken, main_takes}
use Rattle.task_model.specs.Seats.{Running, running, running_after, acts_done, acts_after, steps_of}
use Rattle.task_model.proofs.Growth.{running_push, acts_done_push, is_taken_push, is_main_taken_push}
use Rattle.hist_model.specs.Allowed.{enters, by_task}
use Rattle.hist_model.specs.Laws.Postings.{kind_posts}
use Rattle.script_model.specs.Laws.Postings.{posts_of_step, times}
use Rattle.hist_model.proofs.Laws.Postings.Driver.{times-append}

-- how often the steps behind the first n post a task
rest_posts : ℕ → ℕ → List Step → ℕ
rest_posts t n [] = 0
rest_posts t zero (x ∷ xs) = times t (posts_of_step x) + rest_posts t zero xs
rest_posts t (suc n) (x ∷ xs) = rest_posts t n xs

rest_less : (t n : ℕ) (xs : List Step) → rest_posts t (suc n) xs ≤ rest_posts t n xs
unfolding rest_posts
rest_less t n [] = omega arith
rest_less t zero (x ∷ xs) = omega arith
rest_less t (suc n) (x ∷ xs) = rest_less t n xs

rest_next : (t n : ℕ) (xs : List Step) (x : Step) → slice_get xs n ≡ Some x → rest_posts t (suc n) xs + times t (posts_of_step x) ≡ rest_posts t n xs
unfolding rest_posts
rest_next t n [] x h = absurd cc
rest_next t zero (y ∷ xs) x h = let same : y ≡ x = cc in subst
    (λ z. rest_posts t zero xs + times t (posts_of_step z) ≡ times t (posts_of_step y) + rest_posts t zero xs) same (omega arith)
rest_next t (suc n) (y ∷ xs) x h = rest_next t n xs x h

-- how often a task of these steps posts a task
pub steps_post : ℕ → List Step → ℕ
steps_post t xs = rest_posts t zero (filter is_act xs)

steps_post_all : (t : ℕ) (xs : List Step) → steps_post t xs ≡ times t (flat_map posts_of_step xs)
unfolding steps_post rest_posts
steps_post_all t [] = refl
steps_post_all t (steps.Post u r d ∷ xs) = ap (λ n. times t (u ∷ []) + n) (steps_post_all t xs) ∙ sym (times-append t (u ∷ []) (flat_map posts_of_step xs))
steps_post_all t (steps.Main u r d ∷ xs) = ap (λ n. times t (u ∷ []) + n) (steps_post_all t xs) ∙ sym (times-append t (u ∷ []) (flat_map posts_of_step xs))
steps_post_all t (steps.Block s ∷ xs) = zero-add (steps_post t xs) ∙ steps_post_all t xs
steps_post_all t (steps.Unblock ∷ xs) = zero-add (steps_post t xs) ∙ steps_post_all t xs
steps_post_all t (x ∷ xs) = steps_post_all t xs

-- how often a seat that runs this and has entered n act steps has a posting of a task left
seat_has : Plan → ℕ → Option Running → ℕ → ℕ
seat_has script t None n = 0
seat_has script t (Some w) n = rest_posts t n (filter is_act (steps_of script w.task))

seat_has_less : (script : Plan) (t : ℕ) (w : Option Running) (n : ℕ) → seat_has script t w (n + 1) ≤ seat_has script t w n
unfolding seat_has
seat_has_less script t None n = omega arith
seat_has_less script t (Some w) n = rw (add-one n) (rest_less t n (filter is_act (steps_of script w.task)))

-- the entry takes no task, of the pool or of a main queue
abbrev pub takes_nothing : Kind → Bool
takes_nothing (kinds.Take task runner found) = false
takes_nothing (kinds.MainTake task queue found) = false
takes_nothing kind = true

-- an entry of the seat that takes no task leaves it no more
seat_goes_on : (script : Plan) (t : ℕ) (w : Option Running) (n : ℕ) (kind : Kind) → takes_nothing kind ≡ true
    → seat_has script t (running_after w kind) (acts_after n kind) ≤ seat_has script t w n
unfolding seat_has
seat_goes_on script t w n (kinds.Take task runner found) h = absurd cc
seat_goes_on script t w n (kinds.MainTake task queue found) h = absurd cc
seat_goes_on script t w n (kinds.Post task runner delay ok) h = seat_has_less script t w n
seat_goes_on script t w n (kinds.Main task queue delay ok) h = seat_has_less script t w n
seat_goes_on script t w n (kinds.Enter task scope) h = seat_has_less script t w n
seat_goes_on script t w n (kinds.Leave task) h = seat_has_less script t w n
seat_goes_on script t w n (kinds.End task left) h = omega arith
seat_goes_on script t w n (kinds.MainEnd task left) h = omega arith
seat_goes_on script t w n kind h = omega arith

-- an act step that enters this kind posts what the entry posts
enters_posts : (t u : ℕ) (step : Step) (kind : Kind) → enters u step kind ≡ true → times t (kind_posts kind) ≤ times t (posts_of_step step)
enters_posts t u (steps.Post v r d) (kinds.Post task runner delay ok) h =
    rw (eqb-true task v (and_parts (eqb task v) (eqb runner r) (and_parts _ (eqb delay d) h).0).0) (omega arith)
enters_posts t u (steps.Main v q d) (kinds.Main task queue delay ok) h =
    rw (eqb-true task v (and_parts (eqb task v) (eqb queue q) (and_parts _ (eqb delay d) h).0).0) (omega arith)
enters_posts t u step (kinds.Post task runner delay ok) h = absurd cc
enters_posts t u step (kinds.Main task queue delay ok) h = absurd cc
enters_posts t u step kind h = omega arith

-- such an entry is one more act step, and what the seat runs goes on
pub entered : (u n : ℕ) (w : Option Running) (step : Step) (kind : Kind) → enters u step kind ≡ true → (acts_after n kind ≡ n + 1) × (running_after w kind ≡ w)
entered u n w (steps.Post v r d) (kinds.Post task runner delay ok) h = (refl, refl)
entered u n w (steps.Main v q d) (kinds.Main task queue delay ok) h = (refl, refl)
entered u n w (steps.Block s) (kinds.Enter task scope) h = (refl, refl)
entered u n w steps.Unblock (kinds.Leave task) h = (refl, refl)
entered u n w step kind h = absurd cc

-- an entry by the task that the seat runs is the posting of its next act step, which goes
seat_posts : (script : Plan) (t n : ℕ) (w : Option Running) (kind : Kind)
    → holds_of (λ v. holds_of (λ step. enters v.task step kind) (option_and_then (λ u. slice_get (filter is_act (steps_of script u.task)) n) w)) w ≡ true
    → seat_has script t (running_after w kind) (acts_after n kind) + times t (kind_posts kind) ≤ seat_has script t w n
unfolding seat_has
seat_posts script t n None kind h = absurd cc
seat_posts script t n (Some w) kind h = at (slice_get (filter is_act (steps_of script w.task)) n) refl h
  where
    at : (o : Option Step) → slice_get (filter is_act (steps_of script w.task)) n ≡ o → holds_of (λ step. enters w.task step kind) o ≡ true
        → seat_has script t (running_after (Some w) kind) (acts_after n kind) + times t (kind_posts kind) ≤ seat_has script t (Some w) n
    at None is k = absurd cc
    at (Some step) is k = rw ((entered w.task n (Some w) step kind k).0, (entered w.task n (Some w) step kind k).1, add-one n)
        (omega (arith, rest_next t n (filter is_act (steps_of script w.task)) step is, enters_posts t w.task step kind k))

-- the sum over the seats from 0 to n
pub seats_sum : (ℕ → ℕ) → ℕ → ℕ
seats_sum f zero = f 0
seats_sum f (suc n) = f (suc n) + seats_sum f n

seats_sum_same : (f g : ℕ → ℕ) (n : ℕ) → ((i : ℕ) → i ≤ n → g i ≡ f i) → seats_sum g n ≡ seats_sum f n
unfolding seats_sum
seats_sum_same f g zero same = same 0 (omega arith)
seats_sum_same f g (suc n) same = let a : g (suc n) ≡ f (suc n) = same (suc n) (omega arith) in
    let b : seats_sum g n ≡ seats_sum f n = seats_sum_same f g n (λ i le. same i (omega arith)) in omega arith

-- where one seat changes alone
seats_sum_change : (f g : ℕ → ℕ) (s n : ℕ) → s ≤ n → ((i : ℕ) → eqb s i ≡ false → g i ≡ f i) → seats_sum g n + f s ≡ seats_sum f n + g s
unfolding seats_sum
seats_sum_change f g s zero le other = let is : s ≡ 0 = omega arith in rw is (omega arith)
seats_sum_change f g s (suc n) le other = at (eqb s (suc n)) refl (λ below. seats_sum_change f g s n below other)
  where
    at : (b : Bool) → eqb s (suc n) ≡ b → (s ≤ n → seats_sum g n + f s ≡ seats_sum f n + g s)
        → g (suc n) + seats_sum g n + f s ≡ f (suc n) + seats_sum f n + g s
    at true is next = let last : s ≡ suc n = eqb-true s (suc n) is in
        let rest : seats_sum g n ≡ seats_sum f n = seats_sum_same f g n (λ i below. other i (grind arith)) in rw (last, rest) (omega arith)
    at false is next = let last : g (suc n) ≡ f (suc n) = other (suc n) is in let rest : seats_sum g n + f s ≡ seats_sum f n + g s = next (grind arith) in
        omega arith

-- how often what a seat runs has a posting of a task left
pub seat_at : Plan → ℕ → List Entry → ℕ → ℕ
seat_at script t past seat = seat_has script t (running past seat) (acts_done past seat)

-- how often all that runs has a posting of a task left
abbrev pub seats_have : Plan → ℕ → List Entry → ℕ
seats_have script t past = seats_sum (seat_at script t past) script.workers

seat_at_other : (script : Plan) (t : ℕ) (past : List Entry) (e : Entry) (i : ℕ) → eqb e.seat i ≡ false
    → seat_at script t (past ++ e ∷ []) i ≡ seat_at script t past i
unfolding seat_at
seat_at_other script t past e i other = rw (running_push past e i, acts_done_push past e i, other) refl

seat_at_own : (script : Plan) (t : ℕ) (past : List Entry) (e : Entry)
    → seat_at script t (past ++ e ∷ []) e.seat ≡ seat_has script t (running_after (running past e.seat) e.kind) (acts_after (acts_done past e.seat) e.kind)
unfolding seat_at
seat_at_own script t past e = rw (running_push past e e.seat, acts_done_push past e e.seat, eq-eqb e.seat e.seat refl) refl

seats_have_change : (script : Plan) (t : ℕ) (past : List Entry) (e : Entry) → e.seat ≤ script.workers
    → seats_have script t (past ++ e ∷ []) + seat_at script t past e.seat ≡ seats_have script t past + seat_at script t (past ++ e ∷ []) e.seat
seats_have_change script t past e le = seats_sum_change (seat_at script t past) (seat_at script t (past ++ e ∷ [])) e.seat script.workers le
    (seat_at_other script t past e)

pub seats_have_less : (script : Plan) (t : ℕ) (past : List Entry) (e : Entry) → e.seat ≤ script.workers → takes_nothing e.kind ≡ true
    → seats_have script t (past ++ e ∷ []) ≤ seats_have script t past
unfolding seat_at
seats_have_less script t past e le h = omega (
  arith,
  seats_have_change script t past e le,
  seat_at_own script t past e,
  seat_goes_on script t
      (running past e.seat) (acts_done past e.seat) e.kind h,
)

pub seats_post : (script : Plan) (t : ℕ) (past : List Entry) (e : Entry) → e.seat ≤ script.workers → by_task script past e.seat e.kind ≡ true
    → seats_have script t (past ++ e ∷ []) + times t (kind_posts e.kind) ≤ seats_have script t past
unfolding by_task seat_at
seats_post script t past e le h = omega (
  arith,
  seats_have_change script t past e le,
  seat_at_own script t past e,
  seat_posts script t (acts_done past e.seat)
      (running past e.seat) e.kind h,
)

-- an entry that takes a task gives the seat that task's postings
pub seats_take : (script : Plan) (t u : ℕ) (past : List Entry) (e : Entry) → e.seat ≤ script.workers → (takes u e.kind || main_takes u e.kind) ≡ true
    → seats_have script t (past ++ e ∷ []) ≤ seats_have script t past + steps_post t (steps_of script u)
unfolding seat_at seat_has steps_post
seats_take script t u past e le h = omega (
  arith,
  seats_have_change script t past e le,
  seat_at_own script t past e,
  begins (running past e.seat)
      (acts_done past e.seat) e.kind h,
)
  where
    begins : (w : Option Running) (n : ℕ) (kind : Kind) → (takes u kind || main_takes u kind) ≡ true
        → seat_has script t (running_after w kind) (acts_after n kind) ≡ steps_post t (steps_of script u)
    begins w n (kinds.Take task runner found) k =
        ap (λ v. rest_posts t 0 (filter is_act (steps_of script v))) (eqb-true task u (sym (or-false (eqb task u)) ∙ k))
    begins w n (kinds.MainTake task queue found) k = ap (λ v. rest_posts t 0 (filter is_act (steps_of script v))) (eqb-true task u k)
    begins w n kind k = absurd cc

seats_begin_from : (script : Plan) (t n : ℕ) → seats_sum (seat_at script t []) n ≡ 0
unfolding seats_sum seat_at seat_has running
seats_begin_from script t zero = refl
seats_begin_from script t (suc n) = zero-add (seats_sum (seat_at script t []) n) ∙ seats_begin_from script t n

pub seats_begin : (script : Plan) (t : ℕ) → seats_have script t [] ≡ 0
seats_begin script t = seats_begin_from script t script.workers

-- how often the tasks that pass the test, numbered from i, post a task
weigh : (ℕ → Bool) → ℕ → ℕ → List (List Step) → ℕ
weigh test t i [] = 0
weigh test t i (x ∷ xs) = cond (test i) (steps_post t x) 0 + weigh test t (suc i) xs

cond_less : (f g : ℕ → Bool) (i n : ℕ) → ((j : ℕ) → g j ≡ true → f j ≡ true) → cond (g i) n 0 ≤ cond (f i) n 0
cond_less f g i n fewer = cond_both (g i) n 0 (λ m. m ≤ cond (f i) n 0) (λ is. rw (fewer i is) (omega arith)) (λ is. omega arith)

weigh_less : (f g : ℕ → Bool) (t i : ℕ) (xs : List (List Step)) → ((j : ℕ) → g j ≡ true → f j ≡ true) → weigh g t i xs ≤ weigh f t i xs
unfolding weigh
weigh_less f g t i [] fewer = omega arith
weigh_less f g t i (x ∷ xs) fewer = omega (arith, cond_less f g i (steps_post t x) fewer, weigh_less f g t (suc i) xs fewer)

-- one of them passes no more
weigh_drops : (f g : ℕ → Bool) (t i u k : ℕ) (xs : List (List Step)) → u ≡ i + k → f u ≡ true → g u ≡ false → ((j : ℕ) → g j ≡ true → f j ≡ true)
    → weigh g t i xs + steps_post t (option_map_or (λ steps. steps) (slice_get xs k) []) ≤ weigh f t i xs
unfolding weigh steps_post rest_posts
weigh_drops f g t i u k [] at was is fewer = omega arith
weigh_drops f g t i u zero (x ∷ xs) at was is fewer =
    let here : i ≡ u = omega arith in
    let no : g i ≡ false = ap g here ∙ is in
    let yes : f i ≡ true = ap f here ∙ was in
    rw (no, yes) (omega (arith, weigh_less f g t (suc i) xs fewer))
weigh_drops f g t i u (suc k) (x ∷ xs) at was is fewer = let next : u ≡ suc i + k = omega arith in
    omega (arith, cond_less f g i (steps_post t x) fewer, weigh_drops f g t (suc i) u k xs next was is fewer)

weigh_all : (f : ℕ → Bool) (t i : ℕ) (xs : List (List Step)) → weigh f t i xs ≤ times t (flat_map (λ steps. flat_map posts_of_step steps) xs)
unfolding weigh
weigh_all f t i [] = omega arith
weigh_all f t i (x ∷ xs) = omega (
  arith,
  cond_both (f i) (steps_post t x) 0 (λ m. m ≤ times t (flat_map posts_of_step x))
      (λ is. omega (arith, steps_post_all t x)) (λ is. omega arith),
  weigh_all f t (suc i) xs,
  times-append t (flat_map posts_of_step x)
      (flat_map (λ steps. flat_map posts_of_step steps) xs),
)

-- the task was taken neither from the pool nor from a main queue
abbrev pub is_untaken : List Entry → ℕ → Bool
is_untaken past u = not (is_taken past u || is_main_taken past u)

-- how often the tasks that were not taken post a task
pub tasks_have : Plan → ℕ → List Entry → ℕ
tasks_have script t past = weigh (is_untaken past) t 0 script.tasks

pub was_untaken : (past : List Entry) (e : Entry) (u : ℕ) → is_untaken (past ++ e ∷ []) u ≡ true → is_untaken past u ≡ true
was_untaken past e u = rw (is_taken_push past e u, is_main_taken_push past e u)
    (at (is_taken past u) (takes u e.kind) (is_main_taken past u) (main_takes u e.kind))
  where
    at : (a b c d : Bool) → not ((a || b) || (c || d)) ≡ true → not (a || c) ≡ true
    at a b c d h = grind (arith, h)

pub is_now_taken : (past : List Entry) (e : Entry) (u : ℕ) → (takes u e.kind || main_takes u e.kind) ≡ true → is_untaken (past ++ e ∷ []) u ≡ false
is_now_taken past e u = rw (is_taken_push past e u, is_main_taken_push past e u)
    (at (is_taken past u) (takes u e.kind) (is_main_taken past u) (main_takes u e.kind))
  where
    at : (a b c d : Bool) → (b || d) ≡ true → not ((a || b) || (c || d)) ≡ false
    at a b c d h = grind (arith, h)

pub tasks_have_less : (script : Plan) (t : ℕ) (past : List Entry) (e : Entry) → tasks_have script t (past ++ e ∷ []) ≤ tasks_have script t past
unfolding tasks_have
tasks_have_less script t past e = weigh_less (is_untaken past) (is_untaken (past ++ e ∷ [])) t 0 script.tasks (was_untaken past e)

pub tasks_take : (script : Plan) (t u : ℕ) (past : List Entry) (e : Entry) → (takes u e.kind || main_takes u e.kind) ≡ true → is_untaken past u ≡ true
    → tasks_have script t (past ++ e ∷ []) + steps_post t (steps_of script u) ≤ tasks_have script t past
unfolding tasks_have
tasks_take script t u past e h was = weigh_drops (is_untaken past) (is_untaken (past ++ e ∷ [])) t 0 u u script.tasks (omega arith) was
    (is_now_taken past e u h) (was_untaken past e)

pub tasks_begin : (script : Plan) (t : ℕ) → tasks_have script t [] ≤ times t (flat_map (λ steps. flat_map posts_of_step steps) script.tasks)
unfolding tasks_have
tasks_begin script t = weigh_all (is_untaken []) t 0 script.tasks
