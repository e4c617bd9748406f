-- Where a task is posted once, by one step: the step that posts a reply stands in the reply's task, at one place among
-- its act steps.
-- Cited by `RepliesOfLogs`, `Runs`.
use Rattle.hist_model.proofs.Laws.Postings.Once.{once_in_one}
use Rattle.std.proofs.Common.{◌≡◌, ℕ, zero, suc, ◌+◌, ◌<◌, ◌≤◌, Bool, true, false, cond, eqb, List, [], ◌∷◌, ◌++◌}
use Rattle.std.proofs.Common.{length, map, take, refl, sym, ap, subst, ◌∙◌, Option, Some, None, arith}
use Rattle.std.specs.Prelude.{filter, flat_map, slice_get, Contains}
use Rattle.std.specs.List.{AllByRecursion}
use Rattle.std.specs.Option.{option_map_or}
use Rattle.std.proofs.lemmas.Bool.{eq-eqb}
use Rattle.std.proofs.lemmas.List.Concat.{flat_map-cons}
use Rattle.std.proofs.lemmas.List.Elements.{filter-append}
use Rattle.std.proofs.lemmas.Option.{none-some, same_Some, slice_get-get_or}
use Rattle.task_base.specs.Plan.{Plan}
use Rattle.task_base.specs.Steps.{is_act}
use Rattle.task_base.specs.declared.step.Step.{Step}
use Rattle.task_base.specs.declared.step.Step.TheVariants as steps
use Rattle.list_laws.proofs.Counts.{count-append}
use Rattle.list_laws.proofs.Elements.{AllByRecursion-contains, AllByRecursion-from_index}
use Rattle.script_model.specs.Laws.Postings.{IsPostedOnce, posts_of_action, posts_of_step, times}
use Rattle.script_model.proofs.Laws.Postings.{posted_parts, posts_of_task}
use Rattle.task_model.specs.Seats.{steps_of}
use Rattle.task_reply.specs.declared.reply.Reply.{Reply}
use Rattle.task_reply.specs.Elaborated.{IsElaborated, reply_posting, replies_to}
use Rattle.task_reply.specs.Laws.{own_acts}
use Rattle.task_reply.proofs.Growing.{posting_acts}

-- ---- what lists of tasks name

-- the first and those behind it
times_first : {A : Type 0} (f : A → List ℕ) (x : A) (xs : List A) (t : ℕ) → times t (flat_map f (x ∷ xs)) ≡ times t (f x) + times t (flat_map f xs)
times_first f x xs t = ap (times t) (flat_map-cons f x xs) ∙ count-append (λ u. eqb u t) (f x) (flat_map f xs)

-- one of the lists names no more than all
pub times_at : {A : Type 0} (f : A → List ℕ) (xs : List A) (i : ℕ) (x : A) (t : ℕ) → slice_get xs i ≡ Some x → times t (f x) ≤ times t (flat_map f xs)
times_at f [] i x t is = absurd (none-some x is)
times_at f (y ∷ xs) zero x t is = let first : times t (f y) ≡ times t (f x) = ap (λ z. times t (f z)) (same_Some y x is) in
    omega (arith, first, times_first f y xs t)
times_at f (y ∷ xs) (suc i) x t is = omega (arith, times_first f y xs t, times_at f xs i x t is)

-- what is named once is named at one place
pub one_place : {A : Type 0} (f : A → List ℕ) (xs : List A) (i k : ℕ) (x y : A) (t : ℕ) → slice_get xs i ≡ Some x → slice_get xs k ≡ Some y
    → 1 ≤ times t (f x) → 1 ≤ times t (f y) → times t (flat_map f xs) ≤ 1 → i ≡ k
one_place f [] i k x y t at_i at_k some more once = absurd (none-some x at_i)
one_place f (z ∷ xs) zero zero x y t at_i at_k some more once = refl
one_place f (z ∷ xs) zero (suc k) x y t at_i at_k some more once =
    let first : times t (f z) ≡ times t (f x) = ap (λ w. times t (f w)) (same_Some z x at_i) in
    absurd (omega (arith, first, some, more, once, times_first f z xs t, times_at f xs k y t at_k))
one_place f (z ∷ xs) (suc i) zero x y t at_i at_k some more once =
    let first : times t (f z) ≡ times t (f y) = ap (λ w. times t (f w)) (same_Some z y at_k) in
    absurd (omega (arith, first, some, more, once, times_first f z xs t, times_at f xs i x t at_i))
one_place f (z ∷ xs) (suc i) (suc k) x y t at_i at_k some more once =
    ap suc (one_place f xs i k x y t at_i at_k some more (omega (arith, once, times_first f z xs t)))

-- the act steps post what all steps post
pub acts_post : (t : ℕ) (xs : List Step) → times t (flat_map posts_of_step (filter is_act xs)) ≡ times t (posts_of_task xs)
acts_post t [] = refl
acts_post t (steps.Post u r d ∷ xs) = count-append (λ w. eqb w t) (u ∷ []) (flat_map posts_of_step (filter is_act xs))
    ∙ ap (λ n. times t (u ∷ []) + n) (acts_post t xs) ∙ sym (count-append (λ w. eqb w t) (u ∷ []) (flat_map posts_of_step xs))
acts_post t (steps.Main u r d ∷ xs) = count-append (λ w. eqb w t) (u ∷ []) (flat_map posts_of_step (filter is_act xs))
    ∙ ap (λ n. times t (u ∷ []) + n) (acts_post t xs) ∙ sym (count-append (λ w. eqb w t) (u ∷ []) (flat_map posts_of_step xs))
acts_post t (x ∷ xs) = acts_post t xs

-- ---- the place of a reply among those of its task

-- how many replies of the task stand before this place
abbrev pub rank_at : List Reply → ℕ → ℕ → ℕ
rank_at replies m task = length (replies_to task (take m replies))

-- there it stands
ranked : (replies : List Reply) (m : ℕ) (reply : Reply) → slice_get replies m ≡ Some reply
    → slice_get (replies_to reply.task replies) (rank_at replies m reply.task) ≡ Some reply
ranked [] m reply is = absurd (none-some reply is)
ranked (first ∷ replies) zero reply is =
    let same : first ≡ reply = same_Some first reply is in
    rw (ap (λ (r : Reply). eqb r.task reply.task) same ∙ eq-eqb reply.task reply.task refl) (ap Some same)
ranked (first ∷ replies) (suc m) reply is = at (eqb first.task reply.task) (ranked replies m reply is)
  where
    at : (b : Bool) → slice_get (replies_to reply.task replies) (rank_at replies m reply.task) ≡ Some reply
        → slice_get (cond b (first ∷ replies_to reply.task replies) (replies_to reply.task replies))
        (length (cond b (first ∷ replies_to reply.task (take m replies)) (replies_to reply.task (take m replies)))) ≡ Some reply
    at true next = next
    at false next = next

-- a later one of the task stands further behind
pub rank_less : (replies : List Reply) (m n : ℕ) (reply : Reply) → m < n → slice_get replies m ≡ Some reply
    → rank_at replies m reply.task < rank_at replies n reply.task
rank_less [] m n reply less is = absurd (none-some reply is)
rank_less (first ∷ replies) m zero reply less is = absurd (omega (arith, less))
rank_less (first ∷ replies) zero (suc n) reply less is =
    let same : first ≡ reply = same_Some first reply is in
    rw (ap (λ (r : Reply). eqb r.task reply.task) same ∙ eq-eqb reply.task reply.task refl) (omega arith)
rank_less (first ∷ replies) (suc m) (suc n) reply less is =
    let less' : m < n = omega (arith, less) in
    at (eqb first.task reply.task) (rank_less replies m n reply less' is)
  where
    at : (b : Bool) → rank_at replies m reply.task < rank_at replies n reply.task
        → length (cond b (first ∷ replies_to reply.task (take m replies)) (replies_to reply.task (take m replies)))
        < length (cond b (first ∷ replies_to reply.task (take n replies)) (replies_to reply.task (take n replies)))
    at true next = omega (arith, next)
    at false next = next

-- ---- the act steps of a task with replies

-- postings all act
postings_act : (replies : List Reply) → filter is_act (map reply_posting replies) ≡ map reply_posting replies
postings_act [] = refl
postings_act (reply ∷ replies) =
    ap (λ b. cond b (reply_posting reply ∷ filter is_act (map reply_posting replies)) (filter is_act (map reply_posting replies)))
    (posting_acts reply.reply reply.home) ∙ ap (λ rest. reply_posting reply ∷ rest) (postings_act replies)

mapped_at : (replies : List Reply) (k : ℕ) (reply : Reply) → slice_get replies k ≡ Some reply
    → slice_get (map reply_posting replies) k ≡ Some (reply_posting reply)
mapped_at [] k reply is = absurd (none-some reply is)
mapped_at (first ∷ replies) zero reply is = ap (λ r. Some (reply_posting r)) (same_Some first reply is)
mapped_at (first ∷ replies) (suc k) reply is = mapped_at replies k reply is

behind_at : {A : Type 0} (xs ys : List A) (k : ℕ) → slice_get (xs ++ ys) (length xs + k) ≡ slice_get ys k
behind_at [] ys k = ap (slice_get ys) (omega arith)
behind_at (x ∷ xs) ys k = let e : suc (length xs) + k ≡ suc (length xs + k) = omega arith in rw e (behind_at xs ys k)

-- an element stands at some place
pub placed : {A : Type 0} (xs : List A) (x : A) → Contains xs x → (k : ℕ) × (slice_get xs k ≡ Some x)
placed {A = A} xs x has = AllByRecursion-contains (λ y. (k : ℕ) × (slice_get xs k ≡ Some y)) xs x
    (AllByRecursion-from_index (λ y. (k : ℕ) × (slice_get xs k ≡ Some y)) xs (λ i d within. (i, slice_get-get_or xs i d within))) has

-- what holds of all holds of the one at a place
all_at : {A : Type 0} (P : A → Type 0) (xs : List A) (k : ℕ) (x : A) → AllByRecursion P xs → slice_get xs k ≡ Some x → P x
all_at P [] k x all is = absurd (none-some x is)
all_at P (y ∷ xs) zero x all is = subst P (same_Some y x is) all.0
all_at P (y ∷ xs) (suc k) x all is = all_at P xs k x all.1 is

-- the posting of the reply stands among the act steps of its task, behind the task's own and those of its earlier replies
pub posting_at : (script result : Plan) (replies : List Reply) (m : ℕ) (reply : Reply) → IsElaborated script replies result
    → slice_get replies m ≡ Some reply
    → slice_get (filter is_act (steps_of result reply.task)) (own_acts script reply.task + rank_at replies m reply.task) ≡ Some (reply_posting reply)
posting_at script result replies m reply made is =
    let own_is = slice_get-get_or script.tasks reply.task [] (all_at (λ (r : Reply). r.task < length script.tasks) replies m reply made.tasks_there is) in
    at _ own_is (made.steps_added reply.task _ own_is)
  where
    answers : List Reply
    answers = replies_to reply.task replies

    at : (own : List Step) → slice_get script.tasks reply.task ≡ Some own → slice_get result.tasks reply.task ≡ Some (own ++ map reply_posting answers)
        → slice_get (filter is_act (steps_of result reply.task)) (own_acts script reply.task + rank_at replies m reply.task) ≡ Some (reply_posting reply)
    at own before behind = rw (before, behind, filter-append is_act own (map reply_posting answers), postings_act answers)
        (behind_at (filter is_act own) (map reply_posting answers) (rank_at replies m reply.task) ∙ mapped_at answers _ reply (ranked replies m reply is))

-- ---- the one posting

-- a step that a task of the script has stands in the task's list
steps_there : (o : Option (List Step)) (k : ℕ) (step : Step) → slice_get (filter is_act (option_map_or (λ steps. steps) o [])) k ≡ Some step
    → (own : List Step) × (o ≡ Some own)
steps_there None k step is = absurd (none-some step is)
steps_there (Some own) k step is = (own, refl)

-- an act step of a task that posts t is one of the postings of the script's tasks
pub posting_counts : (script : Plan) (task k t : ℕ) (step : Step) → slice_get (filter is_act (steps_of script task)) k ≡ Some step
    → posts_of_step step ≡ t ∷ [] → (own : List Step) × (slice_get script.tasks task ≡ Some own) × (1 ≤ times t (posts_of_task own))
posting_counts script task k t step is posts =
    let (own, there) = steps_there (slice_get script.tasks task) k step is in
    let of_own : slice_get (filter is_act own) k ≡ Some step = ap (λ o. slice_get (filter is_act (option_map_or (λ steps. steps) o [])) k) (sym there) ∙ is in (
      own,
      there,
      omega (
        arith,
        times_at posts_of_step (filter is_act own) k step t of_own,
        ap (times t) posts,
        once_in_one t,
        acts_post t own,
      ),
    )

-- two act steps that post one task are one
pub one_posting : (script : Plan) (t a b k n : ℕ) (one other : Step) → IsPostedOnce script
    → slice_get (filter is_act (steps_of script a)) k ≡ Some one → slice_get (filter is_act (steps_of script b)) n ≡ Some other
    → posts_of_step one ≡ t ∷ [] → posts_of_step other ≡ t ∷ [] → (a ≡ b) × (k ≡ n)
one_posting script t a b k n one other once at_k at_n posts_one posts_other =
    let (own, own_is, some) = posting_counts script a k t one at_k posts_one in
    let (more, more_is, also) = posting_counts script b n t other at_n posts_other in
    let within : times t (flat_map posts_of_task script.tasks) ≤ 1 = omega (arith, once t, posted_parts script t) in
    let task : a ≡ b = one_place posts_of_task script.tasks a b own more t own_is more_is some also within in
    let moved : slice_get (filter is_act (steps_of script a)) n ≡ Some other = subst (λ c. slice_get (filter is_act (steps_of script c)) n ≡ Some other)
    (sym task) at_n in
    let of_own = λ (i : ℕ) (step : Step) (is : slice_get (filter is_act (steps_of script a)) i ≡ Some step).
    ap (λ o. slice_get (filter is_act (option_map_or (λ steps. steps) o [])) i) (sym own_is) ∙ is in
    let few : times t (flat_map posts_of_step (filter is_act own)) ≤ 1 =
    omega (arith, within, acts_post t own, times_at posts_of_task script.tasks a own t own_is) in (
      task,
      one_place posts_of_step (filter is_act own) k n one other t (of_own k one at_k) (of_own n other moved)
          (omega (arith, ap (times t) posts_one, once_in_one t)) (omega (arith, ap (times t) posts_other, once_in_one t)) few,
    )

-- no action posts what an act step posts
pub no_action_posts : (script : Plan) (t task k : ℕ) (step : Step) → IsPostedOnce script → slice_get (filter is_act (steps_of script task)) k ≡ Some step
    → posts_of_step step ≡ t ∷ [] → times t (flat_map posts_of_action script.actions) ≡ 0
no_action_posts script t task k step once is posts =
    let (own, own_is, some) = posting_counts script task k t step is posts in
    omega (arith, once t, posted_parts script t, some, times_at posts_of_task script.tasks task own t own_is)
