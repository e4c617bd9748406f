-- Counting what is posted to main queues, posting by posting.
-- Cited by `count_actions`, `count_steps`, `rooms`.
use Rattle.list_laws.proofs.Counts.{count_le}
use Rattle.list_laws.proofs.Elements.{AllByRecursion-back, AllByRecursion-front, AllByRecursion-made, slice_get_all}
use Rattle.list_laws.proofs.Places.{count-push, slice_get-set_other, slice_get-set_same}
use Rattle.list_laws.proofs.Values.{eqb-same, some-injective}
use Rattle.list_laws.specs.Lists.{count}
use Rattle.sequence_manager.specs.Pasts.{IsMainScript}
use Rattle.sequence_manager.specs.Postings.{MainPosting, is_to, main_postings, posting_of_action, posting_of_step, postings_of_tasks, room_of}
use Rattle.sequence_manager.specs.Queues.{IsTable}
use Rattle.sequence_manager.specs.Rooms.{AreCounts, CanCount}
use Rattle.std.proofs.Common.{List, None, Option, Some, [], add-one, ap, append_assoc, arith, cond, drop, false, get_or, inl, inr}
use Rattle.std.proofs.Common.{length, length-append, sym, take, ℕ, ◌+◌, ◌++◌, ◌<◌, ◌∙◌, ◌∷◌, ◌≡◌, ◌≤◌, ◌^◌, append-nil}
use Rattle.std.proofs.Math.Seq.{take-suc}
use Rattle.std.proofs.lemmas.Bool.{cases_eq, ne_eqb}
use Rattle.std.proofs.lemmas.List.{length-set, take-append-drop, take_all}
use Rattle.std.proofs.lemmas.List.Concat.{flat_map-append}
use Rattle.std.proofs.lemmas.List.Elements.{filter_map-append}
use Rattle.std.proofs.lemmas.Option.{slice_get-get_or}
use Rattle.std.specs.List.{cons_option, filter_map}
use Rattle.std.specs.Option.{IfSome}
use Rattle.std.specs.Prelude.{slice_get, slice_set, ◌⊎◌}
use Rattle.task_base.specs.Plan.{Plan}
use Rattle.task_base.specs.declared.script.Action.{Action}
use Rattle.task_base.specs.declared.step.Step.{Step}

-- a count is of what was posted to its queue
count_is : (queues : ℕ) (counts : List ℕ) (postings : List MainPosting) (q n : ℕ) → AreCounts queues counts postings → q < length counts
    → n ≡ get_or counts q n → n ≡ count (is_to q) postings
count_is queues counts postings q n counted there is = some-injective
    (ap Some is ∙ sym (slice_get-get_or counts q n there) ∙ counted.each q (omega (arith, there, counted.all)))

-- one more posting is one more for its queue
one_more : (queues : ℕ) (counts : List ℕ) (postings : List MainPosting) (p : MainPosting) (n : ℕ) → AreCounts queues counts postings
    → p.queue < length counts → n ≡ get_or counts p.queue n → AreCounts queues (slice_set counts p.queue (n + 1)) (postings ++ p ∷ [])
one_more queues counts postings p n counted there is = record {
  all = length-set counts p.queue (n + 1) ∙ counted.all;
  each = λ q less. at_each q less (cases_eq p.queue q);
}
  where
    at_each : (q : ℕ) → q < queues → (p.queue ≡ q) ⊎ (p.queue ≡ q → ⊥)
        → slice_get (slice_set counts p.queue (n + 1)) q ≡ Some (count (is_to q) (postings ++ p ∷ []))
    at_each q less (inl same) = rw (← same) (slice_get-set_same counts p.queue (n + 1) there ∙ ap Some (omega (
      arith,
      count_is queues counts postings p.queue n counted there is,
      count-push (is_to p.queue) postings p,
      ap {B = ℕ} (λ b. cond b 1 0) (eqb-same p.queue),
    )))
    at_each q less (inr other) = slice_get-set_other counts p.queue q (n + 1) other ∙ counted.each q less
        ∙ ap Some (omega (arith, count-push (is_to q) postings p, ap {B = ℕ} (λ b. cond b 1 0) (ne_eqb p.queue q other)))

-- what one more element makes stands at the end of what the elements in front of it make
made_next : {A : Type 0} (f : A → Option MainPosting) (before : List MainPosting) (xs : List A) (k : ℕ) (d : A) → k < length xs
    → before ++ filter_map f (take (k + 1) xs) ≡ (before ++ filter_map f (take k xs)) ++ cons_option (f (get_or xs k d)) []
made_next f before xs k d less = rw (add-one, take-suc xs k d less, filter_map-append f (take k xs) (get_or xs k d ∷ []))
    (sym (append_assoc before (filter_map f (take k xs)) (cons_option (f (get_or xs k d)) [])))

-- so many of the elements were counted behind what was counted before
abbrev pub AreCounted : {A : Type 0} → (A → Option MainPosting) → List ℕ → List A → List ℕ → ℕ → Type 0
AreCounted f first xs counts k = (queues : ℕ) (before : List MainPosting) → AreCounts queues first before
    → AreCounts queues counts (before ++ filter_map f (take k xs))

-- what all elements make may be counted
abbrev pub MayBeCounted : {A : Type 0} → (A → Option MainPosting) → List ℕ → List A → Type 0
MayBeCounted f first xs = (queues : ℕ) × (before : List MainPosting) × CanCount queues first before (filter_map f xs)

-- the posting of the next element is to a queue that is there
pub posting_there : {A : Type 0} (f : A → Option MainPosting) (first : List ℕ) (xs : List A) (counts : List ℕ) (k : ℕ) (d : A) (p : MainPosting)
    → MayBeCounted f first xs → AreCounted f first xs counts k → k < length xs → f (get_or xs k d) ≡ Some p → p.queue < length counts
posting_there f first xs counts k d p can so_far less posts =
    let there : p.queue < can.0 = rw posts at (rw (slice_get-get_or xs k d less) at (slice_get_all (λ x. IfSome (f x) (λ m. m.queue < can.0)) xs k
    (AllByRecursion-made (λ m. m.queue < can.0) f xs can.2.there))) in
    omega (arith, there, (so_far can.0 can.1 can.2.counted).all)

-- and there is room to count it
pub posting_fits : {A : Type 0} (f : A → Option MainPosting) (first : List ℕ) (xs : List A) (counts : List ℕ) (k : ℕ) (d : A) (p : MainPosting) (n : ℕ)
    → MayBeCounted f first xs → AreCounted f first xs counts k → k < length xs → f (get_or xs k d) ≡ Some p → n ≡ get_or counts p.queue n → n + 1 < 2 ^ 32
posting_fits f first xs counts k d p n can so_far less posts is =
    let counted : AreCounts can.0 counts (can.1 ++ filter_map f (take k xs)) = so_far can.0 can.1 can.2.counted in
    omega (
      arith,
      count_is can.0 counts (can.1 ++ filter_map f (take k xs)) p.queue n counted (posting_there f first xs counts k d p can so_far less posts) is,
      count_le (is_to p.queue) (can.1 ++ filter_map f (take k xs)),
      length-append can.1 (filter_map f (take k xs)),
      ap (λ ys. length (filter_map f ys)) (take-append-drop k xs),
      ap length (filter_map-append f (take k xs) (drop k xs)),
      length-append (filter_map f (take k xs)) (filter_map f (drop k xs)),
      can.2.few,
    )

-- it is counted
pub counted_more : {A : Type 0} (f : A → Option MainPosting) (first : List ℕ) (xs : List A) (counts : List ℕ) (k : ℕ) (d : A) (p : MainPosting) (n : ℕ)
    → MayBeCounted f first xs → AreCounted f first xs counts k → k < length xs → f (get_or xs k d) ≡ Some p → n ≡ get_or counts p.queue n
    → AreCounted f first xs (slice_set counts p.queue (n + 1)) (k + 1)
counted_more f first xs counts k d p n can so_far less posts is queues before counted = rw (made_next f before xs k d less, posts)
    (one_more queues counts (before ++ filter_map f (take k xs)) p n (so_far queues before counted)
    (posting_there f first xs counts k d p can so_far less posts) is)

-- an element that posts nothing is not
pub counted_same : {A : Type 0} (f : A → Option MainPosting) (first : List ℕ) (xs : List A) (counts : List ℕ) (k : ℕ) (d : A)
    → AreCounted f first xs counts k → k < length xs → f (get_or xs k d) ≡ None → AreCounted f first xs counts (k + 1)
counted_same f first xs counts k d so_far less none queues before counted = rw (made_next f before xs k d less, none, append-nil) (so_far queues before counted)

-- behind the last element all is counted
pub all_counted : {A : Type 0} (f : A → Option MainPosting) (first : List ℕ) (xs : List A) (counts : List ℕ) (k : ℕ) → AreCounted f first xs counts k
    → length xs ≤ k → (queues : ℕ) (before : List MainPosting) → AreCounts queues first before → AreCounts queues counts (before ++ filter_map f xs)
all_counted f first xs counts k so_far end queues before counted = rw (← (take_all k xs end)) (so_far queues before counted)

-- the postings of one more task
tasks_next : (tasks : List (List Step)) (k : ℕ) (task : List Step) → k < length tasks → task ≡ get_or tasks k task
    → postings_of_tasks (take (k + 1) tasks) ≡ postings_of_tasks (take k tasks) ++ filter_map posting_of_step task
tasks_next tasks k task less is = rw (add-one, take-suc tasks k task less, ← is)
    (flat_map-append (λ task. filter_map posting_of_step task) (take k tasks) (task ∷ [])
    ∙ ap (λ ps. postings_of_tasks (take k tasks) ++ ps) (append-nil (filter_map posting_of_step task)))

-- what the script posts, and has not posted by now, may be counted
can_count : (script : Plan) (counts : List ℕ) (before more after : List MainPosting) → IsMainScript script → main_postings script ≡ (before ++ more) ++ after
    → AreCounts (length script.queues) counts before → CanCount (length script.queues) counts before more
can_count script counts before more after fits is counted = record {
  counted = counted;
  there = AllByRecursion-back (λ p. p.queue < length script.queues) before more
      (AllByRecursion-front (λ p. p.queue < length script.queues) (before ++ more) after (rw is at fits.homes_there));
  few = omega (arith, fits.postings_fit, ap length is, length-append (before ++ more) after, length-append before more);
}

-- the steps of one more task may be counted
pub can_count_steps : (script : Plan) (counts : List ℕ) (k : ℕ) (task steps : List Step) → IsMainScript script → k < length script.tasks
    → task ≡ get_or script.tasks k task → steps ≡ task → AreCounts (length script.queues) counts (postings_of_tasks (take k script.tasks))
    → CanCount (length script.queues) counts (postings_of_tasks (take k script.tasks)) (filter_map posting_of_step steps)
unfolding main_postings
can_count_steps script counts k task steps fits less is same counted = rw same (can_count script counts (postings_of_tasks (take k script.tasks))
    (filter_map posting_of_step task) (postings_of_tasks (drop (k + 1) script.tasks) ++ filter_map posting_of_action script.actions) fits split counted)
  where
    split : postings_of_tasks script.tasks ++ filter_map posting_of_action script.actions
        ≡ (postings_of_tasks (take k script.tasks) ++ filter_map posting_of_step task)
        ++ (postings_of_tasks (drop (k + 1) script.tasks) ++ filter_map posting_of_action script.actions)
    split = ap (λ ts. postings_of_tasks ts ++ filter_map posting_of_action script.actions) (sym (take-append-drop (k + 1) script.tasks))
        ∙ ap (λ ps. ps ++ filter_map posting_of_action script.actions)
        (flat_map-append (λ task. filter_map posting_of_step task) (take (k + 1) script.tasks) (drop (k + 1) script.tasks))
        ∙ append_assoc (postings_of_tasks (take (k + 1) script.tasks)) (postings_of_tasks (drop (k + 1) script.tasks))
        (filter_map posting_of_action script.actions)
        ∙ ap (λ ps. ps ++ (postings_of_tasks (drop (k + 1) script.tasks) ++ filter_map posting_of_action script.actions))
        (tasks_next script.tasks k task less is)

-- they have been
pub steps_counted : (script : Plan) (counts : List ℕ) (k : ℕ) (task steps : List Step) → k < length script.tasks → task ≡ get_or script.tasks k task
    → steps ≡ task → AreCounts (length script.queues) counts (postings_of_tasks (take k script.tasks) ++ filter_map posting_of_step steps)
    → AreCounts (length script.queues) counts (postings_of_tasks (take (k + 1) script.tasks))
steps_counted script counts k task steps less is same counted = rw (tasks_next script.tasks k task less is, ← same) counted

-- behind the last task all steps have been
pub tasks_counted : (script : Plan) (counts : List ℕ) (k : ℕ) → length script.tasks ≤ k
    → AreCounts (length script.queues) counts (postings_of_tasks (take k script.tasks))
    → AreCounts (length script.queues) counts (postings_of_tasks script.tasks)
tasks_counted script counts k end counted = rw (take_all k script.tasks end) at counted

-- then the actions may be counted
pub can_count_actions : (script : Plan) (counts : List ℕ) (k : ℕ) (actions : List Action) → IsMainScript script → length script.tasks ≤ k
    → actions ≡ script.actions → AreCounts (length script.queues) counts (postings_of_tasks (take k script.tasks))
    → CanCount (length script.queues) counts (postings_of_tasks script.tasks) (filter_map posting_of_action actions)
unfolding main_postings
can_count_actions script counts k actions fits end same counted = rw same (can_count script counts (postings_of_tasks script.tasks)
    (filter_map posting_of_action script.actions) [] fits (sym (append-nil (postings_of_tasks script.tasks ++ filter_map posting_of_action script.actions)))
    (tasks_counted script counts k end counted))

-- and then all is: where the plan is closed, the counts are the rooms of the queues
pub actions_counted : (script : Plan) (counts : List ℕ) (actions : List Action) → script.is_open ≡ false → actions ≡ script.actions
    → AreCounts (length script.queues) counts (postings_of_tasks script.tasks ++ filter_map posting_of_action actions)
    → IsTable (room_of script) (length script.queues) counts
unfolding main_postings
actions_counted script counts actions closed same counted = record { all = counted.all; each = λ q less. rw (closed, ← same) (counted.each q less) }
