-- What the manager of the main queues is asked at each event of a nest, and what it then stands for.
-- Cited by `Waiting::new`, `Waiting::post`, `Waiting::take`, `Made`.
use Rattle.std.proofs.Common.{◌≡◌, ℕ, ◌+◌, ◌<◌, ◌^◌, length, Bool, true, false, eqb, List, [], ◌∷◌, ◌++◌, map, refl}
use Rattle.std.proofs.Common.{sym, ap, ◌∙◌, subst, Option, Some, None, arith, length-append, append-nil}
use Rattle.std.specs.Prelude.{◌||◌, not, filter}
use Rattle.std.specs.List.{AllByRecursion}
use Rattle.std.specs.Option.{option_map}
use Rattle.std.proofs.Math.Bool.{or-false}
use Rattle.std.proofs.lemmas.Bool.{eqb-true, true≢false}
use Rattle.std.proofs.lemmas.List.{length-map, map-append}
use Rattle.list_laws.specs.Lists.{count, keep}
use Rattle.list_laws.proofs.Elements.{AllByRecursion-append, AllByRecursion-map}
use Rattle.list_laws.proofs.Filters.{filter-map}
use Rattle.list_laws.proofs.Finds.{none_found}
use Rattle.task_base.specs.declared.entry.Entry.{Entry}
use Rattle.task_base.specs.declared.entry.Kind.TheVariants as kinds
use Rattle.task_model.specs.Posts.{Posted, is_main_taken, main_posted_by, main_posts}
use Rattle.pool_laws.specs.Posts.{main_post_of}
use Rattle.task_model.specs.Refusal.{is_closed}
use Rattle.task_model.specs.Seats.{Running, running}
use Rattle.task_model.proofs.Growth.{is_main_taken_push, main_posts_push, running_push}
use Rattle.sequence_manager.specs.Calls.{CanPost as MainCanPost, CanTake as MainCanTake, IsTaken}
use Rattle.sequence_manager.specs.Calls.{RunsMain, TakeAnswers, after_end, after_main, after_take}
use Rattle.sequence_manager.proofs.PostingsFit.{queue_there}
use Rattle.sequence_manager.specs.Pasts.{IsPostedTo}
use Rattle.sequence_manager.specs.StandsFor.{StandsFor}
use Rattle.sequence_manager.specs.declared.manager.Manager.{Manager}
use Rattle.nested_loop.specs.Keeping.{CanPostNext, CanTakeNext, IsTakenFrom, KeepsManager, takes}
use Rattle.nested_loop.specs.Nest.{IsNestPast, NestPosted, defers, front_task, is_started, posted_by, posted_tasks, starts, was_deferred}
use Rattle.nested_loop.specs.Plan.{NestPlan}
use Rattle.nested_loop.specs.Sound.{IsSoundNest}
use Rattle.nested_loop.specs.Waiting.{TellsEntries, is_plain, posting_of_entry, posting_of_nest, nest_script}
use Rattle.nested_loop.specs.declared.event.Event.{Event}
use Rattle.nested_loop.specs.declared.event.Event.TheVariants as events
use Rattle.nested_loop.specs.declared.waiting.Waiting.{Waiting}
use Rattle.nested_loop.proofs.Choice.{chosen_declared}
use Rattle.nested_loop.proofs.Front.{chosen_is_front, no_voters}
use Rattle.nested_loop.proofs.Growth.{is_started_push, posted_tasks_push, was_deferred_push}
use Rattle.nested_loop.proofs.Known.{past_within, posts_new}
use Rattle.nested_loop.proofs.MainScript.{events_few, posted_to}
use Rattle.nested_loop.proofs.Plain.{plain_past}

-- ---- the test of what was taken

-- what an event adds to the tasks that were deferred or started
gone_push : (past : List Event) (event : Event) (t : ℕ) → (was_deferred (past ++ event ∷ []) t || is_started (past ++ event ∷ []) t)
    ≡ ((was_deferred past t || is_started past t) || (defers t event || starts t event))
gone_push past event t =
    ap (λ b. b || is_started (past ++ event ∷ []) t) (was_deferred_push past event t)
    ∙ ap (λ b. (was_deferred past t || defers t event) || b) (is_started_push past event t)
    ∙ four (was_deferred past t) (defers t event) (is_started past t) (starts t event)
  where
    four : (a b c d : Bool) → ((a || b) || (c || d)) ≡ ((a || c) || (b || d))
    four true b c d = refl
    four false true true d = refl
    four false true false d = refl
    four false false c d = refl

-- an event that takes a task posts nothing, and takes that one
record TakesIt (task : ℕ) (event : Event) : Type 0 where
  no_post : (place : ℕ) → posted_by place event ≡ []
  it : (t : ℕ) → (defers t event || starts t event) ≡ eqb task t

takes_it : (task : ℕ) (event : Event) → takes task event ≡ true → TakesIt task event
takes_it task (events.Start other depth) h = record { no_post = λ place. refl; it = λ t. ap (λ u. eqb u t) (eqb-true other task h) }
takes_it task (events.Defer other) h = record {
  no_post = λ place. refl;
  it = λ t. or-false (eqb other t) ∙ ap (λ u. eqb u t) (eqb-true other task (sym (or-false (eqb other task)) ∙ h));
}
takes_it task (events.Post other queue) h = absurd (true≢false (sym h))
takes_it task (events.Loop depth) h = absurd (true≢false (sym h))
takes_it task (events.Quit depth) h = absurd (true≢false (sym h))
takes_it task (events.End other) h = absurd (true≢false (sym h))
takes_it task (events.Say value) h = absurd (true≢false (sym h))

-- ---- still events

-- an event that posts nothing and takes nothing that was there changes nothing
tells_still : (past : List Event) (entries : List Entry) (event : Event) → ((place : ℕ) → posted_by place event ≡ [])
    → ((t : ℕ) → ((was_deferred past t || is_started past t) || (defers t event || starts t event)) ≡ (was_deferred past t || is_started past t))
    → TellsEntries past entries → TellsEntries (past ++ event ∷ []) entries
tells_still past entries event no_post same tells = record {
  posts = tells.posts ∙ ap (map posting_of_nest) (sym (posted_tasks_push past event ∙ ap (λ ps. posted_tasks past ++ ps) (no_post (length past))
      ∙ append-nil (posted_tasks past)));
  taken = λ t. tells.taken t ∙ sym (gone_push past event t ∙ same t);
  plain = tells.plain;
  idle = tells.idle;
  few = omega (arith, tells.few, length-append past (event ∷ []));
}

keeps_by : (nest : NestPlan) (past : List Event) (event : Event) (waiting : Waiting)
    → ((entries : List Entry) → TellsEntries past entries → TellsEntries (past ++ event ∷ []) entries) → KeepsManager nest past waiting
    → KeepsManager nest (past ++ event ∷ []) waiting
keeps_by nest past event waiting grow keeps = record {
  entries = keeps.entries;
  stands = keeps.stands;
  tells = grow keeps.entries keeps.tells;
  place_is = keeps.place_is;
}

-- an event that posts, starts and defers nothing
pub keeps_still : (nest : NestPlan) (past : List Event) (event : Event) (waiting : Waiting) → ((place : ℕ) → posted_by place event ≡ [])
    → ((t : ℕ) → (defers t event || starts t event) ≡ false) → KeepsManager nest past waiting → KeepsManager nest (past ++ event ∷ []) waiting
keeps_still nest past event waiting no_post none = keeps_by nest past event waiting (λ entries. tells_still past entries event no_post
    (λ t. ap (λ b. (was_deferred past t || is_started past t) || b) (none t) ∙ or-false (was_deferred past t || is_started past t)))

-- a deferred task that starts was taken before
pub keeps_resumed : (nest : NestPlan) (past : List Event) (task depth : ℕ) (waiting : Waiting) → was_deferred past task ≡ true → KeepsManager nest past waiting
    → KeepsManager nest (past ++ events.Start task depth ∷ []) waiting
keeps_resumed nest past task depth waiting deferred = keeps_by nest past (events.Start task depth) waiting
    (λ entries. tells_still past entries (events.Start task depth) (λ place. refl) (λ t. at_each t (eqb task t) refl))
  where
    at_each : (t : ℕ) (b : Bool) → eqb task t ≡ b → ((was_deferred past t || is_started past t) || eqb task t) ≡ (was_deferred past t || is_started past t)
    at_each t true is = let known = ap (was_deferred past) (sym (eqb-true task t is)) ∙ deferred in
        ap (λ d. (d || is_started past t) || eqb task t) known ∙ sym (ap (λ d. d || is_started past t) known)
    at_each t false is = ap (λ b. (was_deferred past t || is_started past t) || b) is ∙ or-false (was_deferred past t || is_started past t)

-- ---- posts

-- a task that a nest has not posted has no post among the entries
no_main_post : (past : List Event) (entries : List Entry) (task : ℕ) → TellsEntries past entries → count (λ p. eqb p.task task) (posted_tasks past) ≡ 0
    → main_post_of entries task ≡ None
no_main_post past entries task tells none = none_found (λ p. eqb p.task task) (main_posts entries)
    (sym (counted_entries (main_posts entries)) ∙ ap (count (λ m. eqb m.task task)) tells.posts ∙ counted_events (posted_tasks past) ∙ none)
  where
    counted_entries : (ps : List Posted) → count (λ m. eqb m.task task) (map posting_of_entry ps) ≡ count (λ p. eqb p.task task) ps
    counted_entries ps = ap length (filter-map (λ m. eqb m.task task) posting_of_entry ps) ∙ length-map (filter (λ p. eqb p.task task) ps) posting_of_entry

    counted_events : (ps : List NestPosted) → count (λ m. eqb m.task task) (map posting_of_nest ps) ≡ count (λ p. eqb p.task task) ps
    counted_events ps = ap length (filter-map (λ m. eqb m.task task) posting_of_nest ps) ∙ length-map (filter (λ p. eqb p.task task) ps) posting_of_nest

-- there are few entries
entries_few : (nest : NestPlan) (past : List Event) (waiting : Waiting) → IsSoundNest nest → IsNestPast nest past → (keeps : KeepsManager nest past waiting)
    → length keeps.entries < 2 ^ 31
entries_few nest past waiting sound fits keeps =
    let few = keeps.tells.few in
    let within = past_within nest sound past fits in
    let small = events_few nest sound in
    omega (arith, few, within, small)

pub can_post : (nest : NestPlan) (past : List Event) (waiting : Waiting) (task queue : ℕ) (can : CanPostNext nest past waiting task queue)
    → MainCanPost (nest_script nest) can.keeps.entries waiting.queues waiting.place task queue 0
can_post nest past waiting task queue can = record {
  stands = can.keeps.stands;
  place_is = can.keeps.place_is;
  few = let few = entries_few nest past waiting can.sound can.is_past can.keeps in omega (arith, few);
  posted = posted_to nest past task queue can.next;
  is_new = no_main_post past can.keeps.entries task can.keeps.tells (posts_new nest can.sound past task queue can.is_past can.next);
  delay_fits = omega arith;
}

-- the queue is not closed
pub not_closed : (nest : NestPlan) (past : List Event) (entries : List Entry) → TellsEntries past entries → (queue : ℕ) → is_closed entries queue ≡ false
not_closed nest past entries tells queue = (plain_past (nest_script nest) entries tells.plain).not_closed queue

pub tells_post : (past : List Event) (entries : List Entry) (task queue : ℕ) → TellsEntries past entries
    → TellsEntries (past ++ events.Post task queue ∷ []) (after_main entries 0 task queue 0 true)
tells_post past entries task queue tells = record {
  posts =
      ap (map posting_of_entry) (main_posts_push entries e)
      ∙ map-append posting_of_entry (main_posts entries) (main_posted_by entries e.kind)
      ∙ ap (λ ms. ms ++ record { task = task; queue = queue } ∷ []) tells.posts
      ∙ sym (ap (map posting_of_nest) (posted_tasks_push past (events.Post task queue))
      ∙ map-append posting_of_nest (posted_tasks past) (posted_by (length past) (events.Post task queue)));
  taken = λ t.
      is_main_taken_push entries e t ∙ or-false (is_main_taken entries t) ∙ tells.taken t
      ∙ sym (gone_push past (events.Post task queue) t ∙ or-false (was_deferred past t || is_started past t));
  plain = AllByRecursion-append (λ x. is_plain x.kind ≡ true) entries (e ∷ []) tells.plain (refl, tt);
  idle = running_push entries e 0 ∙ tells.idle;
  few = omega (arith, tells.few, length-append past (events.Post task queue ∷ []), length-append entries (e ∷ []));
}
  where
    e : Entry
    e = record { seat = 0; kind = kinds.Main task queue 0 true }

pub place_fits : (nest : NestPlan) (past : List Event) (waiting : Waiting) → IsSoundNest nest → IsNestPast nest past → KeepsManager nest past waiting
    → waiting.place < 2 ^ 31
place_fits nest past waiting sound fits keeps = let few = entries_few nest past waiting sound fits keeps in let at = keeps.place_is in omega (arith, few, at)

-- what the manager then stands for
pub keeps_post : (nest : NestPlan) (past : List Event) (waiting after : Waiting) (task queue : ℕ) (can : CanPostNext nest past waiting task queue)
    (accepted : Bool)
    → accepted ≡ not (is_closed can.keeps.entries queue) → StandsFor (nest_script nest) (after_main can.keeps.entries 0 task queue 0 accepted) after.queues
    → after.place ≡ waiting.place + 1 → KeepsManager nest (past ++ events.Post task queue ∷ []) after
keeps_post nest past waiting after task queue can accepted reply stands at = record {
  entries = after_main can.keeps.entries 0 task queue 0 true;
  stands = subst (λ b. StandsFor (nest_script nest) (after_main can.keeps.entries 0 task queue 0 b) after.queues)
      (reply ∙ ap not (not_closed nest past can.keeps.entries can.keeps.tells queue)) stands;
  tells = tells_post past can.keeps.entries task queue can.keeps.tells;
  place_is =
      let was = can.keeps.place_is in
      let one = length-append can.keeps.entries (record { seat = 0; kind = kinds.Main task queue 0 true } ∷ []) in
      omega (arith, was, at, one);
}

-- ---- takes

pub can_take : (nest : NestPlan) (past : List Event) (waiting : Waiting) (can : CanTakeNext nest past waiting)
    → MainCanTake (nest_script nest) can.keeps.entries waiting.queues
can_take nest past waiting can = record { stands = can.keeps.stands; idle = ap (keep (λ w. w.is_main)) can.keeps.tells.idle }

-- what was posted is to queues that are declared
homes_there : (nest : NestPlan) (entries : List Entry) (manager : Manager) → StandsFor (nest_script nest) entries manager
    → AllByRecursion (λ p. p.home < length (nest_script nest).queues) (main_posts entries)
homes_there nest entries manager stands = AllByRecursion-map (λ p. IsPostedTo (nest_script nest) p.task p.home) (λ p. p.home < length (nest_script nest).queues)
    (main_posts entries) (λ p. queue_there (nest_script nest) p.task p.home stands.script_fits) stands.past_fits.posted

-- the manager takes the front
pub takes_front : (nest : NestPlan) (past : List Event) (waiting : Waiting) (can : CanTakeNext nest past waiting) (answer : Option (ℕ × ℕ × ℕ))
    → TakeAnswers (nest_script nest) can.keeps.entries answer → option_map (λ taken. taken.0) answer ≡ front_task nest past
takes_front nest past waiting can None none = ap (option_map (λ f. f.task)) (sym none) ∙ chosen_is_front nest past can.keeps.entries can.keeps.tells
    can.keeps.stands.past_fits.arrivals_are_ordered (homes_there nest can.keeps.entries waiting.queues can.keeps.stands)
takes_front nest past waiting can (Some (task, queue, cell)) taken =
    ap Some (sym taken.task_is) ∙ ap (option_map (λ f. f.task)) (sym taken.chosen) ∙ chosen_is_front nest past can.keeps.entries can.keeps.tells
    can.keeps.stands.past_fits.arrivals_are_ordered (homes_there nest can.keeps.entries waiting.queues can.keeps.stands)

-- the task that is taken runs, until it is ended
abbrev pub running_of : ℕ → ℕ → ℕ → Running
running_of task queue cell = record { task = task; home = queue; found = cell; is_main = true }

pub runs_taken : (nest : NestPlan) (past : List Event) (waiting : Waiting) (can : CanTakeNext nest past waiting) (task queue cell : ℕ) (manager : Manager)
    → IsTaken (nest_script nest) can.keeps.entries task queue cell
    → StandsFor (nest_script nest) (after_take can.keeps.entries (Some (task, queue, cell))) manager
    → RunsMain (nest_script nest) (after_take can.keeps.entries (Some (task, queue, cell))) manager queue (running_of task queue cell)
runs_taken nest past waiting can task queue cell manager taken stands = record {
  stands = stands;
  declared = subst (λ q. q < length (nest_script nest).queues) taken.queue_is
      (chosen_declared (nest_script nest) can.keeps.entries (plain_past (nest_script nest) can.keeps.entries can.keeps.tells.plain) (no_voters nest)
      can.keeps.stands.past_fits.arrivals_are_ordered (homes_there nest can.keeps.entries waiting.queues can.keeps.stands) taken.front taken.chosen);
  runs = ap (keep (λ w. w.is_main)) (running_push can.keeps.entries (record { seat = 0; kind = kinds.MainTake task queue cell }) 0);
  home_is = refl;
}

tells_taken : (past : List Event) (entries : List Entry) (task queue cell : ℕ) (event : Event) → TakesIt task event → TellsEntries past entries
    → TellsEntries (past ++ event ∷ []) (after_end (after_take entries (Some (task, queue, cell))) task cell)
tells_taken past entries task queue cell event it tells = record {
  posts =
      ap (map posting_of_entry) (main_posts_push (entries ++ take ∷ []) end ∙ append-nil (main_posts (entries ++ take ∷ []))
      ∙ main_posts_push entries take ∙ append-nil (main_posts entries))
      ∙ tells.posts
      ∙ ap (map posting_of_nest)
      (sym (posted_tasks_push past event ∙ ap (λ ps. posted_tasks past ++ ps) (it.no_post (length past)) ∙ append-nil (posted_tasks past)));
  taken = λ t.
      is_main_taken_push (entries ++ take ∷ []) end t ∙ or-false (is_main_taken (entries ++ take ∷ []) t)
      ∙ is_main_taken_push entries take t ∙ ap (λ b. b || eqb task t) (tells.taken t)
      ∙ sym (gone_push past event t ∙ ap (λ b. (was_deferred past t || is_started past t) || b) (it.it t));
  plain = AllByRecursion-append (λ x. is_plain x.kind ≡ true) (entries ++ take ∷ []) (end ∷ [])
      (AllByRecursion-append (λ x. is_plain x.kind ≡ true) entries (take ∷ []) tells.plain (refl, tt)) (refl, tt);
  idle = running_push (entries ++ take ∷ []) end 0;
  few = omega (arith, tells.few, length-append past (event ∷ []), length-append (entries ++ take ∷ []) (end ∷ []), length-append entries (take ∷ []));
}
  where
    take : Entry
    take = record { seat = 0; kind = kinds.MainTake task queue cell }

    end : Entry
    end = record { seat = 0; kind = kinds.MainEnd task cell }

-- what the manager then stands for, whether the task starts or is deferred
pub keeps_taken : (nest : NestPlan) (past : List Event) (waiting after : Waiting) (can : CanTakeNext nest past waiting) (task queue cell : ℕ)
    → StandsFor (nest_script nest) (after_end (after_take can.keeps.entries (Some (task, queue, cell))) task cell) after.queues
    → after.place ≡ waiting.place + 2
    → IsTakenFrom nest past (Some task) after
keeps_taken nest past waiting after can task queue cell stands at event h = record {
  entries = after_end (after_take can.keeps.entries (Some (task, queue, cell))) task cell;
  stands = stands;
  tells = tells_taken past can.keeps.entries task queue cell event (takes_it task event h) can.keeps.tells;
  place_is =
      let was = can.keeps.place_is in
      let one = length-append can.keeps.entries (record { seat = 0; kind = kinds.MainTake task queue cell } ∷ []) in
      let two = length-append (after_take can.keeps.entries (Some (task, queue, cell))) (record { seat = 0; kind = kinds.MainEnd task cell } ∷ []) in
      omega (arith, was, at, one, two);
}

-- at the start there are no entries
pub keeps_at_start : (nest : NestPlan) (waiting : Waiting) → StandsFor (nest_script nest) [] waiting.queues → waiting.place ≡ 0 → KeepsManager nest [] waiting
unfolding main_posts posted_tasks is_main_taken was_deferred is_started running Rattle.task_model.specs.Past.fold_past
keeps_at_start nest waiting stands at = record {
  entries = [];
  stands = stands;
  tells = record { posts = refl; taken = λ t. refl; plain = tt; idle = refl; few = omega arith };
  place_is = at;
}
