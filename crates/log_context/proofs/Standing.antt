-- Each entry that a fact shows stands in the log at its place.
-- Cited by `context_at_end`, `context_of`.
use Rattle.std.proofs.Common.{◌≡◌, ℕ, Bool, true, false, List, [], ◌∷◌, ◌++◌, append-nil, append_assoc, flat_map, length, subst}
use Rattle.std.proofs.Common.{Option, Some, None, IfSome}
use Rattle.std.proofs.lemmas.List.Elements.{All-append, All-cons, All-from_recursion, All-nil, recursion_from_All}
use Rattle.std.specs.List.{range_with_len}
use Rattle.std.specs.Option.{option_map, option_or, option_to_list}
use Rattle.std.specs.Prelude.{◌==◌, ◌&&◌, All, if◌then◌else◌, nat_lt, option_and_then, slice_get}
use Rattle.list_laws.proofs.Elements.{AllByRecursion-map, slice_get-end}
use Rattle.list_laws.proofs.Places.{slice_get-more}
use Rattle.list_laws.specs.Lists.{keep}
use Rattle.task_base.specs.Groups.{group_of, is_best_effort}
use Rattle.task_base.specs.Plan.{Plan}
use Rattle.task_base.specs.declared.entry.Entry.{Entry}
use Rattle.task_base.specs.declared.entry.Kind.{Kind}
use Rattle.task_base.specs.declared.entry.Kind.TheVariants as kinds
use Rattle.task_base.specs.declared.script.Runner.{Runner}
use Rattle.task_base.specs.declared.script.RunnerKind.{RunnerKind}
use Rattle.task_base.specs.declared.script.RunnerKind.TheVariants as runners
use Rattle.task_traits.specs.declared.traits.Priority.{Priority}
use Rattle.task_model.specs.Capacity.{priority_of}
use Rattle.task_model.specs.Past.{fold_past, fold_past_from}
use Rattle.log_context.specs.Context.{StandsIn, at_work, context_of, itself, limits, rooms, told_of, waited_for, works_on}
use Rattle.log_context.specs.declared.context.TheConstants.{SEATS_SHOWN}
use Rattle.log_context.specs.declared.context.Waits.{Waits}
use Rattle.log_context.specs.declared.context.Waits.TheVariants as waits
use Rattle.log_context.specs.Marks.{is_marked}
use Rattle.log_context.specs.Posts.{posted, taken}
use Rattle.log_context.specs.Queues.{closed, fence, queue_of, voted_off}
use Rattle.log_context.specs.Rooms.{best_of, counted_by, first_room, limit_of, room, second_room}
use Rattle.log_context.specs.Seats.{busy, elsewhere, ended_or_taken, starts_work}
use Rattle.log_context.specs.Seen.{last_marked, seen_after, stands_as, tells}
use Rattle.log_context.specs.Sources.{behaves, due_by, forbids, holds_back, is_of_parallel, left_by, only_seat, only_seat_of, priorities_by, ripens}
use Rattle.log_context.specs.Sources.{sequence, stopped, task_of_take}
use Rattle.log_context.specs.Sought.{known_after, known_in, known_of, posts_sought, role_of}
use Rattle.log_context.specs.declared.fact.Fact.{Fact}
use Rattle.log_context.specs.declared.fact.Fact.TheVariants as facts
use Rattle.log_context.specs.declared.fact.Limit.{Limit}
use Rattle.log_context.specs.declared.fact.Limit.TheVariants as limit_kinds
use Rattle.log_context.specs.declared.fact.Role.{Role}
use Rattle.log_context.specs.declared.fact.Role.TheVariants as roles
use Rattle.log_context.specs.declared.mark.Mark.{Mark}
use Rattle.log_context.specs.declared.mark.Mark.TheVariants as marks
use Rattle.log_context.specs.declared.mark.Plain.TheVariants as plains
use Rattle.log_context.specs.declared.seen.Seen.{Seen}
use Rattle.log_context.specs.declared.sought.Sought.{Sought}
use Rattle.log_context.specs.declared.sought.Sought.TheVariants as sorts
use Rattle.log_context.specs.declared.sought.TheConstants.{MOST_SEARCHED, TASKS_SHOWN}

-- what was seen stands there
abbrev IsThere : List Entry → Seen → Type 0
IsThere log s = slice_get log s.place ≡ Some s.entry

-- one entry further
there_after : (mark : Mark) (before : List Entry) (value : Option Seen) (e : Entry) → IfSome value (IsThere before)
    → IfSome (seen_after mark before value e) (IsThere (before ++ e ∷ []))
there_after mark before value e there = by_mark (is_marked mark e) value there
  where
    by_mark : (marked : Bool) (v : Option Seen) → IfSome v (IsThere before)
        → IfSome (if marked then Some (record { place = length before; entry = e }) else v) (IsThere (before ++ e ∷ []))
    by_mark true v is = slice_get-end before e
    by_mark false None is = tt
    by_mark false (Some s) is = slice_get-more before (e ∷ []) s.place s.entry is

there_from : (mark : Mark) (before : List Entry) (value : Option Seen) (rest : List Entry) → IfSome value (IsThere before)
    → IfSome (fold_past_from (seen_after mark) before value rest) (IsThere (before ++ rest))
there_from mark before value [] there = rw (append-nil before) there
there_from mark before value (e ∷ rest) there =
    subst (λ (l : List Entry). IfSome (fold_past_from (seen_after mark) (before ++ e ∷ []) (seen_after mark before value e) rest) (IsThere l))
    (append_assoc before (e ∷ []) rest)
    (there_from mark (before ++ e ∷ []) (seen_after mark before value e) rest (there_after mark before value e there))

-- the last entry that is what is looked for stands there
there : (mark : Mark) (past : List Entry) → IfSome (last_marked mark past) (IsThere past)
unfolding last_marked fold_past
there mark past = there_from mark [] None past tt

-- What is made of what was seen.

as_told : (log : List Entry) (role : Role) (o : Option Seen) → IfSome o (IsThere log) → IfSome (stands_as role o) (StandsIn log)
as_told log role None is = tt
as_told log role (Some s) is = is

kept : (log : List Entry) (test : Seen → Bool) (o : Option Seen) → IfSome o (IsThere log) → IfSome (keep test o) (IsThere log)
kept log test None is = tt
kept log test (Some s) is = by_test (test s)
  where
    by_test : (b : Bool) → IfSome (if b then Some s else None) (IsThere log)
    by_test true = is
    by_test false = tt

told : (past : List Entry) (role : Role) (mark : Mark) → IfSome (tells role mark past) (StandsIn past)
told past role mark = as_told past role (last_marked mark past) (there mark past)

told_kept : (past : List Entry) (role : Role) (mark : Mark) (test : Seen → Bool) → IfSome (stands_as role (keep test (last_marked mark past))) (StandsIn past)
told_kept past role mark test = as_told past role (keep test (last_marked mark past)) (kept past test (last_marked mark past) (there mark past))

either : (log : List Entry) (a b : Option Fact) → IfSome a (StandsIn log) → IfSome b (StandsIn log) → IfSome (option_or a b) (StandsIn log)
either log None b is or = or
either log (Some x) b is or = is

where_it_is : (log : List Entry) (b : Bool) (o : Option Fact) → IfSome o (StandsIn log) → IfSome (if b then o else None) (StandsIn log)
where_it_is log true o is = is
where_it_is log false o is = tt

where_it_is_not : (log : List Entry) (b : Bool) (o : Option Fact) → IfSome o (StandsIn log) → IfSome (if b then None else o) (StandsIn log)
where_it_is_not log true o is = tt
where_it_is_not log false o is = is

of_some : {A : Type 0} (log : List Entry) (f : A → Option Fact) (o : Option A) → ((a : A) → IfSome (f a) (StandsIn log))
    → IfSome (option_and_then f o) (StandsIn log)
of_some log f None each = tt
of_some log f (Some a) each = each a

-- What is said of an entry.

module _ (script : Plan) (past : List Entry) (seat : ℕ) where
  taken_stands : (kind : Kind) → IfSome (taken past kind) (StandsIn past)
  taken_stands (kinds.Take task runner found) = told past roles.Taken (marks.Take task)
  taken_stands (kinds.MainTake task queue found) = told past roles.Taken (marks.MainTake task)
  taken_stands kind = tt

  posted_stands : (kind : Kind) → IfSome (posted past kind) (StandsIn past)
  posted_stands (kinds.Take task runner found) = either past (tells roles.Posted (marks.Post task) past) _ (told past roles.Posted (marks.Post task)) tt
  posted_stands (kinds.MainTake task queue found) = either past (tells roles.Posted (marks.Main task) past) _ (told past roles.Posted (marks.Main task)) tt
  posted_stands (kinds.JobTake job id item) = told past roles.Posted (marks.JobPost job)
  posted_stands (kinds.Joined job reply) = told past roles.Posted (marks.JobPost job)
  posted_stands kind = tt

  sequence_stands : (kind : Kind) → IfSome (sequence script past seat kind) (StandsIn past)
  sequence_stands (kinds.Take task runner found) = where_it_is_not past (is_of_parallel script runner) _ (told_kept past roles.Runs (marks.TakeOf runner) _)
  sequence_stands kind = tt

  of_task : (task : ℕ) → IfSome (ended_or_taken past seat task) (StandsIn past)
  of_task task = either past (tells roles.Ended (marks.End task) past) _ (told past roles.Ended (marks.End task))
      (told_kept past roles.Elsewhere (marks.Take task) _)

  elsewhere_stands : (kind : Kind) → IfSome (elsewhere past seat kind) (StandsIn past)
  elsewhere_stands (kinds.End task left) = of_task task
  elsewhere_stands (kinds.Enter task scope) = of_task task
  elsewhere_stands (kinds.Leave task) = of_task task
  elsewhere_stands kind = tt

  due_stands : (kind next : Kind) → IfSome (due_by script past kind next) (StandsIn past)
  due_stands (kinds.Take task runner found) (kinds.Take t other value) = where_it_is past _ _ (told past roles.Due (marks.Post t))
  due_stands (kinds.MainTake task queue found) (kinds.MainTake t other value) = where_it_is past _ _ (told past roles.Due (marks.Main t))
  due_stands kinds.MainNone (kinds.MainTake t other value) = told past roles.Due (marks.Main t)
  due_stands kind next = tt

  left_stands : (kind next : Kind) → IfSome (left_by script past kind next) (StandsIn past)
  left_stands (kinds.Take task runner found) (kinds.Take t other value) = where_it_is past _ _
      (of_some past _ (last_marked (marks.TakeOf runner) past) (λ s. of_some past _ (task_of_take s.entry.kind) (λ t. told past roles.Left (marks.End t))))
  left_stands (kinds.MainTake task queue found) (kinds.MainTake t other value) = where_it_is past _ _
      (of_some past _ (last_marked (marks.MainTakeOf queue) past) (λ s. of_some past _ (task_of_take s.entry.kind) (λ t. told past roles.Left (marks.MainEnd t))))
  left_stands kind next = tt

  priorities_stand : (kind next : Kind) → IfSome (priorities_by script past kind next) (StandsIn past)
  priorities_stand (kinds.Take task runner found) (kinds.Take t best value) = where_it_is_not past (runner == best)
      (Some (facts.Priorities runner (priority_of script past runner) best (priority_of script past best))) tt
  priorities_stand kind next = tt

  of_kind : (runner : ℕ) (kind : RunnerKind) → IfSome (only_seat_of seat runner kind) (StandsIn past)
  of_kind runner (runners.Single only) = where_it_is_not past (only == seat) (Some (facts.Single runner only)) tt
  of_kind runner kind = tt

  only_seat_stands : (kind : Kind) → IfSome (only_seat script seat kind) (StandsIn past)
  only_seat_stands (kinds.Take task runner found) = of_some past _ (slice_get script.runners runner) (λ r. of_kind runner r.kind)
  only_seat_stands kind = tt

  ripens_stands : (kind : Kind) → IfSome (ripens past kind) (StandsIn past)
  ripens_stands (kinds.Take task runner found) = where_it_is past _ _ (told past roles.Moment (marks.Plain plains.Tick))
  ripens_stands kind = tt

  of_runner : (runner : ℕ) (o : Option Runner) → IfSome (option_map (λ r. facts.Behaves runner r.traits.behaviour) o) (StandsIn past)
  of_runner runner None = tt
  of_runner runner (Some r) = tt

  behaves_stands : (kind : Kind) (named : Option Kind) → IfSome (behaves script kind named) (StandsIn past)
  behaves_stands (kinds.Post task runner delay ok) named = where_it_is past _ _ (of_runner runner (slice_get script.runners runner))
  behaves_stands kind named = tt

  stopped_stands : (kind : Kind) → IfSome (stopped past kind) (StandsIn past)
  stopped_stands (kinds.JobTake job id item) = told past roles.Cancelled (marks.JobCancel job)
  stopped_stands kind = tt

  voted_off_stands : (kind : Kind) → IfSome (voted_off past kind) (StandsIn past)
  voted_off_stands (kinds.MainTake task queue found) = told_kept past roles.Off (marks.Off queue) _
  voted_off_stands kind = tt

  fence_stands : (kind : Kind) → IfSome (fence past kind) (StandsIn past)
  fence_stands (kinds.MainTake task queue found) = told_kept past roles.Fence (marks.Fence queue) _
  fence_stands kind = tt

-- All that is said.

add : (log : List Entry) (o : Option Fact) (rest : List Fact) → IfSome o (StandsIn log) → All (StandsIn log) rest
    → All (StandsIn log) (option_to_list o ++ rest)
add log None rest is all = all
add log (Some x) rest is all = All-cons (StandsIn log) x rest is all

-- what stands in the past stands in the log that goes on
further : (past : List Entry) (e : Entry) (fact : Fact) → StandsIn past fact → StandsIn (past ++ e ∷ []) fact
further past e (facts.Stands role place there) stands = slice_get-more past (e ∷ []) place there stands
further past e fact stands = tt

up : (past : List Entry) (e : Entry) (o : Option Fact) → IfSome o (StandsIn past) → IfSome o (StandsIn (past ++ e ∷ []))
up past e None is = tt
up past e (Some f) is = further past e f is

told_stands : (script : Plan) (past : List Entry) (e : Entry) (named : Option Kind) → All (StandsIn (past ++ e ∷ [])) (told_of script past e named)
told_stands script past e named =
    let log : List Entry = past ++ e ∷ [] in
    let more : (o : Option Fact) (rest : List Fact) → IfSome o (StandsIn past) → All (StandsIn log) rest → All (StandsIn log) (option_to_list o ++ rest) =
    λ o rest is all. add log o rest (up past e o is) all in
    add log (Some (itself past e)) _ (slice_get-end past e)
    (more _ _ (taken_stands script past e.seat e.kind)
    (more _ _ (posted_stands script past e.seat e.kind)
    (more _ _ (sequence_stands script past e.seat e.kind)
    (more (busy roles.Busy past e.seat) _ (told_kept past roles.Busy (marks.Work e.seat) (λ s. starts_work s.entry.kind))
    (more _ _ (elsewhere_stands script past e.seat e.kind)
    (more _ _ (of_some past (due_by script past e.kind) named (due_stands script past e.seat e.kind))
    (more _ _ (of_some past (left_by script past e.kind) named (left_stands script past e.seat e.kind))
    (more _ _ (of_some past (priorities_by script past e.kind) named (priorities_stand script past e.seat e.kind))
    (more _ _ (only_seat_stands script past e.seat e.kind)
    (more _ _ (where_it_is past (holds_back script past e.kind) _ (told past roles.Policy (marks.Plain plains.Policy)))
    (more _ _ (ripens_stands script past e.seat e.kind)
    (more _ _ (where_it_is past (forbids script past e.kind named) _ (told past roles.Shutdown (marks.Plain plains.Shutdown)))
    (more _ _ (behaves_stands script past e.seat e.kind named)
    (more _ _ (stopped_stands script past e.seat e.kind)
    (more (closed past e.kind) _ (of_some past (λ q. tells roles.Closed (marks.Close q) past) (queue_of e.kind)
    (λ q. told past roles.Closed (marks.Close q)))
    (more _ _ (voted_off_stands script past e.seat e.kind)
    (more _ _ (fence_stands script past e.seat e.kind)
    (All-nil (StandsIn log)))))))))))))))))))

-- who is at work
pub at_work_stands : (past : List Entry) → All (StandsIn past) (at_work past)
at_work_stands past = of_seats (range_with_len 0 SEATS_SHOWN)
  where
    of_seats : (seats : List ℕ) → All (StandsIn past) (flat_map (works_on past) seats)
    of_seats [] = All-nil (StandsIn past)
    of_seats (seat ∷ seats) = add past (busy roles.Works past seat) (flat_map (works_on past) seats)
        (told_kept past roles.Works (marks.Work seat) _) (of_seats seats)

-- what holds of each of a list, and has a consequence
carried : (P Q : Fact → Type 0) (xs : List Fact) → ((x : Fact) → P x → Q x) → All P xs → All Q xs
carried P Q xs f all = All-from_recursion Q xs (AllByRecursion-map P Q xs f (recursion_from_All P xs all))

-- the posts that are looked for
known_after_stand : (script : Plan) (past : List Entry) (sought : Sought) (before : List Entry) (known : List Fact) (e : Entry)
    → All (StandsIn before) known → All (StandsIn (before ++ e ∷ [])) (known_after script past sought before known e)
known_after_stand script past sought before known e all = by_test (nat_lt (length known) TASKS_SHOWN && posts_sought script past sought e.kind)
  where
    more : All (StandsIn (before ++ e ∷ [])) known
    more = carried (StandsIn before) (StandsIn (before ++ e ∷ [])) known (further before e) all

    by_test : (b : Bool) → All (StandsIn (before ++ e ∷ [])) (if b then known ++ facts.Stands (role_of sought) (length before) e ∷ [] else known)
    by_test true = All-append (StandsIn (before ++ e ∷ [])) known _ more
        (All-cons (StandsIn (before ++ e ∷ [])) (facts.Stands (role_of sought) (length before) e) [] (slice_get-end before e)
        (All-nil (StandsIn (before ++ e ∷ []))))
    by_test false = more

known_from_stand : (script : Plan) (past : List Entry) (sought : Sought) (before : List Entry) (known : List Fact) (rest : List Entry)
    → All (StandsIn before) known → All (StandsIn (before ++ rest)) (fold_past_from (known_after script past sought) before known rest)
known_from_stand script past sought before known [] all = rw (append-nil before) all
known_from_stand script past sought before known (e ∷ rest) all =
    subst (λ (l : List Entry). All (StandsIn l) (fold_past_from (known_after script past sought) (before ++ e ∷ [])
    (known_after script past sought before known e) rest)) (append_assoc before (e ∷ []) rest)
    (known_from_stand script past sought (before ++ e ∷ []) (known_after script past sought before known e) rest
    (known_after_stand script past sought before known e all))

known_stand : (script : Plan) (past : List Entry) (sought : Sought) → All (StandsIn past) (known_of script past sought)
unfolding known_in fold_past
known_stand script past sought = by_length (nat_lt MOST_SEARCHED (length past))
  where
    by_length : (b : Bool) → All (StandsIn past) (if b then [] else known_in script past sought past)
    by_length true = All-nil (StandsIn past)
    by_length false = known_from_stand script past sought [] [] past (All-nil (StandsIn []))

-- what runs by the limits is no entry
rooms_stand : (script : Plan) (past : List Entry) (kind : Kind) → All (StandsIn past) (rooms script past kind)
rooms_stand script past kind =
    All-append (StandsIn past) (flat_map option_to_list (first_room script past kind ∷ second_room script past kind ∷ Some (limits script) ∷ [])) _
    (add past (first_room script past kind) _ (first (counted_by script past kind))
    (add past (second_room script past kind) _ (second (counted_by script past kind))
    (All-cons (StandsIn past) (limits script) [] tt (All-nil (StandsIn past)))))
    (at_work_stands past)
  where
    is_none : (limit : Limit) → StandsIn past (room script past limit)
    is_none limit_kinds.Foreground = tt
    is_none limit_kinds.BestEffort = tt
    is_none limit_kinds.Background = tt

    first : (o : Option Priority) → IfSome (option_map (λ p. room script past (limit_of (group_of script p))) o) (StandsIn past)
    first None = tt
    first (Some p) = is_none (limit_of (group_of script p))

    of_best : (o : Option Limit) → IfSome (option_map (room script past) o) (StandsIn past)
    of_best None = tt
    of_best (Some limit) = is_none limit

    second : (o : Option Priority) → IfSome (option_and_then (λ p. option_map (room script past) (best_of (group_of script p) (is_best_effort p))) o)
        (StandsIn past)
    second None = tt
    second (Some p) = of_best (best_of (group_of script p) (is_best_effort p))

-- what an entry waits for
waited_stand : (script : Plan) (past : List Entry) (kind : Kind) (w : Waits) → All (StandsIn past) (waited_for script past kind w)
waited_stand script past kind waits.Nothing = All-nil (StandsIn past)
waited_stand script past kind waits.Room = rooms_stand script past kind
waited_stand script past kind waits.Work = at_work_stands past
waited_stand script past kind waits.Idle =
    All-append (StandsIn past) (known_of script past sorts.Waiting) _ (known_stand script past sorts.Waiting) (at_work_stands past)
waited_stand script past kind waits.Shutdown =
    All-append (StandsIn past) (known_of script past sorts.Blocking) _ (known_stand script past sorts.Blocking) (at_work_stands past)

-- each entry that is shown stands at its place, the one that may not come among them
pub all_stand : (script : Plan) (past : List Entry) (e : Entry) (named : Option Kind) (w : Waits)
    → All (StandsIn (past ++ e ∷ [])) (context_of script past e named w)
all_stand script past e named w =
    let log : List Entry = past ++ e ∷ [] in
    All-append (StandsIn log) (told_of script past e named) _ (told_stands script past e named)
    (carried (StandsIn past) (StandsIn log) (waited_for script past e.kind w) (further past e) (waited_stand script past e.kind w))
