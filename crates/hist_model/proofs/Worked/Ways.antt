-- Histories with one way on: where an action waits, the only entry that may come is the one that the law of progress names. And
-- histories that would be stuck, were a rule another.
use Rattle.std.proofs.Common.{◌≡◌, ℕ, Bool, true, false, List, [], ◌∷◌, ◌++◌, refl}
use Rattle.std.specs.Prelude.{codes, Option, Some, None, Ok, Err, not, ◌&&◌, ◌==◌, filter, map}
use Rattle.task_base.specs.Plan.{Plan}
use Rattle.task_base.specs.Policy.{holds_back}
use Rattle.task_base.specs.declared.entry.Entry.{Entry}
use Rattle.task_base.specs.declared.entry.JobReply.TheVariants as replies
use Rattle.task_base.specs.declared.entry.Kind.{Kind}
use Rattle.task_base.specs.declared.entry.Kind.TheVariants as kinds
use Rattle.task_base.specs.declared.policy.Policy.TheVariants as policies
use Rattle.task_base.specs.declared.script.FenceAt.TheVariants.{Now, Start}
use Rattle.task_base.specs.declared.step.Scope.TheVariants.{May, Will}
use Rattle.list_laws.specs.Lists.{count}
use Rattle.task_base.specs.Entries.{entry_by as by}
use Rattle.task_model.specs.Past.{fold_past}
use Rattle.task_model.specs.Time.{now_of}
use Rattle.task_model.specs.Posts.{posts, is_ended}
use Rattle.task_model.specs.Policies.{policy_of}
use Rattle.task_model.specs.Refusal.{effective_at}
use Rattle.task_model.specs.Capacity.{priority_of}
use Rattle.task_model.specs.Blockers.{is_block}
use Rattle.hist_model.proofs.Worked.Rows.{judge, read}

-- ---- the ways on from a history

abbrev with_number : {A : Type 0} → (ℕ → List A) → List A
with_number make = make 0 ++ make 1

abbrev with_answer : {A : Type 0} → (Bool → A) → List A
with_answer make = make true ∷ make false ∷ []

-- the kinds that have one number, two, three and four, and those that have none
abbrev with_none : List Kind
with_none = kinds.MainNone ∷ kinds.Idle ∷ kinds.Shutdown ∷ kinds.Done ∷ kinds.Policy policies.All ∷ kinds.Policy policies.Foreground
    ∷ kinds.Policy policies.Nothing ∷ []

abbrev with_one : ℕ → List Kind
with_one a = kinds.Tick a ∷ kinds.Enter a May ∷ kinds.Enter a Will ∷ kinds.Leave a ∷ kinds.Fence a Now ∷ kinds.Fence a Start ∷ kinds.Unfence a
    ∷ kinds.Close a ∷ kinds.JobCancel a ∷ kinds.Cancelled a ∷ kinds.Joined a replies.Refused ∷ kinds.Joined a replies.Cancelled
    ∷ kinds.Joined a replies.Stopped ∷ with_answer (kinds.JobPost a)

abbrev with_two : ℕ → ℕ → List Kind
with_two a b = kinds.End a b ∷ kinds.MainEnd a b ∷ kinds.Rank a b ∷ kinds.Joined a (replies.Finished b) ∷ with_answer (kinds.Vote a b)

abbrev with_three : ℕ → ℕ → ℕ → List Kind
with_three a b c = kinds.Take a b c ∷ kinds.MainTake a b c ∷ kinds.JobTake a b c ∷ with_answer (kinds.Post a b c) ++ with_answer (kinds.Main a b c)

abbrev with_four : ℕ → ℕ → ℕ → ℕ → List Kind
with_four a b c d = kinds.JobStep a b c d None ∷ kinds.JobStep a b c d (Some 0) ∷ kinds.JobStep a b c d (Some 1) ∷ []

-- all kinds whose numbers are 0 or 1
abbrev small_kinds : List Kind
small_kinds = with_none
    ++ with_number (λ a. with_one a ++ with_number (λ b. with_two a b ++ with_number (λ c. with_three a b c ++ with_number (with_four a b c))))

-- all entries whose numbers are 0 or 1
abbrev small_entries : List Entry
small_entries = map (by 0) small_kinds ++ map (by 1) small_kinds

-- those of them that are allowed after a legal log
abbrev ways : Plan → List Entry → List Entry
ways script log = filter (λ e. (judge script (log ++ e ∷ [])).0) small_entries

-- what is found of the script that a text is, and a log
abbrev of_text : {A : Type 0} → List ℕ → (Plan → A) → Option A
of_text {A = A} text look = elim (read text) as (λ _. Option A) [ Ok script ↦ Some (look script) | Err fault ↦ None ]

abbrev ways_on : List ℕ → List Entry → Option (List Entry)
ways_on text log = of_text text (λ script. ways script log)

-- ---- flush: a worker takes the task and ends it, and then all is idle

abbrev flushed : List ℕ
flushed = codes "workers 1\nrunner 0 sequenced user_visible skip\ntask 0 add 1\npost 0 0 0\nflush\n"

abbrev posted : Entry
posted = by 0 (kinds.Post 0 0 0 true)

abbrev taken : Entry
taken = by 1 (kinds.Take 0 0 0)

flush_waits_for_a_take : ways_on flushed (posted ∷ []) ≡ Some (taken ∷ [])
unfolding judge read
flush_waits_for_a_take = refl

flush_waits_for_an_end : ways_on flushed (posted ∷ taken ∷ []) ≡ Some (by 1 (kinds.End 0 1) ∷ [])
unfolding judge read
flush_waits_for_an_end = refl

flush_is_idle : ways_on flushed (posted ∷ taken ∷ by 1 (kinds.End 0 1) ∷ []) ≡ Some (by 0 kinds.Idle ∷ [])
unfolding judge read
flush_is_idle = refl

nothing_follows_a_whole_history : ways_on flushed (posted ∷ taken ∷ by 1 (kinds.End 0 1) ∷ by 0 kinds.Idle ∷ []) ≡ Some []
unfolding judge read
nothing_follows_a_whole_history = refl

-- ---- a task that runs enters its act steps

a_task_enters_its_next_act_step : ways_on (codes "workers 1\nrunner 0 sequenced user_visible skip\ntask 0\ntask 1 post 0 0 0 ; add 1\npost 1 0 0\nflush\n")
    (by 0 (kinds.Post 1 0 0 true) ∷ by 1 (kinds.Take 1 0 0) ∷ []) ≡ Some (by 1 (kinds.Post 0 0 0 true) ∷ [])
unfolding judge read
a_task_enters_its_next_act_step = refl

-- ---- cancel: who is inside leaves, and then the job is cancelled

abbrev cancelled : List ℕ
cancelled = codes "workers 1\njob 0 user_visible skip 2 1\nstartjob 0\ncancel 0\n"

abbrev entered_and_cancelled : List Entry
entered_and_cancelled = by 0 (kinds.JobPost 0 true) ∷ by 1 (kinds.JobTake 0 0 0) ∷ by 0 (kinds.JobCancel 0) ∷ []

cancel_waits_for_who_is_inside : ways_on cancelled entered_and_cancelled ≡ Some (by 1 (kinds.JobStep 0 0 0 0 None) ∷ [])
unfolding judge read
cancel_waits_for_who_is_inside = refl

cancel_ends_where_nobody_is_inside : ways_on cancelled (entered_and_cancelled ++ by 1 (kinds.JobStep 0 0 0 0 None) ∷ []) ≡ Some (by 0 (kinds.Cancelled 0) ∷ [])
unfolding judge read
cancel_ends_where_nobody_is_inside = refl

-- ---- join: where the policy holds the workers back, the driver goes in alone

abbrev joined : List ℕ
joined = codes "workers 1\njob 0 user_visible skip 1 1\npolicy none\nstartjob 0\njoin 0\n"

abbrev held_back : List Entry
held_back = by 0 (kinds.Policy policies.Nothing) ∷ by 0 (kinds.JobPost 0 true) ∷ []

join_waits_for_the_driver_itself : ways_on joined held_back ≡ Some (by 0 (kinds.JobTake 0 0 0) ∷ [])
unfolding judge read
join_waits_for_the_driver_itself = refl

join_ends_where_all_is_done : ways_on joined (held_back ++ by 0 (kinds.JobTake 0 0 0) ∷ by 0 (kinds.JobStep 0 0 0 0 None) ∷ [])
    ≡ Some (by 0 (kinds.Joined 0 (replies.Finished 0)) ∷ [])
unfolding judge read
join_ends_where_all_is_done = refl

join_ends_where_shutdown_forbids : ways_on (codes "workers 1\njob 0 user_visible skip 1 1\nstartjob 0\nshutdown\njoin 0\n")
    (by 0 (kinds.JobPost 0 true) ∷ by 0 kinds.Shutdown ∷ by 0 kinds.Done ∷ []) ≡ Some (by 0 (kinds.Joined 0 replies.Stopped) ∷ [])
unfolding judge read
join_ends_where_shutdown_forbids = refl

-- ---- pump: the open front, or none

abbrev pumped : List ℕ
pumped = codes "queue 0 0 0\ntask 0\nmain 0 0 0\npump 1\n"

pump_takes_the_front : ways_on pumped (by 0 (kinds.Main 0 0 0 true) ∷ []) ≡ Some (by 0 (kinds.MainTake 0 0 0) ∷ [])
unfolding judge read
pump_takes_the_front = refl

pump_ends_the_main_task : ways_on pumped (by 0 (kinds.Main 0 0 0 true) ∷ by 0 (kinds.MainTake 0 0 0) ∷ []) ≡ Some (by 0 (kinds.MainEnd 0 0) ∷ [])
unfolding judge read
pump_ends_the_main_task = refl

pump_finds_none_behind_a_fence : ways_on (codes "queue 0 0 0\ntask 0\nfence 0 start\nmain 0 0 0\npump 1\n")
    (by 0 (kinds.Fence 0 Start) ∷ by 0 (kinds.Main 0 0 0 true) ∷ []) ≡ Some (by 0 kinds.MainNone ∷ [])
unfolding judge read
pump_finds_none_behind_a_fence = refl

-- ---- shutdown: a worker takes what blocks it, whatever the policy

abbrev blocked : List ℕ
blocked = codes "workers 1\nrunner 0 parallel user_visible block\ntask 0\npolicy none\npost 0 0 0\nshutdown\n"

abbrev held_and_shut : List Entry
held_and_shut = by 0 (kinds.Policy policies.Nothing) ∷ posted ∷ by 0 kinds.Shutdown ∷ []

shutdown_waits_for_a_block_task : ways_on blocked held_and_shut ≡ Some (taken ∷ [])
unfolding judge read
shutdown_waits_for_a_block_task = refl

shutdown_waits_for_a_block_job : ways_on (codes "workers 1\njob 0 user_visible block 1 1\nstartjob 0\nshutdown\n")
    (by 0 (kinds.JobPost 0 true) ∷ by 0 kinds.Shutdown ∷ []) ≡ Some (by 1 (kinds.JobTake 0 0 0) ∷ [])
unfolding judge read
shutdown_waits_for_a_block_job = refl

abbrev delayed : List ℕ
delayed = codes "workers 1\nrunner 0 parallel user_visible block\ntask 0\npost 0 0 1\nshutdown\n"

abbrev delayed_and_shut : List Entry
delayed_and_shut = by 0 (kinds.Post 0 0 1 true) ∷ by 0 kinds.Shutdown ∷ []

shutdown_waits_for_no_delayed_task : ways_on delayed delayed_and_shut ≡ Some (by 0 kinds.Done ∷ [])
unfolding judge read
shutdown_waits_for_no_delayed_task = refl

-- ---- rules that are changed, each with the lemma that would be false then

-- were a limit 0, as in no sound script, no work of the group would have room (`has_room_now`), and shutdown would wait for what
-- may never start
stuck_where_a_limit_is_0 : of_text blocked (λ script. ways (record script { foreground = 0 }) held_and_shut) ≡ Some []
unfolding judge read
stuck_where_a_limit_is_0 = refl

-- how much would block shutdown, did a delayed block task stay block
abbrev blocking_tasks : Plan → List Entry → ℕ
blocking_tasks script log = count (λ p. is_block (effective_at script p.home 0) && not (is_ended log p.task)) (posts log)

-- the entry may still come then: a done only where nothing blocks
abbrev may_with_delayed_blocks : Plan → List Entry → Kind → Bool
may_with_delayed_blocks script log kinds.Done = blocking_tasks script log == 0
may_with_delayed_blocks script log kind = true

-- then an open block task might be delayed (`block_is_immediate`), and shutdown would wait for one that no tick makes ripe any more
stuck_where_a_delayed_block_task_stays_block : of_text delayed
    (λ script. filter (λ e. may_with_delayed_blocks script delayed_and_shut e.kind) (ways script delayed_and_shut))
    ≡ Some []
unfolding judge read posts fold_past is_ended now_of
stuck_where_a_delayed_block_task_stays_block = refl

-- the entry may still come, did the policy hold back once shutdown was started too (`none_held`): a take only where it does not
abbrev may_with_policy : Plan → List Entry → Kind → Bool
may_with_policy script log (kinds.Take task runner found) = not (holds_back (policy_of log) (priority_of script log runner))
may_with_policy script log kind = true

stuck_where_the_policy_holds_back_after_shutdown : of_text blocked
    (λ script. filter (λ e. may_with_policy script held_and_shut e.kind) (ways script held_and_shut)) ≡ Some []
unfolding judge read policy_of
stuck_where_the_policy_holds_back_after_shutdown = refl
