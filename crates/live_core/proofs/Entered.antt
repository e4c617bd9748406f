-- One more entry in the books: each table says what the longer past says.
-- Cited by `Books::enter`, `Books::is_posting_it`, `Books::open`, `Books::spare_task`, `LiveCore::end`, `LiveCore::main_end`,
-- `guest_runner`, `Asks`, `Fits`.
use Rattle.std.proofs.Common.{◌≡◌, ℕ, zero, suc, ◌+◌, ◌<◌, ◌≤◌, Bool, true, false, cond, eqb, List, [], ◌∷◌, ◌++◌, get_or, length, refl, sym, ap, ◌∙◌}
use Rattle.std.proofs.Common.{Option, Some, None, arith, ◌⊎◌, inl, inr, ⊎_elim}
use Rattle.std.specs.Prelude.{◌&&◌, ◌||◌, is_some, not, slice_set}
use Rattle.std.specs.List.{find, range_with_len}
use Rattle.std.specs.Option.{option_map}
use Rattle.std.proofs.Math.Bool.{or-false, or-true}
use Rattle.std.proofs.lemmas.Bool.{cases_eq, cases_lt, ne_eqb}
use Rattle.std.proofs.lemmas.Option.{none-some, slice_get-get_or}
use Rattle.list_laws.proofs.Values.{eqb-same, some-injective}
use Rattle.task_base.specs.Plan.{Plan}
use Rattle.task_base.specs.Entries.{entry_by, next}
use Rattle.task_base.specs.declared.entry.Entry.{Entry}
use Rattle.task_base.specs.declared.entry.Kind.{Kind}
use Rattle.task_base.specs.declared.entry.Kind.TheVariants as kinds
use Rattle.task_model.proofs.Growth.{any-push, holding_push, is_cancelled_push, job_post_of_push, open_scope_push, running_push}
use Rattle.task_model.specs.Capacity.{open_scope, scope_after}
use Rattle.task_model.specs.Jobs.{JobPosted, cancels, is_cancelled, job_post_after, job_post_of}
use Rattle.task_model.specs.Seats.{Holding, Running, holding, holding_after, running, running_after}
use Rattle.sequence_manager.proofs.Tables.{table_same, table_set}
use Rattle.sequence_manager.specs.Queues.{IsTable}
use Rattle.live_core.specs.Books.{IsFirstUnmarked, IsNextOut, NamesJob, NamesScope, NamesTask, at_seat, fresh_mark, holds_after, is_unmarked}
use Rattle.live_core.specs.Books.{item_of, jobs_after}
use Rattle.live_core.specs.Books.{mark_at, mark_of, posted_after, runs_after, scopes_after, work_of}
use Rattle.hist_model.specs.Open.{is_kept, posts_task, was_posted}
use Rattle.live_core.specs.Calls.{is_spare, spare_task}
use Rattle.live_core.specs.declared.books.JobMark.{JobMark}
use Rattle.live_core.specs.declared.books.Seat.{Seat}

-- what a table says at a place
pub table_get : {A : Type 0} (f : ℕ → A) (count : ℕ) (xs : List A) (i : ℕ) (d : A) → IsTable f count xs → i < count → get_or xs i d ≡ f i
table_get f count xs i d table there = some-injective (sym (slice_get-get_or xs i d (omega (arith, there, table.all))) ∙ table.each i there)

-- ---- what seats do

runs_as : (now : Option Running) (kind : Kind) → option_map work_of (running_after now kind) ≡ runs_after (option_map work_of now) kind
runs_as now (kinds.Take task runner found) = refl
runs_as now (kinds.MainTake task queue found) = refl
runs_as now (kinds.End task left) = refl
runs_as now (kinds.MainEnd task left) = refl
runs_as now kind = refl

holds_as : (now : Option Holding) (kind : Kind) → option_map item_of (holding_after now kind) ≡ holds_after (option_map item_of now) kind
holds_as now (kinds.JobTake job id item) = refl
holds_as now (kinds.JobStep job id item value (Some claimed)) = refl
holds_as now (kinds.JobStep job id item value None) = refl
holds_as now kind = refl

-- what a seat does after an entry of its own
abbrev pub seat_after : Seat → Kind → Seat
seat_after now kind = record { runs = runs_after now.runs kind; holds = holds_after now.holds kind }

seat_push : (past : List Entry) (e : Entry) (seat : ℕ)
    → at_seat (past ++ e ∷ []) seat ≡ cond (eqb e.seat seat) (seat_after (at_seat past seat) e.kind) (at_seat past seat)
seat_push past e seat = rw (running_push past e seat, holding_push past e seat) (at (eqb e.seat seat))
  where
    at : (b : Bool) → ◌≡◌ {A = Seat} (record {
      runs = option_map work_of (cond b (running_after (running past seat) e.kind) (running past seat));
      holds = option_map item_of (cond b (holding_after (holding past seat) e.kind) (holding past seat));
    }) (cond b (seat_after (at_seat past seat) e.kind) (at_seat past seat))
    at true = rw (runs_as (running past seat) e.kind, holds_as (holding past seat) e.kind) refl
    at false = refl

pub seats_entered : (past : List Entry) (seat : ℕ) (kind : Kind) (count : ℕ) (seats : List Seat) (now : Seat) → IsTable (at_seat past) count seats
    → seat < count → now ≡ seat_after (at_seat past seat) kind → IsTable (at_seat (next past seat kind)) count (slice_set seats seat now)
seats_entered past seat kind count seats now table there is = table_set (at_seat past) (at_seat (next past seat kind)) count seats seat now table there
    (λ other within apart. sym (seat_push past (entry_by seat kind) other ∙ rw (ne_eqb seat other (λ same. apart (sym same))) refl))
    (is ∙ sym (seat_push past (entry_by seat kind) seat ∙ rw (eqb-same seat) refl))

-- ---- scopes

abbrev has_scope : List Entry → ℕ → Bool
has_scope past task = is_some (open_scope past task)

scope_push : (past : List Entry) (seat : ℕ) (kind : Kind) (task : ℕ)
    → has_scope (next past seat kind) task ≡ is_some (scope_after task past (open_scope past task) kind)
scope_push past seat kind task = ap is_some (open_scope_push past (entry_by seat kind) task)

pub scopes_entered : (past : List Entry) (seat : ℕ) (kind : Kind) (count : ℕ) (scopes : List Bool)
    → IsTable (λ task. is_some (open_scope past task)) count scopes
    → NamesScope count kind → IsTable (λ task. is_some (open_scope (next past seat kind) task)) count (scopes_after scopes kind)
scopes_entered past seat (kinds.Enter task scope) count scopes table there =
    table_set (has_scope past) (has_scope (next past seat (kinds.Enter task scope))) count scopes task true table there
    (λ other within apart. sym (scope_push past seat (kinds.Enter task scope) other ∙ rw (ne_eqb task other (λ same. apart (sym same))) refl))
    (sym (scope_push past seat (kinds.Enter task scope) task ∙ rw (eqb-same task) refl))
scopes_entered past seat (kinds.Leave task) count scopes table there =
    table_set (has_scope past) (has_scope (next past seat (kinds.Leave task))) count scopes task false table there
    (λ other within apart. sym (scope_push past seat (kinds.Leave task) other ∙ rw (ne_eqb task other (λ same. apart (sym same))) refl))
    (sym (scope_push past seat (kinds.Leave task) task ∙ rw (eqb-same task) refl))
scopes_entered past seat kind count scopes table there =
    table_same (has_scope past) (has_scope (next past seat kind)) count scopes (λ task within. sym (scope_push past seat kind task)) table

-- no task that is not declared has a scope
pub no_other_scope : (past : List Entry) (seat : ℕ) (kind : Kind) (count : ℕ) → NamesScope count kind
    → ((task : ℕ) → count ≤ task → open_scope past task ≡ None) → (task : ℕ) → count ≤ task → open_scope (next past seat kind) task ≡ None
no_other_scope past seat (kinds.Enter opens scope) count there none task beyond =
    open_scope_push past (entry_by seat (kinds.Enter opens scope)) task
    ∙ rw (ne_eqb opens task (λ same. omega (arith, same, there, beyond))) (none task beyond)
no_other_scope past seat (kinds.Leave closes) count there none task beyond =
    open_scope_push past (entry_by seat (kinds.Leave closes)) task
    ∙ rw (ne_eqb closes task (λ same. omega (arith, same, there, beyond))) (none task beyond)
no_other_scope past seat kind count there none task beyond = open_scope_push past (entry_by seat kind) task ∙ none task beyond

-- ---- jobs

abbrev mark_after : List Entry → ℕ → Kind → JobMark
mark_after past job kind = record {
  posted = is_some (job_post_after job past (job_post_of past job) kind);
  cancelled = is_cancelled past job || cancels job kind;
}

mark_push : (past : List Entry) (seat : ℕ) (kind : Kind) (job : ℕ) → mark_of (next past seat kind) job ≡ mark_after past job kind
mark_push past seat kind job = rw (job_post_of_push past (entry_by seat kind) job, is_cancelled_push past (entry_by seat kind) job) refl

-- the entry posts the job
abbrev posts_job : ℕ → Kind → Bool
posts_job job (kinds.JobPost posted ok) = eqb posted job
posts_job job kind = false

-- what an entry of another job, or of none, leaves
post_stays : (before : List Entry) (job : ℕ) (kind : Kind) (now : Option JobPosted) → posts_job job kind ≡ false → job_post_after job before now kind ≡ now
post_stays before job (kinds.JobPost posted ok) None other = rw other refl
post_stays before job (kinds.JobPost posted ok) (Some p) other = refl
post_stays before job kind None other = refl
post_stays before job kind (Some p) other = refl

mark_stays : (past : List Entry) (seat : ℕ) (kind : Kind) (job : ℕ) → posts_job job kind ≡ false → cancels job kind ≡ false
    → mark_of past job ≡ mark_of (next past seat kind) job
mark_stays past seat kind job unposted uncancelled = sym (mark_push past seat kind job
    ∙ rw (post_stays past job kind (job_post_of past job) unposted, uncancelled, or-false (is_cancelled past job)) refl)

post_comes : (before : List Entry) (job : ℕ) (ok : Bool) (now : Option JobPosted) → is_some (job_post_after job before now (kinds.JobPost job ok)) ≡ true
post_comes before job ok None = rw (eqb-same job) refl
post_comes before job ok (Some p) = refl

mark_is : (past : List Entry) (count : ℕ) (jobs : List JobMark) (job : ℕ) → IsTable (mark_of past) count jobs → job < count
    → mark_at jobs job ≡ mark_of past job
mark_is past count jobs job table there = table_get (mark_of past) count jobs job fresh_mark table there

pub jobs_entered : (past : List Entry) (seat : ℕ) (kind : Kind) (count : ℕ) (jobs : List JobMark) → IsTable (mark_of past) count jobs
    → NamesJob count kind → IsTable (mark_of (next past seat kind)) count (jobs_after jobs kind)
jobs_entered past seat (kinds.JobPost job ok) count jobs table there =
    table_set (mark_of past) (mark_of (next past seat (kinds.JobPost job ok))) count jobs job _ table there
    (λ other within apart. mark_stays past seat (kinds.JobPost job ok) other (ne_eqb job other (λ same. apart (sym same))) refl)
    (rw (mark_is past count jobs job table there) (sym (mark_push past seat (kinds.JobPost job ok) job
    ∙ rw (post_comes past job ok (job_post_of past job), or-false (is_cancelled past job)) refl)))
jobs_entered past seat (kinds.JobCancel job) count jobs table there =
    table_set (mark_of past) (mark_of (next past seat (kinds.JobCancel job))) count jobs job _ table there
    (λ other within apart. mark_stays past seat (kinds.JobCancel job) other refl (ne_eqb job other (λ same. apart (sym same))))
    (rw (mark_is past count jobs job table there) (sym (mark_push past seat (kinds.JobCancel job) job
    ∙ rw (post_stays past job (kinds.JobCancel job) (job_post_of past job) refl, eqb-same job, or-true (is_cancelled past job)) refl)))
jobs_entered past seat kind count jobs table there =
    table_same (mark_of past) (mark_of (next past seat kind)) count jobs (λ job within. mark_stays past seat kind job refl refl) table

-- ---- the tasks that are handed out

pub posted_push : (past : List Entry) (seat : ℕ) (kind : Kind) (task : ℕ)
    → was_posted (next past seat kind) task ≡ (was_posted past task || posts_task task kind)
unfolding was_posted
posted_push past seat kind task = any-push (posts_task task) past (entry_by seat kind)

-- what is not spare is not after another entry
spare_no_more : (plan : Plan) (past : List Entry) (seat : ℕ) (kind : Kind) (task : ℕ) → is_spare plan past task ≡ false
    → is_spare plan (next past seat kind) task ≡ false
spare_no_more plan past seat kind task not_spare = rw (posted_push past seat kind task) (at (is_kept plan task) (was_posted past task) not_spare)
  where
    at : (kept posted : Bool) → (not kept && not posted) ≡ false → (not kept && not (posted || posts_task task kind)) ≡ false
    at true posted h = refl
    at false true h = refl
    at false false h = absurd cc

-- what is found in a range is there, and what is before it fails
pub record IsFirstIn (test : ℕ → Bool) (start count found : ℕ) : Type 0 where
  pub low : start ≤ found
  pub high : found < start + count
  pub passes : test found ≡ true
  pub others : (n : ℕ) → start ≤ n → n < found → test n ≡ false

pub found_first : (test : ℕ → Bool) (start count found : ℕ) → find test (range_with_len start count) ≡ Some found → IsFirstIn test start count found
found_first test start zero found is = absurd (none-some found is)
found_first test start (suc count) found is = at (test start) refl (found_first test (start + 1) count found) is
  where
    at : (b : Bool) → test start ≡ b
        → (find test (range_with_len (start + 1) count) ≡ Some found → IsFirstIn test (start + 1) count found)
        → cond b (Some start) (find test (range_with_len (start + 1) count)) ≡ Some found
        → IsFirstIn test start (suc count) found
    at true passes first here =
        let same : start ≡ found = some-injective here in
        record {
          low = omega (arith, same);
          high = omega (arith, same);
          passes = rw (← same) passes;
          others = λ n low less. absurd (omega (arith, same, low, less));
        }
    at false fails first there =
        let rest = first there in
        record {
          low = omega (arith, rest.low);
          high = omega (arith, rest.high);
          passes = rest.passes;
          others = λ n low less. ⊎_elim (λ (same : n ≡ start). rw same fails) (λ apart. rest.others n (omega (arith, low, apart)) less) (cases_eq n start);
        }

pub first_found : (test : ℕ → Bool) (start count found : ℕ) → start ≤ found → found < start + count → test found ≡ true
    → ((n : ℕ) → start ≤ n → n < found → test n ≡ false) → find test (range_with_len start count) ≡ Some found
first_found test start zero found low high passes others = absurd (omega (arith, low, high))
first_found test start (suc count) found low high passes others =
    at (cases_eq start found) (λ above. first_found test (start + 1) count found above (omega (arith, high)) passes
    (λ n less. others n (omega (arith, less))))
  where
    at : (start ≡ found) ⊎ (start ≡ found → ⊥)
        → (start + 1 ≤ found → find test (range_with_len (start + 1) count) ≡ Some found)
        → find test (range_with_len start (suc count)) ≡ Some found
    at (inl same) rest = rw (same, passes) refl
    at (inr apart) rest = rw (others start (omega arith) (omega (arith, low, apart))) (rest (omega (arith, low, apart)))

pub none_in_range : (test : ℕ → Bool) (start count : ℕ) → ((n : ℕ) → start ≤ n → n < start + count → test n ≡ false)
    → find test (range_with_len start count) ≡ None
none_in_range test start zero fails = refl
none_in_range test start (suc count) fails = rw (fails start (omega arith) (omega arith))
    (none_in_range test (start + 1) count (λ n low high. fails n (omega (arith, low)) (omega (arith, high))))

-- ---- posted tasks

mark_posted : (past : List Entry) (seat : ℕ) (kind : Kind) (task count : ℕ) (posted : List Bool) → IsTable (was_posted past) count posted → task < count
    → ((t : ℕ) → posts_task t kind ≡ eqb task t) → IsTable (was_posted (next past seat kind)) count (slice_set posted task true)
mark_posted past seat kind task count posted table there posts =
    table_set (was_posted past) (was_posted (next past seat kind)) count posted task true table there
    (λ other within apart. sym (posted_push past seat kind other
    ∙ rw (posts other, ne_eqb task other (λ same. apart (sym same))) (or-false (was_posted past other))))
    (sym (posted_push past seat kind task ∙ rw (posts task, eqb-same task) (or-true (was_posted past task))))

pub posted_entered : (past : List Entry) (seat : ℕ) (kind : Kind) (count : ℕ) (posted : List Bool) → IsTable (was_posted past) count posted
    → NamesTask count kind → IsTable (was_posted (next past seat kind)) count (posted_after posted kind)
posted_entered past seat (kinds.Post task runner delay ok) count posted table there =
    mark_posted past seat (kinds.Post task runner delay ok) task count posted table there (λ t. refl)
posted_entered past seat (kinds.Main task queue delay ok) count posted table there =
    mark_posted past seat (kinds.Main task queue delay ok) task count posted table there (λ t. refl)
posted_entered past seat kind count posted table there = table_same (was_posted past) (was_posted (next past seat kind)) count posted
    (λ t within. sym (posted_push past seat kind t ∙ or-false (was_posted past t))) table

-- ---- which task is handed out

-- the first task from a place on that no step posts and that was not posted, where before that place none may be handed out
pub next_out : (plan : Plan) (past : List Entry) (kept posted : List Bool) (start place : ℕ) → ((t : ℕ) → t < start → is_spare plan past t ≡ false)
    → IsTable (is_kept plan) (length plan.tasks) kept → IsTable (was_posted past) (length plan.tasks) posted
    → IsFirstUnmarked kept posted start place → IsNextOut plan past place
next_out plan past kept posted start place none keeps posts first = record {
  within = omega (arith, first.high, keeps.all);
  before = λ t less. elim (cases_lt t start) [
    | inl out ↦ none t out
    | inr from ↦ sym (same t (omega (arith, less, first.high, keeps.all))) ∙ first.marked t from less
  ];
  spare = λ there. sym (same place there) ∙ first.unmarked (omega (arith, there, keeps.all));
}
  where
    same : (t : ℕ) → t < length plan.tasks → is_unmarked kept posted t ≡ is_spare plan past t
    same t there = rw (
      table_get (is_kept plan) (length plan.tasks) kept t false keeps there,
      table_get (was_posted past) (length plan.tasks) posted t false posts there,
    ) refl

-- so it is after an entry
pub out_entered : (plan : Plan) (past : List Entry) (seat : ℕ) (kind : Kind) (kept posted : List Bool) (start place : ℕ) → IsNextOut plan past start
    → IsTable (is_kept plan) (length plan.tasks) kept → IsTable (was_posted (next past seat kind)) (length plan.tasks) posted
    → IsFirstUnmarked kept posted start place → IsNextOut plan (next past seat kind) place
out_entered plan past seat kind kept posted start place out keeps posts first = next_out plan (next past seat kind) kept posted start place
    (λ t less. spare_no_more plan past seat kind t (out.before t less)) keeps posts first

-- the task that is handed out
pub spare_is_next : (plan : Plan) (past : List Entry) (place : ℕ) → IsNextOut plan past place → place < length plan.tasks → Some place ≡ spare_task plan past
spare_is_next plan past place out there = sym (first_found (is_spare plan past) 0 (length plan.tasks) place (omega arith) (omega (arith, there))
    (out.spare there) (λ n low less. out.before n less))

pub none_is_next : (plan : Plan) (past : List Entry) (place : ℕ) → IsNextOut plan past place → length plan.tasks ≤ place → None ≡ spare_task plan past
none_is_next plan past place out beyond =
    sym (none_in_range (is_spare plan past) 0 (length plan.tasks) (λ n low less. out.before n (omega (arith, less, beyond))))
