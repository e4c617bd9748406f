-- What the books tell of a plan and a past.
use Rattle.std.specs.Prelude.{◌≡◌, ℕ, ◌+◌, ◌<◌, ◌≤◌, Bool, true, false, not, ◌&&◌, List, length, fold, get_or, slice_set, Option, Some, None, is_none, is_some}
use Rattle.std.specs.Option.{option_map}
use Rattle.task_base.specs.Plan.{Plan, opened}
use Rattle.task_base.specs.declared.entry.Entry.{Entry}
use Rattle.task_base.specs.declared.entry.Kind.{Kind}
use Rattle.task_base.specs.declared.entry.Kind.TheVariants as kinds
use Rattle.task_base.specs.declared.limits.TheConstants.{MOST_TASKS}
use Rattle.task_base.specs.declared.step.Step.{Step}
use Rattle.task_base.specs.declared.step.Step.TheVariants as steps
use Rattle.task_model.specs.Capacity.{open_scope}
use Rattle.task_model.specs.Jobs.{is_cancelled, job_post_of}
use Rattle.task_model.specs.Phase.{phase_of}
use Rattle.task_model.specs.Seats.{Holding, Running, holding, running}
use Rattle.hist_model.specs.Open.{is_kept, was_posted}
use Rattle.sequence_manager.specs.Queues.{IsTable}
use Rattle.live_core.specs.Calls.{is_spare}
use Rattle.live_core.specs.declared.books.Books.{Books}
use Rattle.live_core.specs.declared.books.Item.{Item}
use Rattle.live_core.specs.declared.books.JobMark.{JobMark}
use Rattle.live_core.specs.declared.books.Seat.{Seat}
use Rattle.live_core.specs.declared.books.TheConstants.{MOST_ENTRIES}
use Rattle.live_core.specs.declared.books.Work.{Work}

-- ---- what they tell

-- a task that runs, and an item that is held, as the books keep them
abbrev pub work_of : Running → Work
work_of w = record { task = w.task; home = w.home; found = w.found; is_main = w.is_main }

abbrev pub item_of : Holding → Item
item_of h = record { job = h.job; id = h.id; item = h.item }

-- what the seat does
abbrev pub at_seat : List Entry → ℕ → Seat
at_seat past seat = record { runs = option_map work_of (running past seat); holds = option_map item_of (holding past seat) }

-- the seat runs no task and holds no item
abbrev pub is_idle : Seat → Bool
is_idle seat = is_none seat.runs && is_none seat.holds

-- what was done with the job
abbrev pub mark_of : List Entry → ℕ → JobMark
mark_of past job = record { posted = is_some (job_post_of past job); cancelled = is_cancelled past job }

-- this is the first task that may be handed out, or their number where none may
pub record IsNextOut (plan : Plan) (past : List Entry) (place : ℕ) : Type 0 where
  pub within : place ≤ length plan.tasks
  pub before : (task : ℕ) → task < place → is_spare plan past task ≡ false
  pub spare : place < length plan.tasks → is_spare plan past place ≡ true

-- the books are those of the plan and the past
pub record StandFor (plan : Plan) (past : List Entry) (books : Books) : Type 0 where
  pub plan_is : plan ≡ opened books.script
  pub seats : IsTable (at_seat past) (plan.workers + 1) books.seats.items
  pub scopes : IsTable (λ task. is_some (open_scope past task)) (length plan.tasks) books.scopes.items
  pub no_other_scopes : (task : ℕ) → length plan.tasks ≤ task → open_scope past task ≡ None
  pub jobs : IsTable (mark_of past) (length plan.jobs) books.jobs.items
  pub phase : books.phase ≡ phase_of past
  pub entries : books.entries ≡ length past
  pub few : length past ≤ MOST_ENTRIES
  pub few_tasks : length plan.tasks ≤ MOST_TASKS
  pub kept : IsTable (is_kept plan) (length plan.tasks) books.kept.items
  pub posted : IsTable (was_posted past) (length plan.tasks) books.posted.items
  pub out : IsNextOut plan past books.next

-- ---- what an entry does to them

-- the task whose scope the entry opens or closes is one of so many
abbrev pub NamesScope : ℕ → Kind → Type 0
NamesScope count (kinds.Enter task scope) = task < count
NamesScope count (kinds.Leave task) = task < count
NamesScope count kind = Unit {0}

-- the job that the entry posts or cancels is one of so many
abbrev pub NamesJob : ℕ → Kind → Type 0
NamesJob count (kinds.JobPost job ok) = job < count
NamesJob count (kinds.JobCancel job) = job < count
NamesJob count kind = Unit {0}

-- the task that the entry posts is one of so many
abbrev pub NamesTask : ℕ → Kind → Type 0
NamesTask count (kinds.Post task runner delay ok) = task < count
NamesTask count (kinds.Main task queue delay ok) = task < count
NamesTask count kind = Unit {0}

-- the entry may be put into the books: there is room for it, and what it names is declared
pub record CanEnter (plan : Plan) (past : List Entry) (books : Books) (seat : ℕ) (kind : Kind) : Type 0 where
  pub stand : StandFor plan past books
  pub known : seat ≤ plan.workers
  pub roomy : length past < MOST_ENTRIES
  pub scope : NamesScope (length plan.tasks) kind
  pub job : NamesJob (length plan.jobs) kind
  pub task : NamesTask (length plan.tasks) kind

-- what a seat does after an entry of its own
abbrev pub runs_after : Option Work → Kind → Option Work
runs_after now (kinds.Take task runner found) = Some (record { task = task; home = runner; found = found; is_main = false })
runs_after now (kinds.MainTake task queue found) = Some (record { task = task; home = queue; found = found; is_main = true })
runs_after now (kinds.End task left) = None
runs_after now (kinds.MainEnd task left) = None
runs_after now kind = now

abbrev pub holds_after : Option Item → Kind → Option Item
holds_after now (kinds.JobTake job id item) = Some (record { job = job; id = id; item = item })
holds_after now (kinds.JobStep job id item value goes_on) = option_map (λ claimed. record { job = job; id = id; item = claimed }) goes_on
holds_after now kind = now

-- the scopes after an entry
abbrev pub scopes_after : List Bool → Kind → List Bool
scopes_after scopes (kinds.Enter task scope) = slice_set scopes task true
scopes_after scopes (kinds.Leave task) = slice_set scopes task false
scopes_after scopes kind = scopes

-- a seat that does nothing
abbrev pub idle : Seat
idle = record { runs = None; holds = None }

-- a job that was not posted
abbrev pub fresh_mark : JobMark
fresh_mark = record { posted = false; cancelled = false }

abbrev pub mark_at : List JobMark → ℕ → JobMark
mark_at jobs job = get_or jobs job fresh_mark

-- the marks of the jobs after an entry
abbrev pub jobs_after : List JobMark → Kind → List JobMark
jobs_after jobs (kinds.JobPost job ok) = slice_set jobs job (record (mark_at jobs job) { posted = true })
jobs_after jobs (kinds.JobCancel job) = slice_set jobs job (record (mark_at jobs job) { cancelled = true })
jobs_after jobs kind = jobs

-- the posted tasks after an entry
abbrev pub posted_after : List Bool → Kind → List Bool
posted_after posted (kinds.Post task runner delay ok) = slice_set posted task true
posted_after posted (kinds.Main task queue delay ok) = slice_set posted task true
posted_after posted kind = posted

-- the place has no mark in either list
abbrev pub is_unmarked : List Bool → List Bool → ℕ → Bool
is_unmarked kept posted place = not (get_or kept place false) && not (get_or posted place false)

-- the first place without a mark, from this one on, or the number of places
pub record IsFirstUnmarked (kept posted : List Bool) (start place : ℕ) : Type 0 where
  pub low : start ≤ place
  pub high : place ≤ length kept
  pub marked : (n : ℕ) → start ≤ n → n < place → is_unmarked kept posted n ≡ false
  pub unmarked : place < length kept → is_unmarked kept posted place ≡ true

-- ---- the tasks that steps post

-- the list with a mark at this place, if there is that place
abbrev pub mark_step : List Bool → Step → List Bool
mark_step kept (steps.Post task runner delay) = slice_set kept task true
mark_step kept (steps.Main task queue delay) = slice_set kept task true
mark_step kept step = kept

-- the list with a mark at each task that one of the steps posts
abbrev pub marked : List Step → List Bool → List Bool
marked made kept = fold mark_step kept made

-- and so for the steps of each task
abbrev pub marked_by : List (List Step) → List Bool → List Bool
marked_by tasks kept = fold (λ so_far made. marked made so_far) kept tasks
