-- What the books tell of a seat, and what is asked of it, are the same.
-- Cited by 11 functions of `Books`.
use Rattle.std.proofs.Common.{◌≡◌, ℕ, ◌+◌, Bool, true, false, cond, List, refl, sym, ap, ◌∙◌, Option, Some, None}
use Rattle.std.specs.Prelude.{◌&&◌, is_none, is_some, not}
use Rattle.std.specs.List.{list_all}
use Rattle.std.specs.Option.{option_map}
use Rattle.std.proofs.lemmas.List.Folds.{list_all-map}
use Rattle.list_laws.proofs.Tests.{list_all_congr}
use Rattle.list_laws.specs.Lists.{holds_of}
use Rattle.task_base.specs.Plan.{Plan}
use Rattle.task_base.specs.declared.entry.Entry.{Entry}
use Rattle.task_model.specs.Seats.{Running, all_seats, holding, is_free, is_quiet, running}
use Rattle.sequence_manager.proofs.Tables.{table_is}
use Rattle.sequence_manager.specs.Queues.{IsTable}
use Rattle.live_core.specs.Books.{at_seat, idle, is_idle, item_of, work_of}
use Rattle.live_core.specs.declared.books.Seat.{Seat}
use Rattle.live_core.specs.declared.books.Work.{Work}

-- ---- values that may be there

-- what is not found is not there
pub not_there : {A : Type 0} (there : Bool) (x : A) → cond there (Some x) None ≡ None → there ≡ false
not_there true x none = absurd cc
not_there false x none = refl

pub not_some : {A : Type 0} (o : Option A) → not (is_some o) ≡ is_none o
not_some None = refl
not_some (Some x) = refl

-- what is made of a value is there where the value is
pub mapped_is_some : {A B : Type 0} (f : A → B) (o : Option A) → is_some (option_map f o) ≡ is_some o
mapped_is_some f None = refl
mapped_is_some f (Some x) = refl

mapped_is_none : {A B : Type 0} (f : A → B) (o : Option A) → is_none (option_map f o) ≡ is_none o
mapped_is_none f None = refl
mapped_is_none f (Some x) = refl

pub is_some_there : {A B : Type 0} (f : A → B) (there : Bool) (o : Option A) → is_some (cond there (option_map f o) None) ≡ (there && is_some o)
is_some_there f true o = mapped_is_some f o
is_some_there f false o = refl

-- ---- seats

-- what the books tell of a seat that is free
idle_as_free : (past : List Entry) (seat : ℕ) → is_idle (at_seat past seat) ≡ is_free past seat
idle_as_free past seat = rw (mapped_is_none work_of (running past seat), mapped_is_none item_of (holding past seat)) refl

-- the seat that is found is free where it does nothing
pub free_there : (past : List Entry) (seat : ℕ) (found : Seat) → at_seat past seat ≡ found → is_idle found ≡ is_free past seat
free_there past seat found same = ap is_idle (sym same) ∙ idle_as_free past seat

-- none of them does anything where all is quiet
pub all_quiet : (plan : Plan) (past : List Entry) (seats : List Seat) → IsTable (at_seat past) (plan.workers + 1) seats
    → list_all is_idle seats ≡ is_quiet plan past
unfolding is_quiet
all_quiet plan past seats table = ap (list_all is_idle) (table_is (at_seat past) (plan.workers + 1) seats idle table)
    ∙ list_all-map is_idle (at_seat past) (all_seats plan)
    ∙ list_all_congr (λ seat. is_idle (at_seat past seat)) (is_free past) (all_seats plan) (idle_as_free past)

-- the task that is found runs there
abbrev running_of : Work → Running
running_of work = record { task = work.task; home = work.home; found = work.found; is_main = work.is_main }

pub work_there : (there : Bool) (now : Option Running) (work : Work) → cond there (option_map work_of now) None ≡ Some work
    → (there ≡ true) × (now ≡ Some (running_of work))
work_there true (Some w) work found = (refl, ap (option_map running_of) found)
work_there true None work found = absurd cc
work_there false now work found = absurd cc

-- where no task is found, none passes a test
pub no_work : (test : Running → Bool) (there : Bool) (now : Option Running) → cond there (option_map work_of now) None ≡ None
    → (there && holds_of test now) ≡ false
no_work test true (Some w) none = absurd cc
no_work test true None none = refl
no_work test false now none = refl
