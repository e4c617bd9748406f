-- A call that has moved the machines: its entry may be put into the books, and the core stands for the longer past.
-- Cited by `LiveCore::call`.
use Rattle.std.proofs.Common.{◌≤◌, List, None, Some, refl, arith}
use Rattle.std.specs.Prelude.{◌&&◌, nat_le, nat_lt}
use Rattle.std.proofs.lemmas.Bool.{and_parts, le-leb, leb-true}
use Rattle.task_base.specs.Plan.{Plan}
use Rattle.task_base.specs.Entries.{entry_by, next}
use Rattle.task_base.specs.declared.entry.Entry.{Entry}
use Rattle.task_base.specs.declared.entry.Kind.{Kind}
use Rattle.task_base.specs.declared.limits.TheConstants.{MOST_MICROSECONDS}
use Rattle.hist_model.proofs.Laws.Legal.{legal_next}
use Rattle.hist_model.specs.Open.{is_poster}
use Rattle.live_core.proofs.Asks.{below, roomy}
use Rattle.live_core.specs.Books.{CanEnter, StandFor}
use Rattle.live_core.specs.Calls.{is_posting, seat_of}
use Rattle.live_core.specs.Making.{CanMake, HasMoved}
use Rattle.live_core.specs.StandsFor.{StandsFor}
use Rattle.live_core.specs.declared.books.Books.{Books}
use Rattle.live_core.specs.declared.call.Call.{Call}
use Rattle.live_core.specs.declared.call.Call.TheVariants as calls
use Rattle.live_core.specs.declared.live.LiveCore.{LiveCore}

-- the seat of a call that may be made is one of the plan's
known_seat : (plan : Plan) (past : List Entry) (live : LiveCore) (call : Call) → CanMake plan past call live → seat_of call ≤ plan.workers
known_seat plan past live (calls.Post seat (Some task) runner delay) can = leb-true seat plan.workers (and_parts _ _ can.may.fit).0
known_seat plan past live (calls.Post seat None runner delay) can =
    let parts = and_parts (is_posting plan past seat && nat_lt runner _) (nat_le delay MOST_MICROSECONDS) can.may.fit in
    leb-true seat plan.workers (and_parts (nat_le seat plan.workers) (is_poster plan past seat) (and_parts (is_posting plan past seat) _ parts.0).0).0
known_seat plan past live (calls.Main seat (Some task) queue delay) can = leb-true seat plan.workers (and_parts _ _ can.may.fit).0
known_seat plan past live (calls.Main seat None queue delay) can =
    let parts = and_parts (is_posting plan past seat && nat_lt queue _) (nat_le delay MOST_MICROSECONDS) can.may.fit in
    leb-true seat plan.workers (and_parts (nat_le seat plan.workers) (is_poster plan past seat) (and_parts (is_posting plan past seat) _ parts.0).0).0
known_seat plan past live (calls.Take seat) can = omega (arith, below can)
known_seat plan past live (calls.End seat) can = leb-true seat plan.workers (and_parts _ _ can.may.fit).0
known_seat plan past live (calls.Enter seat scope) can = leb-true seat plan.workers (and_parts _ _ can.may.fit).0
known_seat plan past live (calls.Leave seat) can = leb-true seat plan.workers (and_parts _ _ can.may.fit).0
known_seat plan past live (calls.JobStep seat) can = leb-true seat plan.workers (and_parts _ _ can.may.fit).0
known_seat plan past live call can = omega arith

-- its entry may be put into the books
pub can_enter : {plan : Plan} {past : List Entry} {call : Call} {before after : LiveCore} {kind : Kind} → CanMake plan past call before
    → HasMoved plan past call before after kind → CanEnter plan past after.books (seat_of call) kind
can_enter {plan = plan} {past = past} {call = call} {before = before} can moved = record {
  stand = rw moved.books can.stands.books;
  known = known_seat plan past before call can;
  roomy = roomy can;
  scope = moved.scope;
  job = moved.job;
  task = moved.task;
}

-- and then the core stands for the past with it
pub stands_next : {plan : Plan} {past : List Entry} {call : Call} {before after : LiveCore} {kind : Kind} {books : Books} → CanMake plan past call before
    → HasMoved plan past call before after kind → StandFor plan (next past (seat_of call) kind) books
    → StandsFor plan (next past (seat_of call) kind) (record after { books = books })
stands_next {plan = plan} {past = past} {call = call} {before = before} {kind = kind} can moved books = record {
  opened = can.stands.opened;
  legal = legal_next plan past (entry_by (seat_of call) kind) can.stands.legal
      (rw (le-leb (seat_of call) plan.workers (known_seat plan past before call can), moved.allowed) refl);
  pool = moved.pool;
  main = moved.main;
  books = books;
  cells = moved.cells;
}
