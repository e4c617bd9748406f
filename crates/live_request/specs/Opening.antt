-- What comes of a plan.
use Rattle.std.specs.Prelude.{◌≡◌, ◌≢◌, ℕ, ◌+◌, ◌<◌, List, [], length, replicate, Some, Result, Ok, Err}
use Rattle.task_base.specs.Plan.{Plan, opened}
use Rattle.task_base.specs.declared.limits.TheConstants.{MOST_BYTES}
use Rattle.script_model.specs.Grammar.{Reads, first_fault}
use Rattle.live_core.specs.Opening.{guest_runner}
use Rattle.live_roster.specs.declared.note.Note.TheVariants as notes_of
use Rattle.plan_text.specs.ActionLine.{action_line}
use Rattle.live_request.specs.StandsFor.{StandsFor}
use Rattle.live_request.specs.declared.codes.TheConstants as codes
use Rattle.live_request.specs.declared.live.Live.{Live}
use Rattle.live_request.specs.declared.opened.Opened.{Opened}
use Rattle.live_request.specs.declared.opened.Unopened.{Unopened}
use Rattle.live_request.specs.declared.opened.Unopened.TheVariants as unopened

-- the bytes are a script without actions, and the environment stands for its open plan, and an empty past
pub record IsOpenedFrom (bytes : List ℕ) (live : Live) : Type 0 where
  pub script : Plan
  pub reads : Reads bytes script
  pub no_actions : script.actions ≡ []
  pub stands : StandsFor (opened script) [] live
  pub awake : live.roster.notes.items ≡ replicate (script.workers + 1) notes_of.Awake

-- the bytes are a script with actions, the first one in this line
pub record AreActing (bytes : List ℕ) (line : ℕ) : Type 0 where
  pub script : Plan
  pub reads : Reads bytes script
  pub acts : script.actions ≢ []
  pub at : line ≡ action_line bytes

-- the bytes are a script, whose runner of this number is bound to the guest's seat
pub record HaveGuestRunner (bytes : List ℕ) (runner : ℕ) : Type 0 where
  pub script : Plan
  pub reads : Reads bytes script
  pub bound : guest_runner script ≡ Some runner

-- what may come of the bytes; want of memory may always be
abbrev pub ComesOf : List ℕ → Result Live Unopened → Type 0
ComesOf bytes (Ok live) = IsOpenedFrom bytes live
ComesOf bytes (Err unopened.OutOfMemory) = Unit {0}
ComesOf bytes (Err unopened.TooLong) = MOST_BYTES < length bytes
ComesOf bytes (Err (unopened.NoPlan line reason)) = first_fault bytes ≡ Some (line, reason)
ComesOf bytes (Err (unopened.HasActions line)) = AreActing bytes line
ComesOf bytes (Err (unopened.GuestRunner runner)) = HaveGuestRunner bytes runner

-- what came of a plan, in the numbers of C
abbrev pub opened_of : Result Live Unopened → Opened
opened_of (Ok live) = record { reason = codes.OPENED; line = 0; number = 0 }
opened_of (Err unopened.OutOfMemory) = record { reason = codes.OUT_OF_MEMORY; line = 0; number = 0 }
opened_of (Err unopened.TooLong) = record { reason = codes.NO_PLAN; line = 0; number = 0 }
opened_of (Err (unopened.NoPlan line reason)) = record { reason = codes.NO_PLAN; line = line; number = reason }
opened_of (Err (unopened.HasActions line)) = record { reason = codes.HAS_ACTIONS; line = line; number = 0 }
opened_of (Err (unopened.GuestRunner runner)) = record { reason = codes.GUEST_RUNNER; line = 0; number = runner }
