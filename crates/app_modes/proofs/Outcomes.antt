-- What the answers of the parts of a command say together.
-- Cited by `arrange_open`, `judge`, `judge_open`, `execute`, `explain`, `explain_open`, `write_generated`, `run_replies`, `run_script`,
-- `simulate_script`.
use Rattle.std.proofs.Common.{◌≡◌, ℕ, List, Option, Some, refl, sym, ap, inl, inr}
use Rattle.std.specs.Prelude.{Result, Ok, Err}
use Rattle.task_base.specs.declared.fault.Fault.{Fault}
use Rattle.task_base.specs.declared.fault.Fault.TheVariants.{NotLegal, WriteFault, NoMemory}
use Rattle.command_line.specs.declared.words.Command.{Command}
use Rattle.command_line.specs.CommandLine.{TakesInput, WritesVerdict}
use Rattle.app_modes.specs.declared.failure.Failure.{Failure}
use Rattle.app_modes.specs.Judged.{verdict_status}
use Rattle.app_streams.specs.Ends.{Ends}
use Rattle.app_streams.specs.Taken.{IsReadToEnd, TookAll}
use Rattle.app_streams.proofs.Writers.{IsPut}
use Rattle.app_modes.specs.Outcome.{Does, EndsIn, HasSaid, IsCutOff, IsWritten, RunsTo, in_common}

-- ---- the ends of a command

-- where the text that the command writes was not written to its end, this ends it
pub ends_cut : (command : Command) (told : ℕ → Option ℕ) (source sink : Ends) (status : ℕ) (text : List ℕ) (fault : Fault)
    → (TakesInput (Some command) → IsReadToEnd source)
    → ((Holds : ℕ → List ℕ → Type 0) → Holds status text → Does (Some command) told source Holds) → IsPut sink text (Err fault)
    → RunsTo (Some command) told source sink (Err fault)
ends_cut command told source sink status text WriteFault end does put = (refl, end, put.failed refl, does _ (put.cut refl))
ends_cut command told source sink status text (NoMemory error) end does put = tt
ends_cut command told source sink status text fault end does put = elim put.faults [ inl h ↦ absurd cc | inr h ↦ absurd cc ]

-- and a text that goes with status 0 ends it so, as far as it was written
pub ends_written : (command : Command) (told : ℕ → Option ℕ) (source sink : Ends) (text : List ℕ) (result : Result (Unit {0}) Fault)
    → (TakesInput (Some command) → IsReadToEnd source)
    → ((Holds : ℕ → List ℕ → Type 0) → Holds 0 text → Does (Some command) told source Holds) → IsPut sink text result
    → RunsTo (Some command) told source sink result
ends_written command told source sink text (Ok done) end does put = (refl, end, does _ (refl, put.all))
ends_written command told source sink text (Err fault) end does put = ends_cut command told source sink 0 text fault end does put

-- how a command ends that judges a log, where a text was written of what is found at the line
pub said_ends : (command : Command) (told : ℕ → Option ℕ) (source sink : Ends) (bytes text : List ℕ) (line : Option ℕ) (result : Result (Unit {0}) Fault)
    → WritesVerdict (Some command) → TookAll source bytes
    → ((Holds : ℕ → List ℕ → Type 0) → Holds (verdict_status line) text → Does (Some command) told source Holds)
    → HasSaid line text sink result → RunsTo (Some command) told source sink result
said_ends command told source sink bytes text line (Ok done) writes took does said =
    (refl, λ takes. took.end, does (IsWritten sink 0) (sym (ap verdict_status said.0), said.1))
said_ends command told source sink bytes text line (Err (NotLegal at)) writes took does said =
    (writes, took.end, does (IsWritten sink 1) (sym (ap verdict_status said.0), said.1))
said_ends command told source sink bytes text line (Err WriteFault) writes took does said =
    (refl, λ takes. took.end, said.0, does (IsCutOff sink) said.1)
said_ends command told source sink bytes text line (Err fault) writes took does said = absurd said

-- ---- what the words ask for

-- how a command ends that the words ask for, and does not read the clock
pub ends_asked : (asked : Option Command) (command : Command) (told : ℕ → Option ℕ) (source sink : Ends) (end : Result (Unit {0}) Failure)
    → asked ≡ Some command → ((other : ℕ → Option ℕ) → EndsIn (Some command) other source sink end) → EndsIn asked told source sink end
ends_asked asked command told source sink end is ends = rw is (ends told)

-- and one where any fault may be the end
pub ends_in_common : (asked : Option Command) (command : Command) (told : ℕ → Option ℕ) (source sink : Ends) (end : Result (Unit {0}) Fault)
    (result : Result (Unit {0}) Failure) → asked ≡ Some command → result ≡ in_common end
    → ((other : ℕ → Option ℕ) → RunsTo (Some command) other source sink end) → EndsIn asked told source sink result
ends_in_common asked command told source sink (Ok done) result is same runs = rw (is, same) (runs told)
ends_in_common asked command told source sink (Err fault) result is same runs = rw (is, same) (runs told)
