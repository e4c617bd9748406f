-- What the failure that ended a command says of its status, and of its note.
-- Cited by `tell`, `run_words`.
use Rattle.std.proofs.Common.{◌≡◌, ℕ, false, inl, inr, ◌++◌, codes, Option, refl}
use Rattle.std.specs.Prelude.{Err}
use Rattle.task_base.specs.declared.fault.Fault.TheVariants.{NotLegal, BadScript}
use Rattle.command_line.specs.declared.words.Command.{Command}
use Rattle.app_modes.specs.declared.failure.Failure.{Failure}
use Rattle.app_modes.specs.declared.failure.Failure.TheVariants.{Common, Linted, NoOrder, GaveUp, BadEvents, BadPlan, NotTraced, BadReplies, BadNest}
use Rattle.app_modes.specs.Failures.{is_verdict, failure_note, failure_status, note_line}
use Rattle.app_streams.specs.Ends.{Ends}
use Rattle.app_modes.specs.Outcome.{EndsIn}
use Rattle.env_app.specs.Statuses.{IsEnd, IsFailureOf, IsOfBytes, IsVerdictOf}

-- the note of a failure that is no verdict has its line feed
pub note_line-other : (failure : Failure) → is_verdict failure ≡ false → failure_note failure ++ codes "\n" ≡ note_line failure
note_line-other (Common (NotLegal line)) other = absurd cc
note_line-other Linted other = absurd cc
note_line-other NoOrder other = absurd cc
note_line-other GaveUp other = absurd cc
note_line-other failure other = refl

-- a verdict is one of `check`, `explain`, `lint` or `arrange`
pub no_verdict : (command : Option Command) (told : ℕ → Option ℕ) (source sink : Ends) (failure : Failure) → EndsIn command told source sink (Err failure)
    → (IsVerdictOf command (failure_status failure) → ⊥) → is_verdict failure ≡ false
no_verdict command told source sink (Common (NotLegal line)) runs none = absurd (none (inl (refl, inl runs.0)))
no_verdict command told source sink Linted runs none = absurd (none (inl (refl, inr runs.0)))
no_verdict command told source sink NoOrder runs none = absurd (none (inr (inl refl, runs.0)))
no_verdict command told source sink GaveUp runs none = absurd (none (inr (inr refl, runs.0)))
no_verdict command told source sink failure runs none = refl

-- the failure of a command is the end that its note tells of
pub is_end : (command : Option Command) (told : ℕ → Option ℕ) (source sink : Ends) (failure : Failure) (status : ℕ)
    → EndsIn command told source sink (Err failure)
    → status ≡ failure_status failure → IsEnd command source status failure
is_end command told source sink failure status runs is = let of = is_of failure runs in record { status_is = is; kind = of.0; of_bytes = of.1 }
  where
    is_of : (failure : Failure) → EndsIn command told source sink (Err failure) → IsFailureOf command failure × IsOfBytes command source failure
    is_of (Common (NotLegal line)) runs = (runs.0, tt)
    is_of (Common (BadScript line reason)) runs = (runs.1, runs.2)
    is_of Linted runs = (runs.0, tt)
    is_of NoOrder runs = (runs.0, tt)
    is_of GaveUp runs = (runs.0, tt)
    is_of (BadEvents bad) runs = (runs.0, runs.3)
    is_of (BadPlan bad) runs = runs
    is_of (NotTraced line) runs = (runs.0, runs.3)
    is_of (BadReplies line reason) runs = runs
    is_of (BadNest line reason) runs = runs
    is_of failure runs = (tt, tt)
