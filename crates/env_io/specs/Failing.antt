-- Calls of which some are to fail, by their numbers from 1.
use Rattle.std.specs.Prelude.{ℕ, List, Bool, ◌==◌, if◌then◌else◌}
use Rattle.std.specs.List.{list_any}
use Rattle.env_io.specs.Bytes.{raised}

-- the numbers of the calls that are to fail, how many calls there were, and how many of them failed
pub record FailurePlan : Type 0 where
  pub fails : List ℕ
  pub calls : ℕ
  pub faults : ℕ

-- no call yet
abbrev pub plan_of : List ℕ → FailurePlan
plan_of fails = record { fails = fails; calls = 0; faults = 0 }

-- the next call is one that is to fail
abbrev pub fails_next : FailurePlan → Bool
fails_next plan = list_any (λ number. number == raised plan.calls) plan.fails

-- the plan after the next call
abbrev pub after_call : FailurePlan → FailurePlan
after_call plan = record plan {
  calls = raised plan.calls;
  faults = if fails_next plan then raised plan.faults else plan.faults;
}
