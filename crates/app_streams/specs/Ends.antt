-- The ends of a call: what each side of the outside tells before it and after it.
use Rattle.std.specs.Prelude.{◌≡◌, ℕ, List, Option}
use Rattle.env_io.specs.Bytes.{Rose}

-- the bytes that one side of the outside tells and its count of failures, before a call and after it
pub record Ends : Type 0 where
  pub before : Option (List ℕ)
  pub after : Option (List ℕ)
  pub faults_before : ℕ
  pub faults_after : ℕ

abbrev pub ends : Option (List ℕ) → Option (List ℕ) → ℕ → ℕ → Ends
ends before after faults_before faults_after = record { before = before; after = after; faults_before = faults_before; faults_after = faults_after }

-- the side failed in the call
abbrev pub Failed : Ends → Type 0
Failed side = Rose side.faults_before side.faults_after

-- the side did not fail once in the call
abbrev pub IsSteady : Ends → Type 0
IsSteady side = side.faults_after ≡ side.faults_before
