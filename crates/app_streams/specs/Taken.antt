-- What was taken from a source, and why it gave no input or no script.
use Rattle.std.specs.Prelude.{◌≡◌, ◌<◌, ◌≤◌, ◌+◌, ℕ, List, [], length, Some, IfSome}
use Rattle.task_base.specs.declared.limits.TheConstants.{MOST_BYTES}
use Rattle.task_base.specs.declared.fault.Fault.{Fault}
use Rattle.task_base.specs.declared.fault.Fault.TheVariants.{NotLegal, BadWords, BadScript, ReadFault, WriteFault, NoMemory, TooLarge}
use Rattle.env_io.specs.Bytes.{Gives}
use Rattle.script_model.specs.Grammar.{first_fault}
use Rattle.app_streams.specs.Ends.{Ends, Failed}

-- the source was read to its end
abbrev pub IsReadToEnd : Ends → Type 0
IsReadToEnd source = IfSome source.after (λ rest. rest ≡ [])

-- this holds of the bytes that came, where the source tells them
abbrev pub OfBytes : Ends → (List ℕ → Type 0) → Type 0
OfBytes source P = (bytes : List ℕ) → source.before ≡ Some bytes → P bytes

-- the bytes are within the limit of the input
abbrev pub IsWithin : List ℕ → Type 0
IsWithin bytes = length bytes ≤ MOST_BYTES

-- more bytes were taken than the limit, and no more than a piece of 4,096 bytes above it
abbrev pub TookMore : Ends → Type 0
TookMore source = (taken : List ℕ) × Gives source.before taken source.after × (MOST_BYTES < length taken) × (length taken ≤ MOST_BYTES + 4096)

-- no more bytes were taken than the limit
abbrev pub TookWithin : Ends → Type 0
TookWithin source = (taken : List ℕ) × Gives source.before taken source.after × (length taken ≤ MOST_BYTES)

-- these bytes were taken from a source to its end, within the limit: those that it told, where it tells them
pub record TookAll (source : Ends) (bytes : List ℕ) : Type 0 where
  pub end : IsReadToEnd source
  pub within : IsWithin bytes
  pub all : OfBytes source (λ told. bytes ≡ told)

-- and this holds of those bytes
pub record OfTaken (source : Ends) (P : List ℕ → Type 0) : Type 0 where
  pub bytes : List ℕ
  pub took : TookAll source bytes
  pub holds : P bytes

-- the fault is why a source could not be read to its end
abbrev pub IsNotTaken : Ends → Fault → Type 0
IsNotTaken source ReadFault = Failed source
IsNotTaken source TooLarge = OfBytes source (λ bytes. MOST_BYTES < length bytes)
IsNotTaken source (NoMemory error) = Unit {0}
IsNotTaken source (NotLegal line) = ⊥
IsNotTaken source BadWords = ⊥
IsNotTaken source (BadScript line reason) = ⊥
IsNotTaken source WriteFault = ⊥

-- the fault is why bytes gave no script
abbrev pub IsNoScript : List ℕ → Fault → Type 0
IsNoScript bytes (BadScript line reason) = first_fault bytes ≡ Some (line, reason)
IsNoScript bytes (NoMemory error) = Unit {0}
IsNoScript bytes (NotLegal line) = ⊥
IsNoScript bytes BadWords = ⊥
IsNoScript bytes ReadFault = ⊥
IsNoScript bytes WriteFault = ⊥
IsNoScript bytes TooLarge = ⊥
