-- What the answer of a writer says.
-- Cited by `app_modes`, `env_app`.
use Rattle.std.proofs.Common.{◌≡◌, ℕ, List, length, take, Option, inl, inr, arith}
use Rattle.std.specs.Prelude.{◌⊎◌, alloc_error, IfErr, OnOk, OnErr, Result, Ok, Err}
use Rattle.std.proofs.lemmas.List.{take_all}
use Rattle.task_base.specs.declared.fault.Fault.{Fault}
use Rattle.task_base.specs.declared.fault.Fault.TheVariants.{WriteFault, NoMemory}
use Rattle.env_io.specs.Bytes.{Gains}
use Rattle.app_streams.specs.Ends.{Ends, Failed}
use Rattle.app_streams.specs.Written.{WroteAll, WroteFront}

-- a whole text is a front of it
pub wrote_front : {E : Type 0} (result : Result (Unit {0}) E) (before after : Option (List ℕ)) (text : List ℕ) → OnOk result (Gains before text after)
    → OnErr result ((n : ℕ) × Gains before (take n text) after) → WroteFront before after text
wrote_front (Ok done) before after text whole part = (length text, rw (take_all (length text) text (omega arith)) whole)
wrote_front (Err e) before after text whole part = part

-- what was put was put whole, or else this holds
pub put_or : {E P R : Type 0} (result : Result (Unit {0}) E) → OnOk result P → OnErr result R → R ⊎ P
put_or (Ok done) whole failed = inr whole
put_or (Err e) whole failed = inl failed

-- what a writer says of a text: how far it was written, and why no further
pub record IsPut (sink : Ends) (text : List ℕ) (result : Result (Unit {0}) Fault) : Type 0 where
  pub all : OnOk result (WroteAll sink.before sink.after text)
  pub cut : result ≡ Err WriteFault → WroteFront sink.before sink.after text
  pub failed : result ≡ Err WriteFault → Failed sink
  pub faults : IfErr result (λ fault. (fault ≡ WriteFault) ⊎ (fault ≡ NoMemory alloc_error))

-- of a writer that takes no memory
pub put_text : (sink : Ends) (text : List ℕ) (result : Result (Unit {0}) Fault) → OnOk result (WroteAll sink.before sink.after text)
    → (result ≡ Err WriteFault → WroteFront sink.before sink.after text) → (result ≡ Err WriteFault → Failed sink) → IfErr result (λ fault. fault ≡ WriteFault)
    → IsPut sink text result
put_text sink text (Ok done) all cut failed faults = record { all = all; cut = cut; failed = failed; faults = tt }
put_text sink text (Err fault) all cut failed faults = record { all = all; cut = cut; failed = failed; faults = inl faults }
