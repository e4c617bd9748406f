-- Whose is what a seat runs or holds behind one more entry: it ran or held it before, and the entry is another seat's, or it
-- is what the entry leaves its own seat.
-- Cited by `Seats/Runs`, `env_core`, `hist_model`.
use Rattle.std.proofs.Common.{◌≡◌, ℕ, Bool, true, false, eqb, List, [], ◌∷◌, ◌++◌, refl, sym, ◌∙◌, Some, ◌⊎◌, inl, inr}
use Rattle.std.proofs.lemmas.Bool.{eqb-true}
use Rattle.task_base.specs.declared.entry.Entry.{Entry}
use Rattle.task_model.specs.Seats.{Running, Holding, running, running_after, holding, holding_after}
use Rattle.pool_laws.proofs.Seats.Running.{running_here, running_other, holding_here, holding_other}

-- what a seat runs behind an entry
abbrev pub RunsBehind : List Entry → Entry → ℕ → Running → Type 0
RunsBehind past e s w = ((running past s ≡ Some w) × (eqb e.seat s ≡ false)) ⊎ ((s ≡ e.seat) × (running_after (running past e.seat) e.kind ≡ Some w))

pub runs_behind : (past : List Entry) (e : Entry) (s : ℕ) (w : Running) → running (past ++ e ∷ []) s ≡ Some w → RunsBehind past e s w
runs_behind past e s w h = at (eqb e.seat s) refl
  where
    at : (b : Bool) → eqb e.seat s ≡ b → RunsBehind past e s w
    at true own = inr (sym (eqb-true e.seat s own), sym (running_here past e s own) ∙ h)
    at false other = inl (sym (running_other past e s other) ∙ h, other)

-- what a seat holds behind an entry
abbrev pub HoldsBehind : List Entry → Entry → ℕ → Holding → Type 0
HoldsBehind past e s h = ((holding past s ≡ Some h) × (eqb e.seat s ≡ false)) ⊎ ((s ≡ e.seat) × (holding_after (holding past e.seat) e.kind ≡ Some h))

pub holds_behind : (past : List Entry) (e : Entry) (s : ℕ) (h : Holding) → holding (past ++ e ∷ []) s ≡ Some h → HoldsBehind past e s h
holds_behind past e s h is = at (eqb e.seat s) refl
  where
    at : (b : Bool) → eqb e.seat s ≡ b → HoldsBehind past e s h
    at true own = inr (sym (eqb-true e.seat s own), sym (holding_here past e s own) ∙ is)
    at false other = inl (sym (holding_other past e s other) ∙ is, other)
