-- Entries that leave what their seat runs and holds.
-- Cited by `tick`, `Done`, `Joins`, `Pump`, `Tasks`.
use Rattle.std.proofs.Common.{◌≡◌, ℕ, Bool, true, false, cond, eqb, List, [], ◌∷◌, ◌++◌, refl, sym, ap, ◌∙◌, append-nil, append_assoc, Option}
use Rattle.std.specs.List.{AllByRecursion}
use Rattle.task_base.specs.declared.entry.Entry.{Entry}
use Rattle.task_base.specs.declared.entry.Kind.{Kind}
use Rattle.task_model.specs.Seats.{Holding, Running, holding, holding_after, is_free, running, running_after}
use Rattle.task_model.proofs.Growth.{holding_push, running_push}

-- an entry of this kind leaves what its seat runs
abbrev pub KeepsRunning : Kind → Type 0
KeepsRunning kind = (now : Option Running) → running_after now kind ≡ now

-- and what it holds
abbrev pub KeepsHolding : Kind → Type 0
KeepsHolding kind = (now : Option Holding) → holding_after now kind ≡ now

if_same : {A : Type 0} (b : Bool) (x y : A) → x ≡ y → cond b x y ≡ y
if_same true x y same = same
if_same false x y same = refl

-- behind such entries each seat runs what it ran
pub running_stays : (own made : List Entry) (s : ℕ) → AllByRecursion (λ e. KeepsRunning e.kind) made → running (own ++ made) s ≡ running own s
running_stays own [] s keep = ap (λ all. running all s) (append-nil own)
running_stays own (e ∷ made) s keep = ap (λ all. running all s) (sym (append_assoc own (e ∷ []) made)) ∙ running_stays (own ++ e ∷ []) made s keep.1
    ∙ running_push own e s ∙ if_same (eqb e.seat s) (running_after (running own s) e.kind) (running own s) (keep.0 (running own s))

-- and holds what it held
pub holding_stays : (own made : List Entry) (s : ℕ) → AllByRecursion (λ e. KeepsHolding e.kind) made → holding (own ++ made) s ≡ holding own s
holding_stays own [] s keep = ap (λ all. holding all s) (append-nil own)
holding_stays own (e ∷ made) s keep = ap (λ all. holding all s) (sym (append_assoc own (e ∷ []) made)) ∙ holding_stays (own ++ e ∷ []) made s keep.1
    ∙ holding_push own e s ∙ if_same (eqb e.seat s) (holding_after (holding own s) e.kind) (holding own s) (keep.0 (holding own s))

-- so it is free where it was
pub free_stays : (own made : List Entry) (s : ℕ) → AllByRecursion (λ e. KeepsRunning e.kind) made → AllByRecursion (λ e. KeepsHolding e.kind) made
    → is_free (own ++ made) s ≡ is_free own s
free_stays own made s runs holds = rw (running_stays own made s runs, holding_stays own made s holds) refl
