-- Since when a seat runs what it runs.
-- Cited by `Laws/Singly`, `Laws/Starts`, `Laws/State`, `task_reply`.
use Rattle.std.proofs.Common.{◌≡◌, ℕ, ◌<◌, true, false, Bool, eqb, List, [], ◌∷◌, ◌++◌, length, refl, sym, ap, subst, ◌∙◌, Option, Some, ◌⊎◌, inl, inr, arith}
use Rattle.std.specs.Prelude.{slice_get}
use Rattle.std.proofs.lemmas.Bool.{both_ways, eq-eqb}
use Rattle.std.proofs.lemmas.Option.{none-some, same_Some}
use Rattle.task_base.specs.declared.entry.Entry.{Entry}
use Rattle.task_base.specs.declared.entry.Kind.{Kind}
use Rattle.task_base.specs.declared.entry.Kind.TheVariants as kinds
use Rattle.task_model.specs.Seats.{Running, running, running_after}
use Rattle.list_laws.proofs.Elements.{push_induction}
use Rattle.list_laws.proofs.Places.{slice_get-more, slice_get_seam, slice_get_push}
use Rattle.pool_laws.specs.Seats.{moves_running}
use Rattle.hist_model.specs.Laws.Places.{IsAt}
use Rattle.pool_laws.proofs.Seats.Whose.{RunsBehind, runs_behind}

-- the entry by which a seat takes a task of the pool, or a main task
abbrev pub taking : Bool → ℕ → ℕ → ℕ → Kind
taking false task home found = kinds.Take task home found
taking true task home found = kinds.MainTake task home found

-- the seat takes it
abbrev take_entry : ℕ → Running → Entry
take_entry seat w = record { seat = seat; kind = taking w.is_main w.task w.home w.found }

-- at a place of the past the seat took what it runs, and at no later place did it take or end anything
pub record RunningSince (past : List Entry) (seat : ℕ) (w : Running) : Type 0 where
  pub place : ℕ
  pub is : IsAt past place seat (taking w.is_main w.task w.home w.found)
  pub goes_on : (k : ℕ) (e : Entry) → place < k → slice_get past k ≡ Some e → e.seat ≡ seat → moves_running e.kind ≡ false

-- what a seat runs behind an entry of its own is what the entry takes, or what it ran before, where the entry takes and ends nothing
moved : (now : Option Running) (kind : Kind) (w : Running) → running_after now kind ≡ Some w
    → (kind ≡ taking w.is_main w.task w.home w.found) ⊎ ((now ≡ Some w) × (moves_running kind ≡ false))
moved now (kinds.Take task runner found) w is =
    inl (subst (λ x. kinds.Take task runner found ≡ taking x.is_main x.task x.home x.found) (same_Some _ w is) refl)
moved now (kinds.MainTake task queue found) w is =
    inl (subst (λ x. kinds.MainTake task queue found ≡ taking x.is_main x.task x.home x.found) (same_Some _ w is) refl)
moved now (kinds.End task left) w is = absurd (none-some w is)
moved now (kinds.MainEnd task left) w is = absurd (none-some w is)
moved now kind w is = inr (is, refl)

-- it goes on behind an entry that is another's, or takes and ends nothing
still_since : (past : List Entry) (x : Entry) (seat : ℕ) (w : Running) → RunningSince past seat w → (x.seat ≡ seat → moves_running x.kind ≡ false)
    → RunningSince (past ++ x ∷ []) seat w
still_since past x seat w before quiet = record {
  place = before.place;
  is = slice_get-more past (x ∷ []) before.place _ before.is;
  goes_on = λ k e later at own. at_each k e later own (slice_get_push past x k e at);
}
  where
    at_each : (k : ℕ) (e : Entry) → before.place < k → e.seat ≡ seat → ((k < length past) × (slice_get past k ≡ Some e)) ⊎ ((k ≡ length past) × (x ≡ e))
        → moves_running e.kind ≡ false
    at_each k e later own (inl earlier) = before.goes_on k e later earlier.1 own
    at_each k e later own (inr here) = ap (λ y. moves_running y.kind) (sym here.1) ∙ quiet (ap (λ y. y.seat) here.1 ∙ own)

-- it begins with an entry that takes it
since_here : (past : List Entry) (seat : ℕ) (w : Running) → RunningSince (past ++ take_entry seat w ∷ []) seat w
since_here past seat w = record {
  place = length past;
  is = slice_get_seam past _ [];
  goes_on = λ k e later at own. absurd (at_each k e later (slice_get_push past _ k e at));
}
  where
    at_each : (k : ℕ) (e : Entry) → length past < k
        → ((k < length past) × (slice_get past k ≡ Some e)) ⊎ ((k ≡ length past) × (take_entry seat w ≡ e)) → ⊥
    at_each k e later (inl earlier) = omega (arith, later, earlier.0)
    at_each k e later (inr here) = omega (arith, later, here.0)

nothing_since : (seat : ℕ) (w : Running) → running [] seat ≡ Some w → RunningSince [] seat w
unfolding running
nothing_since seat w is = absurd (none-some w is)

-- what a seat runs it took at a place of the past, and it took and ended nothing at a later one
pub running_since : (past : List Entry) (seat : ℕ) (w : Running) → running past seat ≡ Some w → RunningSince past seat w
running_since past seat = push_induction (λ xs. (w : Running) → running xs seat ≡ Some w → RunningSince xs seat w) (nothing_since seat) next past
  where
    next : (xs : List Entry) (x : Entry) → ((w : Running) → running xs seat ≡ Some w → RunningSince xs seat w) → (w : Running)
        → running (xs ++ x ∷ []) seat ≡ Some w → RunningSince (xs ++ x ∷ []) seat w
    next xs x before w is = by_runs_behind (runs_behind xs x seat w is)
      where
        by_runs_behind : RunsBehind xs x seat w → RunningSince (xs ++ x ∷ []) seat w
        by_runs_behind (inl other) = still_since xs x seat w (before w other.0) (λ own. absurd (both_ways (eqb x.seat seat) other.1 (eq-eqb x.seat seat own)))
        by_runs_behind (inr own) = elim (moved (running xs x.seat) x.kind w own.1) [
          | inl takes ↦ subst (λ kind. RunningSince (xs ++ record { seat = x.seat; kind = kind } ∷ []) seat w) (sym takes)
              (subst (λ s. RunningSince (xs ++ take_entry s w ∷ []) seat w) own.0 (since_here xs seat w))
          | inr same ↦ still_since xs x seat w (before w (ap (running xs) own.0 ∙ same.0)) (λ mine. same.1)
        ]
