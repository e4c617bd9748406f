-- What a seat does is told by its own entries.
-- Cited by `Laws/Due`, `Laws/Entries/Driver`, `Laws/JobEntries`, `Laws/OneThing`, `Laws/OpenPlans`, `Laws/Progress/Driver`,
-- `Laws/Progress/Jobs`, `Laws/Progress/Pump`, `Laws/Wants`, `seats.rt`, `env_core`, `env_crew`, `env_explain`, `env_step`, `env_threads`,
-- `live_core`, `log_count`, `next_entry`, `run_summary`, `situation`, `turn_table`, `worked_calls`.
use Rattle.std.proofs.Common.{◌≡◌, ℕ, Bool, true, false, cond, eqb, List, [], ◌∷◌, ◌++◌, append-nil, refl, sym, ap, ◌∙◌, None}
use Rattle.std.specs.Prelude.{filter, fold}
use Rattle.std.proofs.lemmas.List.Elements.{filter-append}
use Rattle.task_base.specs.declared.entry.Entry.{Entry}
use Rattle.task_model.specs.Seats.{running, running_after, holding, holding_after, acts_done, acts_after}
use Rattle.hist_model.specs.Views.{own_entries}

-- a fold that skips what a test refuses is a fold over what it keeps
fold-filter : {A B : Type 0} (step : B → A → B) (test : A → Bool) (start : B) (xs : List A)
    → fold (λ b x. cond (test x) (step b x) b) start (filter test xs) ≡ fold (λ b x. cond (test x) (step b x) b) start xs
fold-filter step test start [] = refl
fold-filter step test start (x ∷ xs) = at (test x) refl (λ b. fold-filter step test b xs)
  where
    at : (b : Bool) → test x ≡ b → ((c : _) → fold (λ a y. cond (test y) (step a y) a) c (filter test xs) ≡ fold (λ a y. cond (test y) (step a y) a) c xs)
        → fold (λ a y. cond (test y) (step a y) a) start (cond b (x ∷ filter test xs) (filter test xs))
        ≡ fold (λ a y. cond (test y) (step a y) a) (cond (test x) (step start x) start) xs
    at true is rest = rest (cond (test x) (step start x) start)
    at false is rest = rest start ∙ ap (λ c. fold (λ a y. cond (test y) (step a y) a) (cond c (step start x) start) xs) (sym is)

pub running_own : (past : List Entry) (seat : ℕ) → running (own_entries seat past) seat ≡ running past seat
unfolding running
running_own past seat = fold-filter (λ now e. running_after now e.kind) (λ e. eqb e.seat seat) None past

pub holding_own : (past : List Entry) (seat : ℕ) → holding (own_entries seat past) seat ≡ holding past seat
unfolding holding
holding_own past seat = fold-filter (λ now e. holding_after now e.kind) (λ e. eqb e.seat seat) None past

pub acts_done_own : (past : List Entry) (seat : ℕ) → acts_done (own_entries seat past) seat ≡ acts_done past seat
unfolding acts_done
acts_done_own past seat = fold-filter (λ n e. acts_after n e.kind) (λ e. eqb e.seat seat) 0 past

-- one more entry of the history is one more of its seat, and of no other
pub own_entries_push : (past : List Entry) (e : Entry) (seat : ℕ)
    → own_entries seat (past ++ e ∷ []) ≡ cond (eqb e.seat seat) (own_entries seat past ++ e ∷ []) (own_entries seat past)
own_entries_push past e seat = filter-append (λ x. eqb x.seat seat) past (e ∷ []) ∙ at (eqb e.seat seat)
  where
    at : (b : Bool) → own_entries seat past ++ cond b (e ∷ []) [] ≡ cond b (own_entries seat past ++ e ∷ []) (own_entries seat past)
    at true = refl
    at false = append-nil (own_entries seat past)
