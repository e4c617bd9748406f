-- Every way ends whole: a legal history is within the bound, some entry may follow while it is not whole, and none once it is.
-- Cited by `progress.rt`, `simulation`.
use Rattle.std.proofs.Common.{◌≡◌, ℕ, zero, suc, ◌+◌, ◌≤◌, Bool, true, false, cond, leb, List, [], ◌∷◌, ◌++◌, length, refl}
use Rattle.std.proofs.Common.{sym, subst, ◌∙◌, append_assoc, append-nil, length-append, None, inl, inr, arith}
use Rattle.std.specs.Prelude.{◌⊎◌}
use Rattle.std.proofs.lemmas.Bool.{and_parts, leb-true, both_ways, true_from_ne_false}
use Rattle.std.proofs.lemmas.Option.{none-some}
use Rattle.task_base.specs.Plan.{Plan}
use Rattle.task_base.specs.declared.entry.Entry.{Entry}
use Rattle.script_model.specs.Bound.{events_bound_of}
use Rattle.script_model.specs.Laws.Sound.{IsSound}
use Rattle.task_model.specs.Seats.{running, holding, is_quiet}
use Rattle.pool_laws.proofs.Room.Capacity.{free_parts}
use Rattle.pool_laws.proofs.Seats.Running.{quiet_is_free}
use Rattle.hist_model.specs.Views.{own_entries}
use Rattle.hist_model.specs.Open.{IsClosed}
use Rattle.hist_model.specs.Script.{current, is_finished, is_whole, IsWhole}
use Rattle.hist_model.specs.Allowed.{by_script, may_come, IsAllowed}
use Rattle.hist_model.specs.Legal.{IsLegal}
use Rattle.hist_model.specs.Laws.Progress.{IsAtEnd, AlwaysAllowed, grown}
use Rattle.hist_model.proofs.Laws.Open.{closed_finished}
use Rattle.hist_model.proofs.Laws.Legal.{nothing_is_legal, legal_next}
use Rattle.hist_model.proofs.Laws.Entries.Bound.{entries_within}
use Rattle.hist_model.proofs.Laws.JobEntries.{none_is}
use Rattle.hist_model.proofs.Laws.OneThing.{wanted_by}
use Rattle.hist_model.proofs.Laws.Takes.{IsReadyWorker}
use Rattle.hist_model.proofs.Laws.Progress.Coming.{comes_by}
use Rattle.hist_model.proofs.Laws.Progress.Ways.{some_may_come}

pub ends_whole : (script : Plan) (past : List Entry) → IsSound script → IsLegal script past → IsAtEnd script past → IsWhole script past
ends_whole script past sound legal at_end = true_from_ne_false (is_whole script past) (λ not_whole.
    let s = some_may_come script past sound legal not_whole in at_end s.entry s.allowed)

-- after a whole history of a closed plan no entry is allowed
pub whole_is_at_end : (script : Plan) (past : List Entry) → IsClosed script → IsWhole script past → IsAtEnd script past
whole_is_at_end script past closed whole e allowed = by_comes (comes_by script past e.seat e.kind closed parts.1
    (λ w runs. none-some w (sym free.0 ∙ runs)) (λ h holds. none-some h (sym free.1 ∙ holds)))
  where
    done : (is_finished script past ≡ true) × (is_quiet script past ≡ true)
    done = and_parts (is_finished script past) (is_quiet script past) whole

    parts : (leb e.seat script.workers ≡ true) × (may_come script past e.seat e.kind ≡ true)
    parts = and_parts (leb e.seat script.workers) (may_come script past e.seat e.kind) allowed

    free : (running past e.seat ≡ None) × (holding past e.seat ≡ None)
    free = free_parts past e.seat (quiet_is_free script past e.seat done.1 (omega (arith, leb-true e.seat script.workers parts.0)))

    by_comes : (by_script script past e.seat e.kind ≡ true) ⊎ IsReadyWorker script past e.seat → ⊥
    by_comes (inl wanted) = let c = wanted_by script past e.seat e.kind closed wanted in
        none-some c.value (sym (none_is (current script (own_entries 0 past)) (sym (closed_finished script past closed) ∙ done.0)) ∙ c.is)
    by_comes (inr worker) = both_ways (is_finished script past) worker.goes_on done.0

-- ---- growing

-- none is allowed once the bound is reached
no_more : (script : Plan) (past : List Entry) (e : Entry) → IsSound script → IsLegal script past → IsAllowed script past e
    → events_bound_of script ≤ length past → ⊥
no_more script past e sound legal allowed full =
    omega (arith, length-append past (e ∷ []), entries_within script (past ++ e ∷ []) sound (legal_next script past e legal allowed), full)

-- a legal history of at least so many entries, with those that make it whole
abbrev CanBeWhole : Plan → List Entry → Type 0
CanBeWhole script past = (rest : List Entry) × IsLegal script (past ++ rest) × IsWhole script (past ++ rest)

whole_already : (script : Plan) (past : List Entry) → IsLegal script past → IsWhole script past → CanBeWhole script past
whole_already script past legal whole = ([], subst (IsLegal script) (sym (append-nil past)) legal, subst (IsWhole script) (sym (append-nil past)) whole)

grows_whole : (script : Plan) (n : ℕ) (past : List Entry) → IsSound script → IsLegal script past → events_bound_of script ≤ length past + n
    → CanBeWhole script past
grows_whole script zero past sound legal left = whole_already script past legal (ends_whole script past sound legal
    (λ e allowed. no_more script past e sound legal allowed (omega (arith, left))))
grows_whole script (suc n) past sound legal left = by_whole (is_whole script past) refl (λ e allowed. grows_whole script n (past ++ e ∷ []) sound
    (legal_next script past e legal allowed) (omega (arith, left, length-append past (e ∷ []))))
  where
    by_whole : (b : Bool) → is_whole script past ≡ b → ((e : Entry) → IsAllowed script past e → CanBeWhole script (past ++ e ∷ [])) → CanBeWhole script past
    by_whole true whole next = whole_already script past legal whole
    by_whole false not_whole next =
        let s = some_may_come script past sound legal not_whole in
        let (rest, rest_legal, rest_whole) = next s.entry s.allowed in
        let same = append_assoc past (s.entry ∷ []) rest in
        (s.entry ∷ rest, subst (IsLegal script) same rest_legal, subst (IsWhole script) same rest_whole)

pub can_be_whole : (script : Plan) (past : List Entry) → IsSound script → IsLegal script past
    → (rest : List Entry) × IsLegal script (past ++ rest) × IsWhole script (past ++ rest)
can_be_whole script past sound legal = grows_whole script (events_bound_of script) past sound legal (omega arith)

-- what is grown by choices that are always allowed
choices_grow : (script : Plan) (choose : List Entry → Entry) (n : ℕ) (past : List Entry) → IsSound script → AlwaysAllowed script choose → IsLegal script past
    → events_bound_of script ≤ length past + n → IsLegal script (grown script choose n past) × IsWhole script (grown script choose n past)
choices_grow script choose zero past sound always legal left = (
  legal,
  ends_whole script past sound legal (λ e allowed. no_more script past e sound legal allowed (omega (arith, left))),
)
choices_grow script choose (suc n) past sound always legal left = by_whole (is_whole script past) refl
    (λ not_whole. let allowed = always past legal not_whole in choices_grow script choose n (past ++ choose past ∷ []) sound always
    (legal_next script past (choose past) legal allowed) (omega (arith, left, length-append past (choose past ∷ []))))
  where
    Ends : List Entry → Type 0
    Ends log = IsLegal script log × IsWhole script log

    by_whole : (b : Bool) → is_whole script past ≡ b → (is_whole script past ≡ false → Ends (grown script choose n (past ++ choose past ∷ [])))
        → Ends (cond b past (grown script choose n (past ++ choose past ∷ [])))
    by_whole true whole next = (legal, whole)
    by_whole false not_whole next = next not_whole

pub choices_end : (script : Plan) (choose : List Entry → Entry) → IsSound script → AlwaysAllowed script choose
    → IsLegal script (grown script choose (events_bound_of script) []) × IsWhole script (grown script choose (events_bound_of script) [])
choices_end script choose sound always = choices_grow script choose (events_bound_of script) [] sound always (nothing_is_legal script) (omega arith)
