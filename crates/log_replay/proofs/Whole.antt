-- When nothing is left to be done of a log.
-- Cited by `Replay::is_whole`, `Replay::open`, `env_explain`.
use Rattle.std.proofs.Common.{◌≡◌, ℕ, ◌+◌, suc, Bool, true, false, List, [], ◌∷◌, length, refl, sym, ap, subst, ◌∙◌, Option, Some, None, arith}
use Rattle.std.specs.Prelude.{◌&&◌, is_none, is_some, not, replicate, slice_get}
use Rattle.std.proofs.lemmas.List.{length-replicate}
use Rattle.std.proofs.lemmas.Option.{same_Some, slice_get_within}
use Rattle.list_laws.proofs.Places.{slice_get-replicate}
use Rattle.task_base.specs.Plan.{Plan}
use Rattle.task_base.specs.declared.entry.Entry.{Entry}
use Rattle.task_base.specs.declared.script.Action.{Action}
use Rattle.hist_model.specs.Open.{IsClosed}
use Rattle.hist_model.specs.Script.{Current, current, is_finished, is_whole}
use Rattle.hist_model.specs.Views.{own_entries}
use Rattle.hist_model.proofs.Laws.Legal.{nothing_is_legal}
use Rattle.hist_model.proofs.Laws.Open.{closed_finished}
use Rattle.std.specs.List.{list_all, range_with_len}
use Rattle.std.specs.Option.{option_map}
use Rattle.task_model.specs.Seats.{holding, is_free, is_quiet, running}
use Rattle.env_core.specs.Views.{EnvView}
use Rattle.env_step.specs.Hands.{AreInHand, IsInHand, is_empty}
use Rattle.env_step.specs.declared.hand.Hand.{Hand}
use Rattle.env_step.specs.declared.hand.Hand.TheVariants.{Free}
use Rattle.env_step.proofs.Free.{free_hand}

-- a test of each of some elements, which are told by their places, is a test of the places
all_at : {A : Type 0} (p : A → Bool) (q : ℕ → Bool) (xs : List A) (start : ℕ) → ((i : ℕ) (x : A) → slice_get xs i ≡ Some x → p x ≡ q (start + i))
    → list_all p xs ≡ list_all q (range_with_len start (length xs))
all_at p q [] start same = refl
all_at p q (x ∷ xs) start same =
    let first : p x ≡ q start = same 0 x refl ∙ ap q (omega arith) in
    rw (first, all_at p q xs (start + 1) (λ i y at. same (suc i) y at ∙ ap q (omega arith))) refl

-- all is quiet exactly where each hand is free
pub quiet_hands : (view : EnvView) (hands : List Hand) → AreInHand view hands → list_all is_empty hands ≡ is_quiet view.script view.history
unfolding is_quiet
quiet_hands view hands are = all_at is_empty (is_free view.history) hands 0
    (λ seat hand at. free_hand view seat hand (are.each seat hand at) ∙ ap (is_free view.history) (omega arith))
    ∙ ap (λ n. list_all (is_free view.history) (range_with_len 0 n)) are.all

-- the script is finished exactly where there is no action to be told
pub finished_told : (script : Plan) (past : List Entry) (action : Option Action) (none : Bool) → IsClosed script
    → action ≡ option_map (λ (c : Current). c.action) (current script (own_entries 0 past)) → is_some action ≡ not none → none ≡ is_finished script past
finished_told script past action none closed is told =
    by_current (current script (own_entries 0 past)) none (ap is_some (sym is) ∙ told) ∙ sym (closed_finished script past closed)
  where
    by_current : (c : Option Current) (b : Bool) → is_some (option_map (λ (x : Current). x.action) c) ≡ not b → b ≡ is_none c
    by_current None true same = refl
    by_current None false same = absurd cc
    by_current (Some x) true same = absurd cc
    by_current (Some x) false same = refl

-- a log is whole exactly where the script is finished and each hand is free
pub whole_told : (view : EnvView) (hands : List Hand) → AreInHand view hands → (finished free : Bool) → finished ≡ is_finished view.script view.history
    → free ≡ list_all is_empty hands → (finished && free) ≡ is_whole view.script view.history
whole_told view hands are finished free is all = rw (is, all, quiet_hands view hands are) refl

-- at first each seat is free
pub free_at_first : (view : EnvView) → IsClosed view.script → view.history ≡ [] → AreInHand view (replicate (view.script.workers + 1) Free)
unfolding running holding
free_at_first view closed none = record {
  closed = closed;
  legal = rw none (nothing_is_legal view.script);
  all = length-replicate (view.script.workers + 1) Free;
  each = λ seat hand at. subst (IsInHand view seat) (one seat hand at) (rw none refl);
}
  where
    one : (seat : ℕ) (hand : Hand) → slice_get (replicate (view.script.workers + 1) Free) seat ≡ Some hand → Free ≡ hand
    one seat hand at =
        let there = slice_get_within (replicate (view.script.workers + 1) Free) seat hand at in
        let long = length-replicate (view.script.workers + 1) Free in
        same_Some Free hand (sym (slice_get-replicate (view.script.workers + 1) seat Free (omega (arith, there, long))) ∙ at)
