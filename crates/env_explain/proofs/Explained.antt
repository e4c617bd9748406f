-- Where a log goes wrong, and what is left at its end.
-- Cited by `left`, `next_of_seat`, `explain_at`, `explain_log`, `explain_prefix`, `open_explain`.
use Rattle.std.proofs.Common.{◌≡◌, ◌↔◌, inl, inr, ℕ, zero, suc, ◌+◌, ◌<◌, ◌≤◌, Bool, true, false, List, ◌∷◌}
use Rattle.std.proofs.Common.{length, take, refl, sym, ap, subst, ◌∙◌, Option, Some, None, arith}
use Rattle.std.proofs.Math.Seq.{take-append_seam}
use Rattle.std.proofs.lemmas.Bool.{true≢false}
use Rattle.std.proofs.lemmas.List.{length-append, take_all}
use Rattle.std.proofs.lemmas.Option.{none-some, same_Some, slice_get_within}
use Rattle.std.specs.List.{list_all}
use Rattle.std.specs.Prelude.{is_none}
use Rattle.task_base.specs.Plan.{Plan}
use Rattle.task_base.specs.declared.entry.Entry.{Entry}
use Rattle.task_base.specs.declared.entry.Kind.{Kind}
use Rattle.task_base.specs.Entries.{entry_by}
use Rattle.task_model.specs.Seats.{is_free}
use Rattle.hist_model.specs.Allowed.{IsAllowed}
use Rattle.hist_model.specs.Legal.{IsIllegalAt, IsLegal, first_illegal}
use Rattle.hist_model.specs.Script.{IsWhole, is_finished, is_whole}
use Rattle.hist_model.proofs.Laws.Legal.{first_illegal_none, first_illegal_some}
use Rattle.hist_model.proofs.Laws.Own.{holding_own}
use Rattle.env_core.specs.Jobs.{held_by}
use Rattle.env_core.specs.Views.{EnvView}
use Rattle.env_step.specs.Hands.{AreInHand, IsInHand, is_empty}
use Rattle.env_step.specs.declared.hand.Hand.{Hand}
use Rattle.env_step.specs.declared.hand.Hand.TheVariants.{Free, Item, Task}
use Rattle.env_step.proofs.Free.{free_hand}
use Rattle.env_step.proofs.UnderWay.{runs_it}
use Rattle.next_entry.specs.Causes.{Explains, MayFollow, named_by}
use Rattle.next_entry.specs.declared.cause.Cause.{Cause}
use Rattle.next_entry.specs.declared.cause.Cause.TheVariants as causes
use Rattle.next_entry.specs.declared.cause.Explanation.{Explanation}
use Rattle.next_entry.specs.declared.cause.Explanation.TheVariants as explanations
use Rattle.env_check.specs.Verdicts.{prefix_verdict_at, prefix_verdict_of, verdict_at, verdict_of}
use Rattle.env_check.specs.declared.verdict.Verdict.TheVariants.{Illegal, Legal}
use Rattle.env_check.proofs.Verdicts.{legal_answer, legal_prefix_answer}
use Rattle.log_replay.proofs.Whole.{whole_told}
use Rattle.env_explain.specs.Explained.{HasInHand, HasMore, IsExplained, NamesAllowed, SaysNothingOfTheEnd, goes_on, verdict_told, work_in}

-- Where a log goes wrong.

-- a log is legal up to this place, and if it ends there it is not whole
pub record StopsAt (script : Plan) (log : List Entry) (place : ℕ) : Type 0 where
  pub within : place ≤ length log
  pub legal : IsLegal script (take place log)
  pub open_end : length log ≤ place → is_whole script log ≡ false

-- so it is with the place of each verdict
pub stops : (script : Plan) (log : List Entry) (place : ℕ) → verdict_of script log ≡ Illegal place → StopsAt script log place
unfolding verdict_of
stops script log place verdict = by_first_illegal (first_illegal script log) (is_whole script log) refl refl verdict
  where
    at_place : IsIllegalAt script log place → StopsAt script log place
    at_place at =
        let long : length log ≡ length at.past + length (at.entry ∷ at.rest) = ap length at.parts ∙ length-append at.past (at.entry ∷ at.rest) in
        record {
          within = omega (arith, long, at.place_is);
          legal = rw (at.parts, ← at.place_is, take-append_seam at.past (at.entry ∷ at.rest)) at.legal_before;
          open_end = λ end. absurd (omega (arith, long, at.place_is, end));
        }

    by_first_illegal : (o : Option ℕ) (whole : Bool) → first_illegal script log ≡ o → is_whole script log ≡ whole → verdict_at script log o ≡ Illegal place
        → StopsAt script log place
    by_first_illegal (Some p) whole is same told = let here : p ≡ place = cc in at_place (first_illegal_some script log place (is ∙ ap Some here))
    by_first_illegal None true is same told = absurd cc
    by_first_illegal None false is same told =
        let end : length log ≡ place = cc in
        record {
          within = omega (arith, end);
          legal = rw (← end, take_all (length log) log (omega arith)) (sym (first_illegal_none script log) ∙ ap is_none is);
          open_end = λ more. same;
        }

-- an entry that a cause names is allowed where the cause holds
pub named_follows : (cause : Cause) (script : Plan) (past : List Entry) (seat : ℕ) (kind : Option Kind) (next : Kind) → Explains cause script past seat kind
    → named_by cause ≡ Some next → IsAllowed script past (entry_by seat next)
named_follows (causes.Runs task k) script past seat kind next holds is = subst (MayFollow script past seat) (same_Some k next is) holds.1
named_follows (causes.Holds job k) script past seat kind next holds is = subst (MayFollow script past seat) (same_Some k next is) holds.1
named_follows (causes.Wants k) script past seat kind next holds is = subst (MayFollow script past seat) (same_Some k next is) holds.2
named_follows (causes.Best k edge) script past seat kind next holds is = subst (MayFollow script past seat) (same_Some k next is) holds.2
named_follows cause script past seat kind next holds is = absurd (none-some next is)

-- so what is said of a log names what is allowed
pub names_allowed : (script : Plan) (log : List Entry) (told : Explanation) → IsExplained script log told → NamesAllowed script log told
names_allowed script log explanations.Legal explained = tt
names_allowed script log (explanations.Barred place cause) explained = λ e next at named.
    let same : explained.0 ≡ e = same_Some explained.0 e (sym explained.1 ∙ at) in
    named_follows cause script (take place log) e.seat (Some e.kind) next
    (subst (λ (x : Entry). Explains cause script (take place log) x.seat (Some x.kind)) same explained.2) named
names_allowed script log (explanations.Unfinished place seat cause) explained = λ next named.
    named_follows cause script log seat None next explained.3 named
names_allowed script log (explanations.AtWork place busy) explained = tt

-- where the verdict is that it is legal, that is said
told_legal : (told : Explanation) → verdict_told told ≡ Legal → told ≡ explanations.Legal
told_legal explanations.Legal same = refl
told_legal (explanations.Barred place cause) same = absurd cc
told_legal (explanations.Unfinished place seat cause) same = absurd cc
told_legal (explanations.AtWork place busy) same = absurd cc

-- so a log is said to be legal exactly where its verdict is
pub legal_told : (script : Plan) (log : List Entry) (told : Explanation) → verdict_told told ≡ verdict_of script log
    → (told ≡ explanations.Legal) ↔ (IsLegal script log × IsWhole script log)
legal_told script log told is =
    let legal = legal_answer script log (verdict_told told) is in
    (λ same. legal.0 (ap verdict_told same), λ both. told_legal told (legal.1 both))

-- and a beginning
pub legal_prefix_told : (script : Plan) (log : List Entry) (told : Explanation) → verdict_told told ≡ prefix_verdict_of script log
    → (told ≡ explanations.Legal) ↔ IsLegal script log
legal_prefix_told script log told is =
    let legal = legal_prefix_answer script log (verdict_told told) is in
    (λ same. legal.0 (ap verdict_told same), λ begun. told_legal told (legal.1 begun))

-- a beginning that is illegal at a place is an illegal log there, and the place is one of its entries
pub illegal_prefix : (script : Plan) (log : List Entry) (place : ℕ) → prefix_verdict_of script log ≡ Illegal place
    → (verdict_of script log ≡ Illegal place) × (place < length log)
unfolding prefix_verdict_of verdict_of
illegal_prefix script log place verdict = by_first_illegal (first_illegal script log) refl verdict
  where
    by_first_illegal : (o : Option ℕ) → first_illegal script log ≡ o → prefix_verdict_at o ≡ Illegal place
        → (verdict_at script log o ≡ Illegal place) × (place < length log)
    by_first_illegal None is told = absurd cc
    by_first_illegal (Some p) is told =
        let here : p ≡ place = cc in
        let at = first_illegal_some script log place (is ∙ ap Some here) in
        (told, omega (arith, at.place_is, ap length at.parts, length-append at.past (at.entry ∷ at.rest)))

-- so nothing is said of its end
pub nothing_of_the_end : (script : Plan) (log : List Entry) (place : ℕ) (told : Explanation) → place < length log → verdict_told told ≡ Illegal place
    → IsExplained script log told → SaysNothingOfTheEnd told
nothing_of_the_end script log place explanations.Legal within is explained = tt
nothing_of_the_end script log place (explanations.Barred at cause) within is explained = tt
nothing_of_the_end script log place (explanations.Unfinished at seat cause) within is explained =
    let here : at ≡ place = cc in absurd (omega (arith, here, explained.0, within))
nothing_of_the_end script log place (explanations.AtWork at busy) within is explained =
    let here : at ≡ place = cc in absurd (omega (arith, here, explained.0, within))

-- where workers are busy, a seat that has nothing in hand is the driver's
pub free_driver : (view : EnvView) (seat : ℕ) → IsInHand view seat Free → (1 ≤ seat → is_free view.history seat ≡ false) → seat ≡ 0
free_driver view zero in_hand busy = refl
free_driver view (suc n) in_hand busy = absurd (true≢false (free_hand view (suc n) Free in_hand ∙ busy (omega arith)))

-- a seat goes on by an entry that may come of it, from what it has in hand
pub went_on : (view : EnvView) (seat : ℕ) (hand : Hand) (next : Kind) (kind : Option Kind) → IsInHand view seat hand
    → (1 ≤ seat → is_free view.history seat ≡ false) → MayFollow view.script view.history seat next
    → Explains (goes_on (work_in hand) next) view.script view.history seat kind
went_on view seat Free next kind in_hand busy may = (free_driver view seat in_hand busy, sym (free_hand view seat Free in_hand), may)
went_on view seat (Task at) next kind in_hand busy may = ((in_hand.seats.now, runs_it in_hand, sym in_hand.seats.task_is), may)
went_on view seat (Item pass) next kind in_hand busy may = ((held_by pass, sym (holding_own view.history seat) ∙ in_hand.holds, refl), may)

-- What is left at the end of a log.

-- a seat that has something in hand is not free
pub busy_not_free : {view : EnvView} {hands : List Hand} (seat : ℕ) → AreInHand view hands → HasInHand hands seat → is_free view.history seat ≡ false
busy_not_free {view} {hands} seat are (hand, at, full) = sym (free_hand view seat hand (are.each seat hand at)) ∙ full

-- so it has something left to do
pub busy_has_more : {view : EnvView} {hands : List Hand} (seat : ℕ) → AreInHand view hands → HasInHand hands seat → HasMore view.script view.history seat
busy_has_more seat are busy = inl (busy_not_free seat are busy)

-- and is a seat of the script
pub busy_is_known : {view : EnvView} {hands : List Hand} (seat : ℕ) → AreInHand view hands → HasInHand hands seat → seat ≤ view.script.workers
busy_is_known {view} {hands} seat are (hand, at, full) = omega (arith, slice_get_within hands seat hand at, are.all)

-- where none has and the history is not whole, the driver has
pub driver_has_more : {view : EnvView} {hands : List Hand} → AreInHand view hands → list_all is_empty hands ≡ true
    → is_whole view.script view.history ≡ false → HasMore view.script view.history 0
driver_has_more {view} {hands} are free more = inr (refl, by_finished (is_finished view.script view.history) refl)
  where
    by_finished : (finished : Bool) → is_finished view.script view.history ≡ finished → finished ≡ false
    by_finished true is = absurd (true≢false (whole_told view hands are true true (sym is) (sym free) ∙ more))
    by_finished false is = refl
