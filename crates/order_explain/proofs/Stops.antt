-- What stands against an event, from what is said of the log that ends with its entry.
-- Cited by `stuck_at`.
use Rattle.std.proofs.Common.{◌≡◌, ℕ, Bool, true, false, List, [], ◌∷◌, ◌++◌, length, slice_get, take, Some, refl, sym, subst, ◌∙◌}
use Rattle.std.proofs.Math.Seq.{take-append_seam}
use Rattle.std.proofs.lemmas.Option.{same_Some}
use Rattle.list_laws.proofs.Places.{slice_get_seam}
use Rattle.task_base.specs.Plan.{Plan}
use Rattle.task_base.specs.declared.entry.Entry.{Entry}
use Rattle.hist_model.specs.Allowed.{is_allowed}
use Rattle.hist_model.specs.Legal.{IsLegal}
use Rattle.hist_model.specs.Open.{IsOpen}
use Rattle.order_model.specs.declared.event.Event.{Event}
use Rattle.order_model.specs.Orders.{entries_of, may_precede}
use Rattle.next_entry.specs.Causes.{Explains}
use Rattle.next_entry.specs.declared.cause.Explanation.{Explanation}
use Rattle.next_entry.specs.declared.cause.Explanation.TheVariants as explanations
use Rattle.env_check.specs.Verdicts.{prefix_verdict_of}
use Rattle.env_check.specs.declared.verdict.Verdict.TheVariants.{Legal, Illegal}
use Rattle.env_check.proofs.Verdicts.{illegal_at, illegal_nowhere, legal_more}
use Rattle.env_explain.specs.Explained.{IsExplained, SaysNothingOfTheEnd, verdict_told}
use Rattle.next_entry.specs.declared.open_cause.OpenTold.{OpenTold}
use Rattle.next_entry.specs.declared.open_cause.OpenTold.TheVariants as open_told
use Rattle.open_explain.specs.Told.{Bars, IsTold, SaysNothingOfTheEnd as OpenSaysNothing, verdict_told as open_verdict_told}
use Rattle.order_explain.specs.Stuck.{IsStuck, stuck_open, stuck_told}

-- the verdict on a legal past with one entry more
verdict_barred : (script : Plan) (past : List Entry) (e : Entry) → IsLegal script past → is_allowed script past e ≡ false
    → prefix_verdict_of script (past ++ e ∷ []) ≡ Illegal (length past)
unfolding prefix_verdict_of
verdict_barred script past e legal barred = rw (illegal_at script past e [] legal barred) refl

verdict_allowed : (script : Plan) (past : List Entry) (e : Entry) → IsLegal script past → is_allowed script past e ≡ true
    → prefix_verdict_of script (past ++ e ∷ []) ≡ Legal
unfolding prefix_verdict_of
verdict_allowed script past e legal allowed = rw (illegal_nowhere script (past ++ e ∷ []) (legal_more script past e legal allowed)) refl

-- what is said of the last entry
abbrev IsSaid : Plan → List Entry → Entry → Explanation → Type 0
IsSaid script past e (explanations.Barred place cause) = (is_allowed script past e ≡ false) × Explains cause script past e.seat (Some e.kind)
IsSaid script past e told = is_allowed script past e ≡ true

-- what holds of the entry at the place after the past holds of the last one
told_there : (Holds : List Entry → Entry → Type 0) (past : List Entry) (e : Entry) (place : ℕ) → place ≡ length past
    → ((x : Entry) × (slice_get (past ++ e ∷ []) place ≡ Some x) × Holds (take place (past ++ e ∷ [])) x) → Holds past e
told_there Holds past e place at (x, here, holds) =
    let same : x ≡ e = same_Some x e (sym here ∙ rw at (slice_get_seam past e [])) in
    let before : take place (past ++ e ∷ []) ≡ past = rw at (take-append_seam past (e ∷ [])) in
    subst (λ front. Holds front e) before (subst (Holds (take place (past ++ e ∷ []))) same holds)

told_barred : (script : Plan) (past : List Entry) (e : Entry) (told : Explanation) → is_allowed script past e ≡ false
    → verdict_told told ≡ Illegal (length past) → IsExplained script (past ++ e ∷ []) told → SaysNothingOfTheEnd told → IsSaid script past e told
told_barred script past e explanations.Legal barred verdict explained open_end = absurd cc
told_barred script past e (explanations.Barred place cause) barred verdict explained open_end =
    let at : place ≡ length past = cc in
    (barred, told_there (λ front x. Explains cause script front x.seat (Some x.kind)) past e place at explained)
told_barred script past e (explanations.Unfinished place seat cause) barred verdict explained open_end = absurd open_end
told_barred script past e (explanations.AtWork place busy) barred verdict explained open_end = absurd open_end

told_allowed : (script : Plan) (past : List Entry) (e : Entry) (told : Explanation) → is_allowed script past e ≡ true → verdict_told told ≡ Legal
    → IsSaid script past e told
told_allowed script past e explanations.Legal allowed verdict = allowed
told_allowed script past e (explanations.Barred place cause) allowed verdict = absurd cc
told_allowed script past e (explanations.Unfinished place seat cause) allowed verdict = allowed
told_allowed script past e (explanations.AtWork place busy) allowed verdict = allowed

told_by : (script : Plan) (past : List Entry) (e : Entry) (told : Explanation) → IsLegal script past
    → verdict_told told ≡ prefix_verdict_of script (past ++ e ∷ []) → IsExplained script (past ++ e ∷ []) told → SaysNothingOfTheEnd told
    → (b : Bool) → is_allowed script past e ≡ b → IsSaid script past e told
told_by script past e told legal verdict explained open_end true allowed =
    told_allowed script past e told allowed (verdict ∙ verdict_allowed script past e legal allowed)
told_by script past e told legal verdict explained open_end false barred =
    told_barred script past e told barred (verdict ∙ verdict_barred script past e legal barred) explained open_end

-- what is said of a log is said of its last entry
pub told_of_last : (script : Plan) (past : List Entry) (e : Entry) (log : List Entry) (told : Explanation) → log ≡ past ++ e ∷ [] → IsLegal script past
    → verdict_told told ≡ prefix_verdict_of script log → IsExplained script log told → SaysNothingOfTheEnd told → IsSaid script past e told
told_of_last script past e log told same legal verdict explained open_end =
    told_by script past e told legal (rw same at verdict) (rw same at explained) open_end (is_allowed script past e) refl

-- so what stands against an event that none of those left precedes
pub stuck_by : (script : Plan) (events rest : List Event) (e : Event) (told : Explanation) → may_precede e rest ≡ true
    → IsSaid script (entries_of events) e.entry told → IsStuck script events rest e (stuck_told told)
stuck_by script events rest e explanations.Legal first h = (first, h)
stuck_by script events rest e (explanations.Barred place cause) first h = (first, h.0, h.1)
stuck_by script events rest e (explanations.Unfinished place seat cause) first h = (first, h)
stuck_by script events rest e (explanations.AtWork place busy) first h = (first, h)

-- ---- the same of an open plan

abbrev IsOpenTold : Plan → List Entry → Entry → OpenTold → Type 0
IsOpenTold plan past e (open_told.Barred place cause) = (is_allowed plan past e ≡ false) × Bars cause plan past e
IsOpenTold plan past e told = is_allowed plan past e ≡ true

open_told_barred : (plan : Plan) (past : List Entry) (e : Entry) (told : OpenTold) → is_allowed plan past e ≡ false
    → open_verdict_told told ≡ Illegal (length past) → IsTold plan (past ++ e ∷ []) told → OpenSaysNothing told → IsOpenTold plan past e told
open_told_barred plan past e open_told.Legal barred verdict told open_end = absurd cc
open_told_barred plan past e (open_told.Barred place cause) barred verdict told open_end =
    let at : place ≡ length past = cc in
    (barred, told_there (Bars cause plan) past e place at told)
open_told_barred plan past e (open_told.AtWork place busy) barred verdict told open_end = absurd open_end

open_told_allowed : (plan : Plan) (past : List Entry) (e : Entry) (told : OpenTold) → is_allowed plan past e ≡ true → open_verdict_told told ≡ Legal
    → IsOpenTold plan past e told
open_told_allowed plan past e open_told.Legal allowed verdict = allowed
open_told_allowed plan past e (open_told.Barred place cause) allowed verdict = absurd cc
open_told_allowed plan past e (open_told.AtWork place busy) allowed verdict = allowed

open_told_by : (plan : Plan) (past : List Entry) (e : Entry) (told : OpenTold) → IsLegal plan past
    → open_verdict_told told ≡ prefix_verdict_of plan (past ++ e ∷ []) → IsTold plan (past ++ e ∷ []) told → OpenSaysNothing told
    → (b : Bool) → is_allowed plan past e ≡ b → IsOpenTold plan past e told
open_told_by plan past e told legal verdict holds open_end true allowed =
    open_told_allowed plan past e told allowed (verdict ∙ verdict_allowed plan past e legal allowed)
open_told_by plan past e told legal verdict holds open_end false barred =
    open_told_barred plan past e told barred (verdict ∙ verdict_barred plan past e legal barred) holds open_end

pub open_told_of_last : (plan : Plan) (past : List Entry) (e : Entry) (log : List Entry) (told : OpenTold) → log ≡ past ++ e ∷ [] → IsLegal plan past
    → open_verdict_told told ≡ prefix_verdict_of plan log → IsTold plan log told → OpenSaysNothing told → IsOpenTold plan past e told
open_told_of_last plan past e log told same legal verdict holds open_end =
    open_told_by plan past e told legal (rw same at verdict) (rw same at holds) open_end (is_allowed plan past e) refl

pub open_stuck_by : (plan : Plan) (events rest : List Event) (e : Event) (told : OpenTold) → IsOpen plan → may_precede e rest ≡ true
    → IsOpenTold plan (entries_of events) e.entry told → IsStuck plan events rest e (stuck_open told)
open_stuck_by plan events rest e open_told.Legal opened first h = (first, h)
open_stuck_by plan events rest e (open_told.Barred place cause) opened first h = (opened, first, h.0, h.1)
open_stuck_by plan events rest e (open_told.AtWork place busy) opened first h = (first, h)
