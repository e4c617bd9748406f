-- What may come of a call, the call makes, unless there is no room.
-- Cited by `laws.rt`, `open_check`, `open_explain`.
use Rattle.std.proofs.Common.{◌≡◌, None, true, false, List, length, ap, sym, ◌∙◌, Result, Ok, Err, ◌⊎◌, inl, inr, ⊎_elim}
use Rattle.std.specs.Prelude.{◌&&◌, ◌==◌, is_none, nat_le}
use Rattle.std.proofs.lemmas.Bool.{and_parts, both_ways, eqb-true, false_from_ne_true, or_cases}
use Rattle.std.proofs.lemmas.Option.{same_Some}
use Rattle.task_base.specs.Plan.{Plan}
use Rattle.task_base.specs.Entries.{entry_by}
use Rattle.task_base.specs.declared.entry.Entry.{Entry}
use Rattle.task_base.specs.declared.entry.Kind.{Kind}
use Rattle.task_base.specs.declared.entry.Kind.TheVariants as kinds
use Rattle.hist_model.proofs.Laws.Legal.{is_legal_push}
use Rattle.hist_model.specs.Allowed.{is_allowed, may_come}
use Rattle.hist_model.specs.Legal.{IsLegal, is_legal}
use Rattle.hist_model.specs.Open.{IsOpen}
use Rattle.live_core.proofs.Fits.{comes_fit, comes_not_lacking, is_the_kind}
use Rattle.live_core.specs.Answers.{Gives, IsMadeBy, LacksFor}
use Rattle.live_core.specs.Calls.{fits, hands_out, seat_of, spare_task}
use Rattle.live_core.specs.StandsFor.{StandsFor}
use Rattle.live_core.specs.declared.books.TheConstants.{MOST_ENTRIES}
use Rattle.live_core.specs.declared.call.Call.{Call}
use Rattle.live_core.specs.declared.call.Call.TheVariants as calls
use Rattle.live_core.specs.declared.live.LiveCore.{LiveCore}
use Rattle.live_core.specs.declared.unmade.Unmade.{Unmade}
use Rattle.live_core.specs.declared.unmade.Unmade.TheVariants.{Misuse, Full, Nothing, Over, NotYet, Blocked}

pub misuse_may_not_come : (plan : Plan) (past : List Entry) (call : Call) (kind : Kind) → IsOpen plan → IsLegal plan past → fits plan past call ≡ false
    → IsMadeBy plan past call kind → may_come plan past (seat_of call) kind ≡ false
misuse_may_not_come plan past call kind opened legal unfit made =
    false_from_ne_true (may_come plan past (seat_of call) kind)
    (λ may. both_ways (fits plan past call) unfit (comes_fit plan past opened legal call kind made may))

pub lack_may_not_come : (plan : Plan) (past : List Entry) (call : Call) (why : Unmade) (kind : Kind) → IsOpen plan → IsLegal plan past
    → LacksFor plan past call why → IsMadeBy plan past call kind → may_come plan past (seat_of call) kind ≡ false
lack_may_not_come plan past call why kind opened legal lacks made =
    false_from_ne_true (may_come plan past (seat_of call) kind) (λ may. comes_not_lacking plan past opened legal call why kind lacks made may)

pub one_entry_of_a_call : (plan : Plan) (past : List Entry) (call : Call) (a b : Kind) → IsOpen plan → IsLegal plan past → IsMadeBy plan past call a
    → IsMadeBy plan past call b → may_come plan past (seat_of call) a ≡ true → may_come plan past (seat_of call) b ≡ true → a ≡ b
one_entry_of_a_call plan past call a b opened legal made_a made_b may_a may_b =
    same_Some a b (sym (is_the_kind plan past opened legal call a made_a may_a) ∙ is_the_kind plan past opened legal call b made_b may_b)

-- a call that hands out a task has one where its entry has it
not_spent : (plan : Plan) (past : List Entry) (call : Call) (kind : Kind) → IsMadeBy plan past call kind
    → (hands_out call && is_none (spare_task plan past)) ≡ true
    → ⊥
not_spent plan past (calls.Post seat None r d) (kinds.Post task runner delay ok) made none = both_ways (is_none (spare_task plan past)) (ap is_none made.0) none
not_spent plan past (calls.Main seat None q d) (kinds.Main task queue delay ok) made none = both_ways (is_none (spare_task plan past)) (ap is_none made.0) none
not_spent plan past (calls.Post seat None r d) kind made none = absurd made
not_spent plan past (calls.Main seat None q d) kind made none = absurd made
not_spent plan past call kind made none = absurd cc

pub makes_what_may_come : (plan : Plan) (past : List Entry) (call : Call) (before after : LiveCore) (answer : Result Kind Unmade) (kind : Kind)
    → StandsFor plan past before → Gives plan past call before after answer → IsMadeBy plan past call kind
    → may_come plan past (seat_of call) kind ≡ true → (answer ≡ Ok kind) ⊎ (length past ≡ MOST_ENTRIES)
makes_what_may_come plan past call before after answer kind stands gives made may = of_answer answer gives
  where
    no_lack : (why : Unmade) → LacksFor plan past call why → ⊥
    no_lack why lacks = comes_not_lacking plan past stands.opened stands.legal call why kind lacks made may

    of_answer : (given : Result Kind Unmade) → Gives plan past call before after given → (given ≡ Ok kind) ⊎ (length past ≡ MOST_ENTRIES)
    of_answer (Ok other) g =
        let allowed = (and_parts (is_legal plan past) (is_allowed plan past (entry_by (seat_of call) other))
        (sym (is_legal_push plan past (entry_by (seat_of call) other)) ∙ g.stands.legal)).1 in
        inl (ap Ok (one_entry_of_a_call plan past call other kind stands.opened stands.legal g.made made
        (and_parts (nat_le (seat_of call) plan.workers) _ allowed).1 may))
    of_answer (Err Misuse) g = absurd (both_ways (fits plan past call) g.unfit (comes_fit plan past stands.opened stands.legal call kind made may))
    of_answer (Err Full) g = ⊎_elim (λ most. inr (eqb-true (length past) MOST_ENTRIES most)) (λ spent. absurd (not_spent plan past call kind made spent))
        (or_cases (length past == MOST_ENTRIES) (hands_out call && is_none (spare_task plan past)) g.full)
    of_answer (Err Nothing) g = absurd (no_lack Nothing g.lacks)
    of_answer (Err Over) g = absurd (no_lack Over g.lacks)
    of_answer (Err (NotYet not_yet)) g = absurd (no_lack (NotYet not_yet) g.lacks)
    of_answer (Err (Blocked blocked)) g = absurd (no_lack (Blocked blocked) g.lacks)
