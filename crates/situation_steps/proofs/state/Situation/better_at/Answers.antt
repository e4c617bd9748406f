use Rattle.std.proofs.Common.{◌≡◌, Bool, Option, Some, ap, sym, ◌∙◌}
use Rattle.list_laws.specs.Lists.{keep}
use Rattle.task_model.specs.Sources.{Candidate, goes_before}
use Rattle.situation_steps.proofs.ByLine.{better_stays, better_takes, better_without}
use Rattle.situation_steps.specs.Sources.{better_of, is_first, is_let, is_takeable_in, standing_at}
use Rattle.situation_steps.proofs.state.Situation.better_at.Goals.{else-beats-via-else-beats, else-beats-via-then-beats+else-may_take}
use Rattle.situation_steps.proofs.state.Situation.better_at.Goals as goal

pub returns-then-may_take : goal.returns-then-may_take
returns-then-may_take c =
    let script = c.args.script.now in
    let s = c.args.self.now in
    let t : Candidate → Bool = is_takeable_in script s c.args.seat in
    better_takes goes_before t (is_let s) (is_first script s) c.in-Some.found c.args.best (sym c.beats.ensures ∙ c.if-beats.true)
    (sym c.may_take.ensures ∙ c.if-may_take.true)
    ∙ ap (λ (o : Option Candidate). better_of goes_before c.args.best (keep t (keep (is_let s) (keep (is_first script s) o))))
    (sym c.in-Some.is ∙ c.standing_at.ensures)

pub returns-else-beats : goal.returns-else-beats
returns-else-beats c =
    let script = c.args.script.now in
    let s = c.args.self.now in
    let t : Candidate → Bool = is_takeable_in script s c.args.seat in
    let stands : better_of goes_before c.args.best (keep t (keep (is_let s) (keep (is_first script s) (Some c.in-Some.found))))
    ≡ better_of goes_before c.args.best (keep t (keep (is_let s) (keep (is_first script s) (standing_at script s c.args.place)))) =
    ap (λ (o : Option Candidate). better_of goes_before c.args.best (keep t (keep (is_let s) (keep (is_first script s) o))))
    (sym c.in-Some.is ∙ c.standing_at.ensures) in
    elim c.else-beats.branch [
      | else-beats-via-then-beats+else-may_take w ↦
          better_without goes_before t (is_let s) (is_first script s) c.in-Some.found c.args.best (sym w.may_take.ensures ∙ w.if-may_take.false) ∙ stands
      | else-beats-via-else-beats w ↦
          better_stays goes_before t (is_let s) (is_first script s) c.in-Some.found c.args.best (sym c.beats.ensures ∙ w.if-beats.false) ∙ stands
    ]
