use Rattle.std.proofs.Common.{sym, ap, ◌∙◌}
use Rattle.job_source.specs.Job.{may_enter}
use Rattle.job_source.proofs.Ids.{entered_is, place_found, IsConsistent-entered}
use Rattle.job_source.proofs.source.JobSource.enter.Goals as goal

pub returns-in_err-id : goal.returns-in_err-id
returns-in_err-id c =
    let may = ap may_enter c.self.view_is ∙ sym c.may_enter.ensures ∙ c.if-not-may_enter.false in
    absurd (place_found _ c.self.invariant may (sym c.free_place.ensures ∙ c.in_err-id.was))

pub invariant_of-self : goal.invariant_of-self
invariant_of-self c =
    let may = ap may_enter c.self.view_is ∙ sym c.may_enter.ensures ∙ c.if-not-may_enter.false in
    IsConsistent-entered _ _ _ c.self.invariant may (sym c.free_place.ensures ∙ c.in_ok-id.was)

pub returns-clause-answer : goal.returns-clause-answer
returns-clause-answer c =
    entered_is _ _ _ c.self.view_is (sym c.may_enter.ensures ∙ c.if-not-may_enter.false) (sym c.free_place.ensures ∙ c.in_ok-id.was)
