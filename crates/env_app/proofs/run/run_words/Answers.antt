use Rattle.std.proofs.Common.{◌∙◌, inl, inr, sym}
use Rattle.app_streams.specs.Ends.{ends}
use Rattle.env_app.proofs.Failures.{is_end, no_verdict}
use Rattle.env_app.proofs.Causes.{cause_of_failure, judge_says, open_judge_says}
use Rattle.env_app.proofs.run.run_words.Goals as goal

pub returns-in-Ok-clause-legal_log : goal.returns-in-Ok-clause-legal_log
returns-in-Ok-clause-legal_log g c judges zero =
    let says = judge_says _ _ _ (ends _ _ 0 0) 0 c.in-Ok.ensures.outcome.2 judges in
    record { bytes = says.bytes; took = says.took; holds = says.holds.legal zero }

pub returns-in-Ok-clause-legal_open_log : goal.returns-in-Ok-clause-legal_open_log
returns-in-Ok-clause-legal_open_log g c judges zero =
    let says = open_judge_says _ _ _ (ends _ _ 0 0) 0 c.in-Ok.ensures.outcome.2 judges in
    record { bytes = says.bytes; took = says.took; holds = says.holds.legal zero }

pub returns-in-Err-clause-cause : goal.returns-in-Err-clause-cause
returns-in-Err-clause-cause g c =
    rw c.status.ensures.status (cause_of_failure _ _ _ _ c.in-Err.failure c.in-Err.ensures.outcome c.in-Err.ensures.source_steady
    c.in-Err.ensures.sink_steady c.in-Err.ensures.took_more c.in-Err.ensures.took_within)

pub returns-in-Err-clause-nothing_written : goal.returns-in-Err-clause-nothing_written
returns-in-Err-clause-nothing_written g c not_zero not_verdict not_five =
    c.in-Err.ensures.sink_kept (no_verdict _ _ _ _ c.in-Err.failure c.in-Err.ensures.outcome (λ is. not_verdict (rw c.status.ensures.status is)))
    (λ five. not_five (c.status.ensures.status ∙ five))

pub returns-in-Err-clause-note : goal.returns-in-Err-clause-note
returns-in-Err-clause-note g c not_zero =
    (c.in-Err.failure, is_end _ _ _ _ c.in-Err.failure c.status.result c.in-Err.ensures.outcome c.status.ensures.status, c.tell.ensures.written)

pub returns-in-Err-clause-note_front : goal.returns-in-Err-clause-note_front
returns-in-Err-clause-note_front g c not_zero =
    (c.in-Err.failure, is_end _ _ _ _ c.in-Err.failure c.status.result c.in-Err.ensures.outcome c.status.ensures.status, c.tell.ensures.front)

pub returns-in-Err-clause-no_legal_log : goal.returns-in-Err-clause-no_legal_log
returns-in-Err-clause-no_legal_log g c judges one =
    let is_one = sym c.status.ensures.status ∙ one in
    let cause = cause_of_failure _ _ _ _ c.in-Err.failure c.in-Err.ensures.outcome c.in-Err.ensures.source_steady c.in-Err.ensures.sink_steady
    c.in-Err.ensures.took_more c.in-Err.ensures.took_within in
    let says = judge_says _ _ _ (ends _ _ 0 0) _ (cause.done (inr is_one)) judges in
    record { bytes = says.bytes; took = says.took; holds = says.holds.not_legal is_one }

pub returns-in-Err-clause-no_legal_open_log : goal.returns-in-Err-clause-no_legal_open_log
returns-in-Err-clause-no_legal_open_log g c judges one =
    let is_one = sym c.status.ensures.status ∙ one in
    let cause = cause_of_failure _ _ _ _ c.in-Err.failure c.in-Err.ensures.outcome c.in-Err.ensures.source_steady c.in-Err.ensures.sink_steady
    c.in-Err.ensures.took_more c.in-Err.ensures.took_within in
    let says = open_judge_says _ _ _ (ends _ _ 0 0) _ (cause.done (inr is_one)) judges in
    record { bytes = says.bytes; took = says.took; holds = says.holds.not_legal is_one }

pub returns-in-Err-clause-explained : goal.returns-in-Err-clause-explained
returns-in-Err-clause-explained g c json prefix explains status =
    let cause = returns-in-Err-clause-cause g c in rw explains at (cause.done status)

pub returns-in-Err-clause-arranged : goal.returns-in-Err-clause-arranged
returns-in-Err-clause-arranged g c prefix most arranges status =
    let cause = returns-in-Err-clause-cause g c in
    elim status [
      | inl zero ↦ rw arranges at (cause.done (inl zero))
      | inr other ↦ elim other [ inl one ↦ rw arranges at (cause.done (inr one)) | inr eight ↦ rw arranges at (cause.gave_up eight).2 ]
    ]

pub returns-in-Err-clause-open_explained : goal.returns-in-Err-clause-open_explained
returns-in-Err-clause-open_explained g c json prefix explains status =
    let cause = returns-in-Err-clause-cause g c in rw explains at (cause.done status)

pub returns-in-Err-clause-open_arranged : goal.returns-in-Err-clause-open_arranged
returns-in-Err-clause-open_arranged g c prefix most arranges status =
    let cause = returns-in-Err-clause-cause g c in
    elim status [
      | inl zero ↦ rw arranges at (cause.done (inl zero))
      | inr other ↦ elim other [ inl one ↦ rw arranges at (cause.done (inr one)) | inr eight ↦ rw arranges at (cause.gave_up eight).2 ]
    ]

pub returns-in-Err-clause-open_traced : goal.returns-in-Err-clause-open_traced
returns-in-Err-clause-open_traced g c full prefix traces status =
    let cause = returns-in-Err-clause-cause g c in rw traces at (cause.done status)
