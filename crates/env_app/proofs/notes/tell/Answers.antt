use Rattle.std.proofs.Common.{◌⊎◌, ℕ, List, [], ◌∷◌, ◌++◌, ap, sym, subst, ◌∙◌}
use Rattle.env_io.specs.Bytes.{Gains, Rose}
use Rattle.app_streams.specs.Written.{WroteFront}
use Rattle.app_streams.proofs.Writers.{put_or, wrote_front}
use Rattle.env_app.proofs.Failures.{note_line-other}
use Rattle.env_app.proofs.notes.tell.Goals as goal

pub returns-clause-written : goal.returns-clause-written
returns-clause-written g c =
    let note = c.deref.ensures.0 ∙ c.push.ensures.items ∙ ap (λ t. t ++ 10 ∷ []) c.note-line.ensures.note
    ∙ note_line-other c.args.failure.now (sym c.is_verdict.ensures ∙ c.if-is_verdict.false) in
    subst (λ (t : List ℕ). Rose (g.N.Sink.faults c.args.notes.now) (g.N.Sink.faults c.put_all.new.sink)
    ⊎ Gains (g.N.Sink.holds c.args.notes.now) t (g.N.Sink.holds c.put_all.new.sink)) note
    (put_or c.put_all.result c.put_all.ensures.written c.put_all.ensures.failed)

pub returns-clause-front : goal.returns-clause-front
returns-clause-front g c =
    let note = c.deref.ensures.0 ∙ c.push.ensures.items ∙ ap (λ t. t ++ 10 ∷ []) c.note-line.ensures.note
    ∙ note_line-other c.args.failure.now (sym c.is_verdict.ensures ∙ c.if-is_verdict.false) in
    subst (WroteFront _ _) note (wrote_front c.put_all.result _ _ c.deref.result.now c.put_all.ensures.written c.put_all.ensures.cut)
