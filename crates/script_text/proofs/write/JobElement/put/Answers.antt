use Rattle.std.proofs.Common.{◌≡◌, ap, arith}
use Rattle.std.proofs.lemmas.Result.{err_from_is_err_and, MatchResult-weaker}
use Rattle.script_text.specs.Written.{texts_from, step_text, job_head_text}
use Rattle.script_text.proofs.Texts.{line_parts, job_pieces}
use Rattle.script_text.proofs.Puts.{nothing_put, put_part, cut_part}
use Rattle.script_text.proofs.write.JobElement.put.Goals as goal

pub returns-in_err-put_piece : goal.returns-in_err-put_piece
returns-in_err-put_piece g c =
    let failed = err_from_is_err_and c.from_residual.result c.from_residual.ensures.1 in
    let parts = line_parts (job_head_text c.args.place c.args.self.now) c.args.self.now.steps in
    rw failed.1 (cut_part _ parts 0 _ (job_pieces c.args.place c.args.self.now) c.job_head.ensures (omega arith) (nothing_put _ _) c.in_err-put_piece.ensures)

pub returns-in_err-put_each : goal.returns-in_err-put_each
returns-in_err-put_each g c =
    let failed = err_from_is_err_and c.from_residual-in_err-put_each.result c.from_residual-in_err-put_each.ensures.1 in
    let parts = line_parts (job_head_text c.args.place c.args.self.now) c.args.self.now.steps in
    let steps : c.as_slice.result.now ≡ c.args.self.now.steps = cc in
    let head = put_part parts 0 _ c.job_head.ensures (omega arith) (nothing_put _ _) c.in_ok-put_piece.ensures in
    rw failed.1 (cut_part _ parts 1 _ (job_pieces c.args.place c.args.self.now) (ap (texts_from step_text 0) steps) (omega arith) head
    c.in_err-put_each.ensures)

pub returns : goal.returns
returns g c =
    let parts = line_parts (job_head_text c.args.place c.args.self.now) c.args.self.now.steps in
    let steps : c.as_slice.result.now ≡ c.args.self.now.steps = cc in
    let head = put_part parts 0 _ c.job_head.ensures (omega arith) (nothing_put _ _) c.in_ok-put_piece.ensures in
    let front = put_part parts 1 _ (ap (texts_from step_text 0) steps) (omega arith) head c.in_ok-put_each.ensures in
    let made = job_pieces c.args.place c.args.self.now in
    MatchResult-weaker c.put_piece-2.result c.put_piece-2.ensures (λ _ put. rw made (put_part parts 2 _ c.line_end.ensures (omega arith) front put))
    (λ _ cut. cut_part _ parts 2 _ made c.line_end.ensures (omega arith) front cut)
