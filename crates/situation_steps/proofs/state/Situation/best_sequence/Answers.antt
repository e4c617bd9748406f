use Rattle.std.proofs.Common.{◌≡◌, ℕ, Bool, length, arith, ap, filter, ◌∙◌}
use Rattle.std.specs.List.{filter_map, range_with_len}
use Rattle.list_laws.specs.Lists.{least}
use Rattle.task_model.specs.Sources.{Candidate, goes_before}
use Rattle.situation_steps.proofs.ByLine.{best_by_line, place_more}
use Rattle.situation_steps.specs.Sources.{is_let, is_takeable_in, waits_from}
use Rattle.situation_steps.proofs.state.Situation.best_sequence.Goals as goal

pub loop-place-preserved : goal.loop-place-preserved
loop-place-preserved c =
    let script = c.args.script.now in
    let s = c.args.self.now in
    c.better_at-best.ensures ∙ place_more goes_before (is_takeable_in script s c.args.seat) (is_let s) (waits_from script s) c.loop-place.place
    c.loop-place.best c.loop-place.invariant

pub returns : goal.returns
returns c =
    let script = c.args.script.now in
    let s = c.args.self.now in
    let p : Candidate → Bool = is_takeable_in script s c.args.seat in
    let all : c.loop-place.place ≡ length s.line = omega arith in
    c.loop-place.invariant
    ∙ ap (λ (n : ℕ). least goes_before (filter p (filter (is_let s) (filter_map (waits_from script s) (range_with_len 0 n))))) all
    ∙ best_by_line script s p (is_let s)
