use Rattle.std.proofs.Common.{◌≡◌, ℕ, ◌+◌, ◌<◌, Bool, length, arith, ap, sym, ◌∙◌}
use Rattle.std.specs.List.{list_any, range_with_len}
use Rattle.list_laws.proofs.Ranges.{range_any_at}
use Rattle.list_laws.specs.Lists.{holds_of, keep}
use Rattle.situation_steps.proofs.ByLine.{any_by_line}
use Rattle.situation_steps.proofs.Counting.{none_more}
use Rattle.situation_steps.specs.Sources.{is_let, outranks_in, waits_from}
use Rattle.situation_steps.proofs.state.Situation.is_outranked_by_sequence.Goals as goal

pub loop-place-preserved : goal.loop-place-preserved
loop-place-preserved c =
    let script = c.args.script.now in
    let s = c.args.self.now in
    let test : ℕ → Bool = λ n. holds_of (outranks_in script c.args.priority) (keep (is_let s) (waits_from script s n)) in
    none_more test c.loop-place.place c.loop-place.invariant (sym c.outranks_from.ensures ∙ c.if-outranks_from.false)

pub returns-then-outranks_from : goal.returns-then-outranks_from
returns-then-outranks_from c =
    let script = c.args.script.now in
    let s = c.args.self.now in
    let test : ℕ → Bool = λ n. holds_of (outranks_in script c.args.priority) (keep (is_let s) (waits_from script s n)) in
    let among : c.loop-place.place < 0 + length s.line = omega arith in
    sym (sym (any_by_line script s (outranks_in script c.args.priority) (is_let s))
    ∙ range_any_at test 0 (length s.line) c.loop-place.place (sym c.outranks_from.ensures ∙ c.if-outranks_from.true) (omega arith) among)

pub returns : goal.returns
returns c =
    let script = c.args.script.now in
    let s = c.args.self.now in
    let test : ℕ → Bool = λ n. holds_of (outranks_in script c.args.priority) (keep (is_let s) (waits_from script s n)) in
    let all : c.loop-place.place ≡ length s.line = omega arith in
    sym (sym (any_by_line script s (outranks_in script c.args.priority) (is_let s))
    ∙ ap (λ (n : ℕ). list_any test (range_with_len 0 n)) (sym all) ∙ c.loop-place.invariant)
