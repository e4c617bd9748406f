use Rattle.std.proofs.Common.{◌≡◌, ◌∙◌, length, map, sym, ap, rules, tests, eqb, arith}
use Rattle.std.specs.Prelude.{not, filter}
use Rattle.std.specs.List.{slice_split}
use Rattle.std.proofs.lemmas.Bool.{eqb-true}
use Rattle.std.proofs.lemmas.List.{length-map}
use Rattle.std.proofs.lemmas.Iterator.Consumers.{YieldsList-at, YieldsList-from_filter}
use Rattle.std.proofs.lemmas.Iterator.Splits.{YieldsList-from_slice_split}
use Rattle.entry_lines.specs.Spelling.{is_blank_byte, without_zeros}
use Rattle.entry_lines.proofs.Turns.{turn_of, end_of}
use Rattle.entry_lines.proofs.spelling.plain_words.Goals as goal

pub returns-then-is_full : goal.returns-then-is_full
returns-then-is_full c =
    let t = turn_of _ (filter (λ word. not (eqb (length word) 0)) (slice_split is_blank_byte c.args.line.now)) c.loop-piece.yielded _
    c.loop-piece.yielded_by _ _
    c.in-Some.piece c.in-Some.is c.next.ensures.steps
    (YieldsList-at c.into_iter-piece-iterator.ensures.into_iter_gives
    (YieldsList-from_filter _ (λ word. not (eqb (length word) 0)) (YieldsList-at c.filter-pieces.ensures.source
    (YieldsList-from_slice_split _ is_blank_byte c.args.line.now c.split.ensures.rest c.split.ensures.done c.split.ensures.closure
    (λ x b q k. search (rules, tests)))) c.filter-pieces.ensures.closure (λ x b q k. search (rules, tests)))) in
    let full : length c.loop-piece.words.items ≡ 8 = eqb-true _ 8 (sym c.is_full.ensures.value ∙ c.if-is_full.true) in
    let count : length c.loop-piece.words.items ≡ length c.loop-piece.yielded = simp length-map at (ap length c.loop-piece.invariant) in
    simp length-map (omega (arith, t.0, full, count))

pub returns : goal.returns
returns c =
    let t = end_of _ (filter (λ word. not (eqb (length word) 0)) (slice_split is_blank_byte c.args.line.now)) c.loop-piece.yielded _ c.loop-piece.yielded_by _ _
    c.in-None.is c.next.ensures.steps
    (YieldsList-at c.into_iter-piece-iterator.ensures.into_iter_gives
    (YieldsList-from_filter _ (λ word. not (eqb (length word) 0)) (YieldsList-at c.filter-pieces.ensures.source
    (YieldsList-from_slice_split _ is_blank_byte c.args.line.now c.split.ensures.rest c.split.ensures.done c.split.ensures.closure
    (λ x b q k. search (rules, tests)))) c.filter-pieces.ensures.closure (λ x b q k. search (rules, tests)))) in
    c.loop-piece.invariant ∙ ap (map without_zeros) t.0
