use Rattle.std.proofs.Common.{ℕ, ◌+◌, ap, arith}
use Rattle.std.proofs.lemmas.List.{length-take-le}
use Rattle.open_check.proofs.Following.{all_followed, goes_on_at, stops_at}
use Rattle.open_check.proofs.follow.follow_all.Goals as goal

pub returns-in-Some : goal.returns-in-Some
returns-in-Some c = λ plan stands.
    let i = c.loop-entry.entry-index in
    let stood = c.loop-entry.invariant.0 plan stands in
    let within = c.loop-entry-test.true in
    let short = length-take-le i c.args.log.now (omega (arith, within)) in
    rw c.loop-entry.invariant.1 (stops_at plan c.args.log.now c.follow_entry.new.live i _ c.in-Some.against stood.legal within
    (c.in-Some.ensures plan _ stood (omega (arith, short, within, c.requires.few))))

pub loop-entry-preserved : goal.loop-entry-preserved
loop-entry-preserved c = (
  λ plan stands.
      let i = c.loop-entry.entry-index in
      let stood = c.loop-entry.invariant.0 plan stands in
      let within = c.loop-entry-test.true in
      let short = length-take-le i c.args.log.now (omega (arith, within)) in
      goes_on_at plan c.args.log.now c.follow_entry.new.live i _ within (c.in_default.ensures plan _ stood (omega (arith, short, within, c.requires.few))),
  ap (λ (n : ℕ). n + 1) c.loop-entry.invariant.1,
)

pub returns : goal.returns
returns c = λ plan stands. all_followed plan c.args.log.now c.loop-entry.live c.loop-entry.entry-index (c.loop-entry.invariant.0 plan stands)
    (omega (arith, c.loop-entry-test.false))
