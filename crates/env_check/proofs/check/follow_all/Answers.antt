use Rattle.std.proofs.Common.{ℕ, ◌+◌, ap, arith, refl, subst, sym, ◌∙◌}
use Rattle.std.specs.Prelude.{Some}
use Rattle.hist_model.proofs.Laws.Legal.{nothing_is_legal}
use Rattle.log_replay.specs.Follows.{Follows}
use Rattle.env_check.proofs.Verdicts.{few_followed, goes_on_at, illegal_nowhere, legal_at_end, stops_at}
use Rattle.env_check.proofs.check.follow_all.Goals as goal

pub loop-entry-init : goal.loop-entry-init
loop-entry-init c =
    (record { script_is = c.requires.script; history_is = c.requires.empty; legal = rw c.requires.empty (nothing_is_legal c.args.script.now) }, refl)

pub returns-then-not-follow-clause-place : goal.returns-then-not-follow-clause-place
returns-then-not-follow-clause-place c =
    ap Some c.loop-entry.invariant.1
    ∙ sym (stops_at c.loop-entry.replay c.follow.new.self c.args.script.now c.args.entries.now c.loop-entry.entry-index _ c.loop-entry.invariant.0
    c.loop-entry-test.true (subst (Follows c.loop-entry.replay c.follow.new.self _) c.if-not-follow.true c.follow.ensures))

pub overflow_add-place : goal.overflow_add-place
overflow_add-place c =
    let few = few_followed c.loop-entry.replay c.args.script.now c.args.entries.now c.loop-entry.entry-index c.requires.plan c.loop-entry.invariant.0
    c.loop-entry-test.true in
    omega (arith, few, c.loop-entry.invariant.1)

pub loop-entry-preserved : goal.loop-entry-preserved
loop-entry-preserved c = (
  goes_on_at c.loop-entry.replay c.follow.new.self c.args.script.now c.args.entries.now c.loop-entry.entry-index _ c.loop-entry.invariant.0
      c.loop-entry-test.true (subst (Follows c.loop-entry.replay c.follow.new.self _) c.if-not-follow.false c.follow.ensures),
  ap (λ (n : ℕ). n + 1) c.loop-entry.invariant.1,
)

pub returns-clause-place : goal.returns-clause-place
returns-clause-place c = sym (illegal_nowhere c.args.script.now c.args.entries.now
    (legal_at_end c.loop-entry.replay c.args.script.now c.args.entries.now c.loop-entry.entry-index c.loop-entry.invariant.0
    (omega (arith, c.loop-entry-test.false))).1)

pub returns-clause-script : goal.returns-clause-script
returns-clause-script c none = c.loop-entry.invariant.0.script_is

pub returns-clause-followed : goal.returns-clause-followed
returns-clause-followed c none = (legal_at_end c.loop-entry.replay c.args.script.now c.args.entries.now c.loop-entry.entry-index c.loop-entry.invariant.0
    (omega (arith, c.loop-entry-test.false))).0

pub returns-clause-legal : goal.returns-clause-legal
returns-clause-legal c none = (legal_at_end c.loop-entry.replay c.args.script.now c.args.entries.now c.loop-entry.entry-index c.loop-entry.invariant.0
    (omega (arith, c.loop-entry-test.false))).1
