use Rattle.task_base.specs.Plan.{opened}
use Rattle.open_explain.proofs.Causes.{by_call, may_not_be_made, takes_nothing}
use Rattle.open_explain.proofs.cause.unmade.Goals as goal

pub returns-in-Misuse : goal.returns-in-Misuse
returns-in-Misuse c = may_not_be_made c.args.script.now c.args.past.now c.args.entry.now c.part_of.result c.requires.seat c.requires.own
    (rw c.in-Misuse.is at c.requires.unmade) c.part_of.ensures

pub returns-in-Nothing : goal.returns-in-Nothing
returns-in-Nothing c = takes_nothing c.args.script.now c.args.past.now c.args.live.now c.args.entry.now c.bar_of.result c.requires.stands c.requires.seat
    c.requires.own (rw c.in-Nothing.is at c.requires.unmade) c.bar_of.ensures

pub returns-in-Over : goal.returns-in-Over
returns-in-Over c = record { there = c.requires.seat; own = c.requires.own; is = rw c.in-Over.is at c.requires.unmade }

pub waits-requires : goal.waits-requires
waits-requires c = (opened c.args.script.now, c.args.past.now, rw c.of_entry.ensures (rw c.in-NotYet.is at c.requires.unmade))

pub returns-in-NotYet : goal.returns-in-NotYet
returns-in-NotYet c = by_call c.waits.result (opened c.args.script.now) c.args.past.now c.args.entry.now (record {
  there = c.requires.seat;
  own = c.requires.own;
  is = rw c.of_entry.ensures at
      (c.waits.ensures (opened c.args.script.now) c.args.past.now c.args.entry.now (rw c.of_entry.ensures (rw c.in-NotYet.is at c.requires.unmade)));
})

pub returns-in-Blocked : goal.returns-in-Blocked
returns-in-Blocked c = record { there = c.requires.seat; own = c.requires.own; is = rw c.in-Blocked.is at c.requires.unmade }
