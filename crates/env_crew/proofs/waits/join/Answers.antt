use Rattle.task_base.specs.declared.entry.Kind.TheVariants as kinds
use Rattle.env_crew.proofs.Joins.{join_ends, join_enters, join_goes_on, join_stays, join_waits, wanted_inside, wants_inside}
use Rattle.env_crew.proofs.Spares.{desks_trans}
use Rattle.env_crew.proofs.waits.join.Goals as goal

pub try_joined-requires : goal.try_joined-requires
try_joined-requires g c reply =
    let was = c.loop.invariant.4 in
    wanted_inside c.args.job c.requires.at.0 (kinds.Joined c.args.job reply) was c.requires.driver c.requires.at.1 (λ made. wants_inside c.args.job was)

pub returns-in-Ok-clause-done : goal.returns-in-Ok-clause-done
returns-in-Ok-clause-done g c clock =
    join_ends _ _ _ c.in-Ok.ensures.past c.args.job c.in-Ok.field-0 clock c.loop.invariant.4 c.in-Ok.ensures.holds c.in-Ok.ensures.answered.enters

pub job_take-requires : goal.job_take-requires
job_take-requires g c id item =
    let asked = c.in-Err.ensures in
    let was = join_waits _ _ _ asked.past c.loop.invariant.4 asked.holds asked.answered.kept in
    wanted_inside c.args.job c.requires.at.0 (kinds.JobTake c.args.job id item) was c.requires.driver c.requires.at.1 (λ made. wants_inside c.args.job was)

pub do_items-requires-clause-held : goal.do_items-requires-clause-held
do_items-requires-clause-held g c =
    let asked = c.in-Err.ensures in
    let took = c.in-Some-job_take.ensures in
    let was = join_waits _ _ _ asked.past c.loop.invariant.4 asked.holds asked.answered.kept in
    (join_enters _ _ _ took.past c.args.job c.in-Some-job_take.pass was c.requires.driver took.holds took.answered).holds.0

pub do_items-requires-clause-idle : goal.do_items-requires-clause-idle
do_items-requires-clause-idle g c =
    let asked = c.in-Err.ensures in
    let took = c.in-Some-job_take.ensures in
    let was = join_waits _ _ _ asked.past c.loop.invariant.4 asked.holds asked.answered.kept in
    (join_enters _ _ _ took.past c.args.job c.in-Some-job_take.pass was c.requires.driver took.holds took.answered).idle

pub loop-preserved-in-Some-job_take : goal.loop-preserved-in-Some-job_take
loop-preserved-in-Some-job_take g c =
    let asked = c.in-Err.ensures in
    let took = c.in-Some-job_take.ensures in
    let was = c.loop.invariant in (
      _,
      _,
      was.2,
      was.3,
      join_goes_on _ _ _ _ took.past c.args.job c.in-Some-job_take.pass (join_waits _ _ _ asked.past was.4 asked.holds asked.answered.kept)
          c.requires.driver took.holds took.answered c.do_items.ensures.done c.do_items.ensures.free,
    )

pub loop-preserved : goal.loop-preserved
loop-preserved g c =
    let asked = c.in-Err.ensures in
    let took = c.in-None-job_take.ensures in
    let was = c.loop.invariant in (
      _,
      _,
      c.pause.ensures.free,
      desks_trans g.D.Desk.desk c.args.spare.now.items c.loop.spare.items c.pause.new.spare.items was.3 c.pause.ensures.same,
      join_stays _ _ _ (join_waits _ _ _ took.past (join_waits _ _ _ asked.past was.4 asked.holds asked.answered.kept) took.holds took.answered.kept)
          c.pause.ensures.later c.pause.ensures.entered,
    )
