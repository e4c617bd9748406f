use Rattle.pool_core.proofs.Accepted.{head_accepted}
use Rattle.pool_core.proofs.Calls.Takes.{stands_at_take, taken_accepted, taken_given, taken_is, taken_out, taken_place}
use Rattle.pool_core.proofs.Calls.Takes.{taken_posting, taken_posting_is, taken_priority, working}
use Rattle.pool_core.proofs.Tracking.{few_blockers}
use Rattle.pool_core.specs.Tables.{posting_of}
use Rattle.std.proofs.Common.{arith, OnSome, refl, subst, sym, ◌∙◌, ◌≡◌}
use Rattle.std.proofs.lemmas.Option.{get_or_from_slice_get}
use Rattle.task_model.specs.Capacity.{priority_of}
use Rattle.pool_core.proofs.pool.Pool.start.Goals as goal

pub take_out-requires-clause-there : goal.take_out-requires-clause-there
take_out-requires-clause-there c = let chosen = c.requires.2 in rw chosen.can.stands.lines.all chosen.there

pub take_out-requires-clause-home : goal.take_out-requires-clause-home
take_out-requires-clause-home c = let chosen = c.requires.2 in rw (chosen.can.stands.lines.cells c.args.seq chosen.there, chosen.idle) refl

pub unwrap-task-requires : goal.unwrap-task-requires
unwrap-task-requires c = rw (c.take_out.ensures.given ∙ taken_given c.requires.2) refl

pub posting-posting-requires : goal.posting-posting-requires
posting-posting-requires c = (
  posting_of c.requires.0 c.requires.2.head.posted,
  rw (taken_is c.requires.2 (sym c.take_out.ensures.given ∙ c.unwrap-task.ensures)) (taken_posting c.requires.2),
)

pub refresh-requires : goal.refresh-requires
refresh-requires c = rw (
  subst (λ o. OnSome o (c.take_out.new.self ≡ taken_out c.args.self.now.sequences c.args.seq)) c.unwrap-task.ensures c.take_out.ensures.taken,
  taken_posting_is c.requires.2 (sym c.take_out.ensures.given ∙ c.unwrap-task.ensures) c.posting-posting.ensures,
) (taken_place c.requires.2)

pub index-priority-requires : goal.index-priority-requires
index-priority-requires c =
    let place = taken_place c.requires.2 in
    rw (c.refresh.ensures, taken_posting_is c.requires.2 (sym c.take_out.ensures.given ∙ c.unwrap-task.ensures) c.posting-posting.ensures)
    (omega (arith, place.ranked, c.args.self.now.priorities.ok.0))

pub started-requires-2-clause-allowed : goal.started-requires-2-clause-allowed
started-requires-2-clause-allowed c = let chosen = c.requires.2 in rw (
  c.refresh.ensures,
  taken_posting_is chosen (sym c.take_out.ensures.given ∙ c.unwrap-task.ensures) c.posting-posting.ensures,
  chosen.can.stands.tracker,
) (head_accepted c.requires.0 c.requires.1 c.args.seq chosen.head chosen.is_head).3

pub started-requires-2-clause-room : goal.started-requires-2-clause-room
started-requires-2-clause-room c =
    let stands = c.requires.2.can.stands in
    rw (c.refresh.ensures, stands.tracker) (few_blockers c.requires.0 c.requires.1 stands.script_fits stands.past_fits)

pub returns-clause-answer : goal.returns-clause-answer
returns-clause-answer c script past chosen =
    let gives = sym c.take_out.ensures.given ∙ c.unwrap-task.ensures in
    let accepted = taken_accepted chosen in
    rw (taken_is chosen gives, taken_posting_is chosen gives c.posting-posting.ensures) (record {
      head = chosen.head;
      is_head = rw accepted.2 chosen.is_head;
      is_best = rw accepted.2 chosen.is_best;
      task_is = refl;
      runner_is = refl;
      found_is = rw accepted.2 refl;
    })

pub returns-clause-stands : goal.returns-clause-stands
returns-clause-stands c script past chosen =
    let pool = c.args.self.now in
    let gives = sym c.take_out.ensures.given ∙ c.unwrap-task.ensures in
    let rest : c.take_out.new.self ≡ taken_out pool.sequences c.args.seq = subst (λ o. OnSome o (c.take_out.new.self ≡ taken_out pool.sequences c.args.seq))
    c.unwrap-task.ensures c.take_out.ensures.taken in
    let posting = taken_posting_is chosen gives c.posting-posting.ensures in
    let priority : c.index-priority.result.now ≡ priority_of script past chosen.head.posted.home = c.index-priority.ensures ∙ rw (c.refresh.ensures, posting)
    (get_or_from_slice_get pool.priorities.items chosen.head.posted.home (priority_of script past chosen.head.posted.home) c.index-priority.result.now
    (taken_priority chosen)) in
    let groups : c.started.new.self ≡ working script pool.groups c.args.seat (priority_of script past chosen.head.posted.home) =
    rw (c.started.ensures, c.background.ensures, priority, c.refresh.ensures, chosen.can.stands.runners) refl in
    rw (groups, c.started-2.ensures, c.refresh.ensures, rest, posting, taken_is chosen gives) (stands_at_take script past pool c.args.seat c.args.seq chosen)
