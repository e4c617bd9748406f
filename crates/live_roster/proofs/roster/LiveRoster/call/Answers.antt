use Rattle.std.proofs.Common.{refl}
use Rattle.live_core.specs.Histories.{with_answer}
use Rattle.live_roster.proofs.Rousing.{awake_still, call_gives, core_stands}
use Rattle.live_roster.proofs.roster.LiveRoster.call.Goals as goal

pub call-answer-requires : goal.call-answer-requires
call-answer-requires c = (c.requires.0, c.requires.1, c.requires.2.noted.core)

pub rouse-requires : goal.rouse-requires
rouse-requires c =
    let stands = c.requires.2 in (
      c.requires.0,
      with_answer c.requires.1 c.args.call c.call-answer.result,
      awake_still c.args.by stands.noted (core_stands c.requires.0 c.requires.1 c.args.call _ _ _ stands.noted.core
          (c.call-answer.ensures c.requires.0 c.requires.1 stands.noted.core)) c.note_seat.ensures refl,
    )

pub returns : goal.returns
returns c = λ plan past stands.
    let gives = c.call-answer.ensures plan past stands.noted.core in
    call_gives _ _ gives c.note_seat.ensures (c.rouse.ensures plan (with_answer past c.args.call c.call-answer.result)
    (awake_still c.args.by stands.noted (core_stands plan past c.args.call _ _ _ stands.noted.core gives) c.note_seat.ensures refl))
