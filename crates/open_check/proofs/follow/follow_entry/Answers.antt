use Rattle.std.proofs.Common.{ap, subst, sym, ◌∙◌}
use Rattle.std.specs.Prelude.{Ok, Err}
use Rattle.std.proofs.lemmas.Bool.{both_ways}
use Rattle.live_core.specs.Answers.{Gives}
use Rattle.live_core.specs.Calls.{seat_of}
use Rattle.open_check.proofs.Following.{follows_not, follows_other, follows_same, follows_unmade}
use Rattle.open_check.proofs.follow.follow_entry.Goals as goal

pub returns-then-seat-entry : goal.returns-then-seat-entry
returns-then-seat-entry c = λ plan past stands few. follows_not plan past c.args.entry c.args.live.now stands
    (λ own. c.if-seat-entry.true (c.seat.ensures ∙ ap seat_of c.of_entry-call.ensures ∙ own))

pub returns-then-same_kind : goal.returns-then-same_kind
returns-then-same_kind c = λ plan past stands few.
    let own = sym (ap seat_of c.of_entry-call.ensures) ∙ sym c.seat.ensures ∙ c.if-seat-entry.false in
    follows_same plan past c.args.live.now c.call.new.self c.args.entry c.in-Ok.kind own (c.same_kind.ensures.0 c.if-same_kind.true)
    (subst (λ call. Gives plan past call c.args.live.now c.call.new.self (Ok c.in-Ok.kind)) c.of_entry-call.ensures (c.in-Ok.ensures plan past stands))

pub returns-else-same_kind : goal.returns-else-same_kind
returns-else-same_kind c = λ plan past stands few.
    let own = sym (ap seat_of c.of_entry-call.ensures) ∙ sym c.seat.ensures ∙ c.if-seat-entry.false in
    follows_other plan past c.args.live.now c.call.new.self c.args.entry c.in-Ok.kind stands few own
    (λ same. both_ways c.same_kind.result c.if-same_kind.false (c.same_kind.ensures.1 same))
    (subst (λ call. Gives plan past call c.args.live.now c.call.new.self (Ok c.in-Ok.kind)) c.of_entry-call.ensures (c.in-Ok.ensures plan past stands))

pub returns-in-Err : goal.returns-in-Err
returns-in-Err c = λ plan past stands few.
    let own = sym (ap seat_of c.of_entry-call.ensures) ∙ sym c.seat.ensures ∙ c.if-seat-entry.false in
    follows_unmade plan past c.args.live.now c.call.new.self c.args.entry c.in-Err.why stands few own
    (subst (λ call. Gives plan past call c.args.live.now c.call.new.self (Err c.in-Err.why)) c.of_entry-call.ensures (c.in-Err.ensures plan past stands))
