use Rattle.pool_core.proofs.Accepted.{posts_leave_room}
use Rattle.pool_core.proofs.Delays.{few_unripe, other_posts}
use Rattle.pool_core.proofs.Calls.Posts.{can_arrive, effective_as, stands_at_delayed_post, stands_at_post, stands_at_refusal}
use Rattle.pool_core.proofs.Tracking.{few_blockers}
use Rattle.pool_core.specs.Tables.{ripening_of, unripe}
use Rattle.std.proofs.Common.{Bool, ap, arith, false, le-ltb, lt-ltb, not, refl, true, ◌∙◌, ◌≡◌}
use Rattle.std.proofs.lemmas.List.{length-map}
use Rattle.task_model.specs.Refusal.{effective_at, is_refused}
use Rattle.task_traits.specs.Behaviour.{forbids}
use Rattle.pool_core.proofs.pool.Pool.post.Goals as goal

pub accept-requires : goal.accept-requires
accept-requires c =
    let stands = c.requires.2.stands in
    record { room = rw stands.tracker (few_blockers c.requires.0 c.requires.1 stands.script_fits stands.past_fits) }

pub returns-then-not-accept-clause-stands : goal.returns-then-not-accept-clause-stands
returns-then-not-accept-clause-stands c script past seat can =
    rw (c.if-not-accept.ensures.refused) (stands_at_refusal script past c.args.self.now seat c.args.place c.args.task c.args.runner c.args.delay can)

pub add-requires-clause-room : goal.add-requires-clause-room
add-requires-clause-room c =
    let can = c.requires.2 in
    rw (can.stands.delayed, length-map (unripe c.requires.1) ripening_of) (omega (
      arith,
      few_unripe c.requires.1,
      posts_leave_room c.requires.0 c.requires.1 c.args.task can.stands.past_fits can.task_declared can.is_new,
    ))

pub add-requires-clause-differs : goal.add-requires-clause-differs
add-requires-clause-differs c = let can = c.requires.2 in rw (can.stands.delayed, can.place_is) (other_posts c.requires.1)

pub arrive-requires : goal.arrive-requires
arrive-requires c =
    let can = c.requires.2 in
    rw (c.effective.ensures
    ∙ effective_as c.requires.0 c.args.self.now c.args.runner c.args.delay c.traits_of.result can.stands.runners c.traits_of.ensures)
    (can_arrive c.requires.0 c.requires.1 c.args.self.now c.args.place c.args.task c.args.runner c.args.delay c.accept.new.self can
    (le-ltb 0 c.args.delay c.if-delay-gt0.false))

pub returns-then-delay-gt0-clause-stands : goal.returns-then-delay-gt0-clause-stands
returns-then-delay-gt0-clause-stands c script past seat can =
    rw (
      c.add.ensures,
      c.if-not-accept.ensures.counted,
      c.effective.ensures
          ∙ effective_as script c.args.self.now c.args.runner c.args.delay c.traits_of.result can.stands.runners c.traits_of.ensures,
    )
    (stands_at_delayed_post script past c.args.self.now seat c.args.place c.args.task c.args.runner c.args.delay can
    (lt-ltb 0 c.args.delay c.if-delay-gt0.true))

pub returns-else-delay-gt0-clause-stands : goal.returns-else-delay-gt0-clause-stands
returns-else-delay-gt0-clause-stands c script past seat can =
    let effective : c.effective.result ≡ effective_at script c.args.runner c.args.delay = c.effective.ensures
    ∙ effective_as script c.args.self.now c.args.runner c.args.delay c.traits_of.result can.stands.runners c.traits_of.ensures in
    let allowed : is_refused script past c.args.runner c.args.delay ≡ false =
    rw (← ap (λ t. t.phase) can.stands.tracker, ← effective)
    (not_refused (forbids c.args.self.now.tracker.phase c.effective.result) c.if-not-accept.ensures.answer) in
    rw (c.arrive.ensures, c.if-not-accept.ensures.counted, effective)
    (stands_at_post script past c.args.self.now seat c.args.place c.args.task c.args.runner c.args.delay can
    (le-ltb 0 c.args.delay c.if-delay-gt0.false) allowed)
  where
    not_refused : (b : Bool) → true ≡ not b → b ≡ false
    not_refused true is = is
    not_refused false is = refl
