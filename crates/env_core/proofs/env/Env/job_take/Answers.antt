use Rattle.env_core.proofs.Entries.{holds_at_pool, holds_still}
use Rattle.call_laws.proofs.Jobs.{has_got, has_got_none}
use Rattle.env_core.proofs.JobCalls.{can_join, may_go_in}
use Rattle.env_core.proofs.Own.{pass_is_own}
use Rattle.env_core.specs.Calls.{IsWantedNext}
use Rattle.pool_core.specs.StandsFor.{StandsFor}
use Rattle.std.proofs.Common.{[], refl, subst, sym, ◌++◌, ◌∷◌}
use Rattle.task_base.specs.declared.entry.Kind.TheVariants as kinds
use Rattle.env_core.proofs.env.Env.job_take.Goals as goal

pub job_take-requires : goal.job_take-requires
job_take-requires g c = (_, _, can_join c.self.invariant c.args.seat c.args.job (λ id item. rw c.self.view_is (c.requires id item)))

pub invariant_of-self : goal.invariant_of-self
invariant_of-self g c =
    let can = can_join c.self.invariant c.args.seat c.args.job (λ id item. rw c.self.view_is (c.requires id item)) in
    holds_still c.self.invariant (c.in_err-id.ensures.stands _ _ can)

pub returns-in_err-id : goal.returns-in_err-id
returns-in_err-id g c =
    let view = c.self.inside.ledger in
    let can = can_join c.self.invariant c.args.seat c.args.job (λ id item. rw c.self.view_is (c.requires id item)) in
    rw (c.from_residual.ensures, ← c.self.view_is) (record {
      barred = has_got_none view.script view.history c.args.job (c.in_err-id.ensures.answer _ _ can);
      kept = refl;
    })

pub enter-requires : goal.enter-requires
enter-requires g c =
    let view = c.self.inside.ledger in
    let can = can_join c.self.invariant c.args.seat c.args.job (λ id item. rw c.self.view_is (c.requires id item)) in
    let wanted : IsWantedNext view c.args.seat (kinds.JobTake c.args.job c.in_ok-id.id c.in_ok-id.item) =
    rw c.self.view_is (c.requires c.in_ok-id.id c.in_ok-id.item) in
    may_go_in wanted (has_got view.script view.history c.args.job c.in_ok-id.id c.in_ok-id.item (c.in_ok-id.ensures.answer _ _ can))

pub invariant_of-self-2 : goal.invariant_of-self-2
invariant_of-self-2 g c =
    let view = c.self.inside.ledger in
    let can = can_join c.self.invariant c.args.seat c.args.job (λ id item. rw c.self.view_is (c.requires id item)) in
    let wanted : IsWantedNext view c.args.seat (kinds.JobTake c.args.job c.in_ok-id.id c.in_ok-id.item) =
    rw c.self.view_is (c.requires c.in_ok-id.id c.in_ok-id.item) in
    holds_at_pool c.self.invariant c.enter.ensures refl (λ t. refl)
    (subst (λ s. StandsFor view.script (view.history ++ (record {
      seat = s;
      kind = kinds.JobTake c.args.job c.in_ok-id.id c.in_ok-id.item;
    }) ∷ []) c.job_take.new.self) (sym wanted.driver) (c.in_ok-id.ensures.stands _ _ can))

pub returns : goal.returns
returns g c =
    let view = c.self.inside.ledger in
    let can = can_join c.self.invariant c.args.seat c.args.job (λ id item. rw c.self.view_is (c.requires id item)) in
    let got = has_got view.script view.history c.args.job c.in_ok-id.id c.in_ok-id.item (c.in_ok-id.ensures.answer _ _ can) in
    rw (c.new.ensures, ← c.self.view_is) (record {
      job_is = refl;
      goes_in = record {
        enters = c.enter.ensures;
        may = got.may;
        id_is = got.id_is;
        item_is = got.item_is;
        seats = pass_is_own view c.enter.new.self c.args.seat (kinds.JobTake c.args.job c.in_ok-id.id c.in_ok-id.item)
            (record { job = c.args.job; id = c.in_ok-id.id; item = c.in_ok-id.item }) c.enter.ensures (λ old. refl);
      };
    })
