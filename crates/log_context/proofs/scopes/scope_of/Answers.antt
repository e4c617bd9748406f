use Rattle.std.proofs.Common.{◌∙◌, ap, arith, refl, take}
use Rattle.std.proofs.lemmas.List.{take_all}
use Rattle.task_model.specs.Capacity.{open_scope}
use Rattle.task_model.specs.Past.{fold_past}
use Rattle.task_model.specs.Time.{now_of}
use Rattle.log_context.proofs.Working.{moment_more, scope_more}
use Rattle.log_context.proofs.scopes.scope_of.Goals as goal

pub loop-entry-init : goal.loop-entry-init
unfolding open_scope fold_past now_of
loop-entry-init c = record { found_is = refl; moment_is = refl }

pub loop-entry-preserved : goal.loop-entry-preserved
loop-entry-preserved c =
    let i = c.loop-entry.entry-index in
    let past = c.args.past.now in
    let now = c.loop-entry.invariant in
    record {
      found_is = scope_more past c.args.task i _ _ _ c.loop-entry-test.true now.found_is (c.scope_after-found.ensures (take i past) now.moment_is);
      moment_is = moment_more past i _ _ _ c.loop-entry-test.true now.moment_is c.moment_after-moment.ensures;
    }

pub returns : goal.returns
returns c = c.loop-entry.invariant.found_is
    ∙ ap (λ l. open_scope l c.args.task) (take_all c.loop-entry.entry-index c.args.past.now (omega (arith, c.loop-entry-test.false)))
