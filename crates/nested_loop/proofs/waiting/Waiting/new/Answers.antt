use Rattle.std.proofs.Common.{[], refl, sym, subst}
use Rattle.sequence_manager.specs.Pasts.{IsMainScript}
use Rattle.sequence_manager.specs.StandsFor.{StandsFor}
use Rattle.nested_loop.proofs.Kept.{keeps_at_start}
use Rattle.nested_loop.proofs.MainScript.{is_main_script}
use Rattle.nested_loop.proofs.waiting.Waiting.new.Goals as goal

pub new-requires : goal.new-requires
new-requires c = subst IsMainScript (sym c.in_ok-script.ensures) (is_main_script c.args.nest.now c.requires)

pub returns : goal.returns
returns c = keeps_at_start c.args.nest.now (record { queues = c.in_ok-queues.queues; place = 0 })
    (subst (λ script. StandsFor script [] c.in_ok-queues.queues) c.in_ok-script.ensures c.in_ok-queues.ensures) refl
