use Rattle.std.proofs.Common.{refl}
use Rattle.task_base.specs.declared.entry.Kind.TheVariants as kinds
use Rattle.worked_calls.proofs.Seated.{acted_own}
use Rattle.worked_calls.proofs.desk_calls.enter.Goals as goal

pub returns-clause-own : goal.returns-clause-own
returns-clause-own g c = acted_own (λ t. kinds.Enter t c.args.scope) (λ t. refl) c.act.ensures.holds c.act.ensures.answered
