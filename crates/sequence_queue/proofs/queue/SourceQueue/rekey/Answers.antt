use Rattle.std.proofs.Common.{◌≡◌, Option, Some, arith, sym, ap, subst}
use Rattle.std.proofs.lemmas.Bool.{eqb-true}
use Rattle.std.proofs.lemmas.List.{set-get_or}
use Rattle.std.specs.Prelude.{None}
use Rattle.task_base.specs.declared.source.TaskSource.{TaskSource}
use Rattle.sequence_queue.specs.declared.rank.Rank.{Rank}
use Rattle.sequence_queue.specs.Ranked.{Ranked, number_of, rank_of, with_rank}
use Rattle.sequence_queue.proofs.queue.SourceQueue.rekey.Goals as goal

-- a source that is given the rank that it has
kept : (q : Ranked) (source : TaskSource) (rank : Rank) → rank_of q source ≡ Some rank → q ≡ with_rank q source (Some rank)
kept q source rank is = subst (λ (r : Option Rank). q ≡ with_rank q source r) is
    (ap (λ ranks. record q { ranks = ranks }) (sym (set-get_or q.ranks (number_of q source) None)))

pub returns-else-ne-clause-held : goal.returns-else-ne-clause-held
returns-else-ne-clause-held c said =
    let same : c.in-Some.held ≡ c.args.rank = grind (arith, eqb-true) in
    kept c.args.self.now c.args.source c.args.rank (grind arith)
