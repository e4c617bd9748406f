use Rattle.pool_core.proofs.Calls.Others.{stands_at_main, stands_at_still}
use Rattle.pool_core.proofs.laws.other_entries_keep_the_pool.Goals as goal

pub returns : goal.returns
returns c = record {
  still = λ script past pool e. stands_at_still script past e pool;
  main = λ script past pool e. stands_at_main script past e pool;
}
