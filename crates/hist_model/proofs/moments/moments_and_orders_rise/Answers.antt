use Rattle.queue_laws.proofs.Distinct.{ripened_in_order}
use Rattle.hist_model.proofs.Laws.Rising.{legal_rises, orders_are_distinct}
use Rattle.hist_model.proofs.moments.moments_and_orders_rise.Goals as goal

pub returns-clause-rises : goal.returns-clause-rises
returns-clause-rises c = legal_rises

pub returns-clause-distinct : goal.returns-clause-distinct
returns-clause-distinct c = orders_are_distinct

pub returns-clause-ripened : goal.returns-clause-ripened
returns-clause-ripened c script past e p q moment m n legal = ripened_in_order past e p q moment m n (legal_rises script past legal).no_tick_ahead
