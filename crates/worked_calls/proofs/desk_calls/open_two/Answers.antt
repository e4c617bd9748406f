use Rattle.worked_calls.proofs.Seated.{splits_first, splits_second}
use Rattle.worked_calls.proofs.desk_calls.open_two.Goals as goal

pub returns-clause-first : goal.returns-clause-first
returns-clause-first c =
    splits_first c.in_ok-shared.shared 1 c.in_ok-shared.first c.split-first.result.0 c.in_ok-shared.ensures.seat c.split-first.ensures.first

pub returns-clause-second : goal.returns-clause-second
returns-clause-second c =
    splits_second c.in_ok-shared.shared 1 c.in_ok-shared.first c.split-first.result.1 c.in_ok-shared.ensures.seat c.split-first.ensures.second
