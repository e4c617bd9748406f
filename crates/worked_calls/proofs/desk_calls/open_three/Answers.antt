use Rattle.worked_calls.proofs.Seated.{splits_first, splits_second}
use Rattle.worked_calls.proofs.desk_calls.open_three.Goals as goal

pub returns-clause-first : goal.returns-clause-first
returns-clause-first c =
    let key = c.in_ok-shared.shared in
    let seat = splits_first key 1 c.in_ok-shared.first c.split-first.result.0 c.in_ok-shared.ensures.seat c.split-first.ensures.first in
    splits_first key 2 c.split-first.result.0 c.split-first-2.result.0 seat c.split-first-2.ensures.first

pub returns-clause-one : goal.returns-clause-one
returns-clause-one c =
    splits_second c.in_ok-shared.shared 1 c.in_ok-shared.first c.split-first.result.1 c.in_ok-shared.ensures.seat c.split-first.ensures.second

pub returns-clause-two : goal.returns-clause-two
returns-clause-two c =
    let key = c.in_ok-shared.shared in
    let seat = splits_first key 1 c.in_ok-shared.first c.split-first.result.0 c.in_ok-shared.ensures.seat c.split-first.ensures.first in
    splits_second key 2 c.split-first.result.0 c.split-first-2.result.1 seat c.split-first-2.ensures.second
