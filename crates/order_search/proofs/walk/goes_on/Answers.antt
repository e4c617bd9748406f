use Rattle.order_search.proofs.walk.goes_on.Goals as goal

pub returns-in-Came-clause-goes_on : goal.returns-in-Came-clause-goes_on
returns-in-Came-clause-goes_on c = rw c.in-Came.is at (c.follow.ensures c.args.kind _ c.requires.follows c.requires.number).goes_on

pub returns-in-Stayed-clause-stays : goal.returns-in-Stayed-clause-stays
returns-in-Stayed-clause-stays c = λ no_entry. (c.follow.ensures c.args.kind _ c.requires.follows c.requires.number).stayed c.in-Stayed.is
