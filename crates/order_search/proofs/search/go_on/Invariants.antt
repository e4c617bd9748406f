use Rattle.order_search.specs.Search.{known_of}
use Rattle.order_search.proofs.search.go_on.Given as goal

abbrev pub ghost-is_order : goal.ghost-is_order
ghost-is_order g a = known_of g.task a.self.now

abbrev pub ghost-try_head : goal.ghost-try_head
ghost-try_head g a = known_of g.task a.self.now

abbrev pub ghost-back : goal.ghost-back
ghost-back g a = known_of g.task a.self.now
