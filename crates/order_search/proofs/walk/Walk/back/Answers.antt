use Rattle.std.proofs.Common.{◌≡◌, ◌^◌, ◌<◌, ◌++◌, ◌∷◌, [], ap, arith, length, refl}
use Rattle.std.proofs.lemmas.Grind.{common_steps}
use Rattle.std.proofs.lemmas.List.{length-append}
use Rattle.hist_model.specs.Legal.{IsLegal}
use Rattle.order_model.specs.Orders.{entries_of}
use Rattle.order_model.specs.Plans.{plan_of}
use Rattle.order_search.specs.Search.{IsWalk}
use Rattle.order_search.specs.Walk.{AllTried, IsRuledOut, events_in}
use Rattle.order_search.proofs.Steps.{all_ruled_out, few_here, legal_taken_off, place_taken_off, seat_taken_off, taken_off}
use Rattle.order_search.proofs.walk.Walk.back.Goals as goal

pub index_mut-requires : goal.index_mut-requires
index_mut-requires g c =
    let walk : IsWalk g.known c.args.self.now = c.requires.1.1.1.0 in
    let parts : c.args.self.now.path.items ≡ c.pop.new.self.items ++ c.in-Some.placed ∷ [] = c.in-Some.ensures.items in
    omega (arith, seat_taken_off c.pop.new.self.items c.in-Some.placed walk parts, c.args.self.now.heads.ok.0)

pub overflow_add-self : goal.overflow_add-self
overflow_add-self g c =
    let walk : IsWalk g.known c.args.self.now = c.requires.1.1.1.0 in
    let parts : c.args.self.now.path.items ≡ c.pop.new.self.items ++ c.in-Some.placed ∷ [] = c.in-Some.ensures.items in
    omega (arith, place_taken_off c.pop.new.self.items c.in-Some.placed walk parts)

pub follow_anew-requires-clause-legal : goal.follow_anew-requires-clause-legal
follow_anew-requires-clause-legal g c =
    let walk : IsWalk g.known c.args.self.now = c.requires.1.1.1.0 in
    let same : g.known.task.script ≡ plan_of c.args.kind c.args.script.now = c.requires.1.1.0 in
    let parts : c.args.self.now.path.items ≡ c.pop.new.self.items ++ c.in-Some.placed ∷ [] = c.in-Some.ensures.items in
    let legal : IsLegal (plan_of c.args.kind c.args.script.now) (entries_of (events_in c.pop.new.self.items)) =
    rw (← same) (legal_taken_off c.pop.new.self.items c.in-Some.placed walk parts) in
    rw c.deref.ensures.value legal

pub follow_anew-requires-clause-few : goal.follow_anew-requires-clause-few
follow_anew-requires-clause-few g c =
    let walk : IsWalk g.known c.args.self.now = c.requires.1.1.1.0 in
    let parts : c.args.self.now.path.items ≡ c.pop.new.self.items ++ c.in-Some.placed ∷ [] = c.in-Some.ensures.items in
    let few : length c.pop.new.self.items < 2 ^ 32 =
    omega (arith, few_here walk, walk.is.few, ap length parts, length-append c.pop.new.self.items (c.in-Some.placed ∷ [])) in
    rw c.deref.ensures.value few

pub returns-in_ok-follow_anew-in-Some : goal.returns-in_ok-follow_anew-in-Some
returns-in_ok-follow_anew-in-Some g c =
    let walk : IsWalk g.known c.args.self.now = c.requires.1.1.1.0 in
    let same : g.known.task.script ≡ plan_of c.args.kind c.args.script.now = c.requires.1.1.0 in
    let tried : AllTried g.known.task c.args.self.now.heads.items c.args.self.now.start = c.requires.1.1.1.1.0 in
    let ruled : IsRuledOut g.known.task g.known.longest (events_in c.args.self.now.path.items) = c.requires.1.1.1.1.1 in
    let parts : c.args.self.now.path.items ≡ c.pop.new.self.items ++ c.in-Some.placed ∷ [] = c.in-Some.ensures.items in
    record {
      best = refl;
      goes_on = λ went. taken_off c.pop.new.self.items c.in-Some.placed walk parts tried ruled _ refl _
          (rw (same, ← c.deref.ensures.value) c.in_ok-follow_anew-in-Some.ensures);
      none = λ went. absurd cc;
      longest = λ went. absurd cc;
    }

pub returns-in-None : goal.returns-in-None
returns-in-None g c =
    let walk : IsWalk g.known c.args.self.now = c.requires.1.1.1.0 in
    let tried : AllTried g.known.task c.args.self.now.heads.items c.args.self.now.start = c.requires.1.1.1.1.0 in
    let ruled : IsRuledOut g.known.task g.known.longest (events_in c.args.self.now.path.items) = c.requires.1.1.1.1.1 in
    let none : c.args.self.now.path.items ≡ [] = grind (arith, common_steps, c.in-None.ensures.items, c.in-None.ensures.len, c.in-None.ensures.cases) in
    record {
      best = refl;
      goes_on = λ went. absurd cc;
      none = λ went events order. (all_ruled_out walk none tried ruled events [] order.begins).none order;
      longest = λ went others left begins. (all_ruled_out walk none tried ruled others left begins).short left begins;
    }
