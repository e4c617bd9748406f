-- The tasks of a sequence and of a main queue are taken in order.
-- Cited by `order.rt`.
use Rattle.std.proofs.Common.{List, take, sym, ap, ◌∙◌, arith}
use Rattle.std.specs.Prelude.{nat_lt}
use Rattle.task_base.specs.Plan.{Plan}
use Rattle.task_base.specs.Keys.{key_below}
use Rattle.task_base.specs.declared.entry.Entry.{Entry}
use Rattle.task_model.specs.Keys.{key_at}
use Rattle.hist_model.specs.Legal.{IsLegal}
use Rattle.hist_model.specs.Laws.Order.{TakenInOrder}
use Rattle.hist_model.proofs.Laws.Order.Keys.{posted_first, immediate_key, taking, keys_rise, has_key}
use Rattle.hist_model.proofs.Laws.Order.Draws.{main_taking}
use Rattle.hist_model.proofs.Laws.Order.Lanes.{orders_rise, drawn_first, has_order}

-- in every legal log the tasks of a sequence, and of a main queue, are taken in order
pub taken_in_order : (script : Plan) (log : List Entry) → IsLegal script log → TakenInOrder script log
taken_in_order script log legal = record {
  in_order = λ i j seat worker task other runner home value w less first second one.
      let a = taking script log i seat task runner value legal first in
      let b = taking script log j worker other home w legal second in
      let below = keys_rise script log i j seat worker task other runner home value w legal less first second one a b in
      record {
        first = has_key script log i task runner a;
        second = has_key script log j other home b;
        below = below;
        immediate = λ p_now q_now. posted_first a.p.place b.p.place
            (ap (λ k. key_below k (key_at b.p.place)) (immediate_key (take i log) a.p a.key p_now a.keyed)
            ∙ ap (key_below a.key) (immediate_key (take j log) b.p b.key q_now b.keyed) ∙ below);
      };
  main_in_order = λ i j seat driver task other queue value w less first second.
      let a = main_taking script log i seat task queue value legal first in
      let b = main_taking script log j driver other queue w legal second in
      record {
        first = has_order script log i task queue a;
        second = has_order script log j other queue b;
        below = λ one. orders_rise script log i j seat driver task other queue value w legal less first second a b one;
        immediate = λ a_now b_now. drawn_first script log i j task other queue (omega (arith, less)) a b a_now b_now
            (orders_rise script log i j seat driver task other queue value w legal less first second a b
            (ap (nat_lt 0) a_now ∙ ap (nat_lt 0) (sym b_now)));
      };
}
