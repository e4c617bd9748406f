use Rattle.std.proofs.Common.{rules, refl, sym, ap, subst, ◌∙◌, append-nil, map, ◌++◌}
use Rattle.turn_table.specs.Seats.{Rising}
use Rattle.turn_table.specs.Views.{kept_seat}
use Rattle.turn_table.proofs.Closes.{kept_last, rising_last, view_with}
use Rattle.turn_table.proofs.turnstile.Turnstile.join_all.Goals as goal

pub loop-other-init : goal.loop-other-init
loop-other-init g c = record {
  table_is = refl;
  slots_are = refl;
  view_is = refl;
  rising = c.requires.rest;
  all = sym (append-nil (map kept_seat c.args.rest.items)) ∙ ap (λ k. map kept_seat c.args.rest.items ++ k) (sym c.requires.idle.1);
}

pub join-requires-clause-other : goal.join-requires-clause-other
join-requires-clause-other g c =
    (rising_last c.args.self.now 1 c.pop.new.self.items c.in-Some.other
    (subst (Rising c.args.self.now 1) c.in-Some.ensures.items c.loop-other.invariant.rising)).1

pub loop-other-preserved : goal.loop-other-preserved
loop-other-preserved g c =
    let before = c.loop-other.invariant in
    let view = c.join.ensures.view in
    let kept = ap (λ v. v.kept) view in
    record {
      table_is = search rules;
      slots_are = search rules;
      view_is = view_with c.args.first.now.me.0 c.loop-other.first.me.0 c.join.new.first.me.0 _ before.view_is view;
      rising = (rising_last c.args.self.now 1 c.pop.new.self.items c.in-Some.other (subst (Rising c.args.self.now 1) c.in-Some.ensures.items before.rising)).0;
      all = before.all ∙ ap (λ l. map kept_seat l ++ c.loop-other.first.me.0.kept) c.in-Some.ensures.items
          ∙ kept_last c.pop.new.self.items c.in-Some.other c.loop-other.first.me.0.kept ∙ ap (λ k. map kept_seat c.pop.new.self.items ++ k) (sym kept);
    }
