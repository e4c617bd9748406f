use Rattle.std.proofs.Common.{refl, rules, sym, ◌∙◌}
use Rattle.live_roster.proofs.Rousing.{all_named, kept_where_none, kept_while_on, none_named, one_named}
use Rattle.live_roster.proofs.roster.LiveRoster.rouse.Goals as goal

pub returns-then-not-self : goal.returns-then-not-self
returns-then-not-self c = λ plan past has.
    none_named has (kept_where_none plan past c.args.self.now.wish c.args.self.now.notes.items (has.nobody c.if-not-self.true))

pub returns-then-is_done : goal.returns-then-is_done
returns-then-is_done c = λ plan past has.
    all_named has (sym (c.is_done.ensures plan past has.core) ∙ c.if-is_done.true) refl refl (search (rules, c.fill.ensures))

pub returns-in_default : goal.returns-in_default
returns-in_default c = λ plan past has.
    none_named has (kept_while_on plan past c.args.self.now.wish c.args.self.now.notes.items
    (sym (c.is_done.ensures plan past has.core) ∙ c.if-is_done.false) (c.in_default.ensures.none plan past has))

pub returns : goal.returns
returns c = λ plan past has.
    rw c.new.ensures (one_named c.in-Some.seat has (sym (c.is_done.ensures plan past has.core) ∙ c.if-is_done.false) (c.in-Some.ensures.some plan past has)
    refl refl refl c.has_resting-self.ensures)
