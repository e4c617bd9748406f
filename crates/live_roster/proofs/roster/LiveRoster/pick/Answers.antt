use Rattle.std.proofs.Common.{sym, ◌∙◌}
use Rattle.live_roster.proofs.Handing.{all_done, none_but_own, none_found, not_found, pick_found, pick_own, woken_found}
use Rattle.live_roster.proofs.roster.LiveRoster.pick.Goals as goal

pub returns-in-Some-clause-some : goal.returns-in-Some-clause-some
returns-in-Some-clause-some c = λ plan past has.
    pick_own plan past c.args.self.now.wish c.args.self.now.notes.items c.in-Some.seat (c.in-Some.ensures.found plan past has)

pub returns-then-not-is_any_ready-clause-none : goal.returns-then-not-is_any_ready-clause-none
returns-then-not-is_any_ready-clause-none c = λ plan past has.
    all_done plan past c.args.self.now.wish c.args.self.now.notes.items
    (none_but_own plan past c.args.self.now.wish c.args.self.now.notes.items
    (sym (c.is_any_ready.ensures plan past has.core) ∙ c.if-not-is_any_ready.true) (c.in_default.ensures.none plan past has))

pub returns-then-is_some-clause-none : goal.returns-then-is_some-clause-none
returns-then-is_some-clause-none c = λ plan past has.
    woken_found plan past c.args.self.now.wish c.args.self.now.notes.items c.find-2.result (c.in_default.ensures.none plan past has)
    (sym c.is_some.ensures ∙ c.if-is_some.true) (c.find-2.ensures.found plan past has)

pub returns-clause-some : goal.returns-clause-some
returns-clause-some c = λ plan past has.
    pick_found plan past c.args.self.now.wish c.args.self.now.notes.items c.find-3.result (c.in_default.ensures.none plan past has)
    (not_found c.find-2.result (sym c.is_some.ensures ∙ c.if-is_some.false) (c.find-2.ensures.none plan past has))
    (c.find-3.ensures.found plan past has)

pub returns-clause-none : goal.returns-clause-none
returns-clause-none c = λ plan past has.
    none_found plan past c.args.self.now.wish c.args.self.now.notes.items c.find-3.result (c.find-3.ensures.none plan past has)
