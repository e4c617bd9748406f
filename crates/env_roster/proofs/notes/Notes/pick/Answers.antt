use Rattle.std.proofs.Common.{sym, ◌∙◌}
use Rattle.env_roster.proofs.Resting.{driver_found, none_found, not_found, own_handed, pick_found, pick_own}
use Rattle.env_roster.proofs.notes.Notes.pick.Goals as goal

pub returns-then-not-is_any_ready-clause-some : goal.returns-then-not-is_any_ready-clause-some
returns-then-not-is_any_ready-clause-some g c =
    driver_found c.args.env.now.script c.args.env.now.history c.args.self.now c.driver.result (sym c.is_any_ready.ensures ∙ c.if-not-is_any_ready.true)
    c.requires.seats c.driver.ensures.some

pub returns-then-not-is_any_ready-clause-all : goal.returns-then-not-is_any_ready-clause-all
returns-then-not-is_any_ready-clause-all g c =
    none_found c.args.env.now.script c.args.env.now.history c.args.self.now c.driver.result (sym c.is_any_ready.ensures ∙ c.if-not-is_any_ready.true)
    c.requires.seats c.driver.ensures.none

pub returns-then-not-is_any_ready-clause-own : goal.returns-then-not-is_any_ready-clause-own
returns-then-not-is_any_ready-clause-own g c =
    own_handed c.args.env.now.script c.args.env.now.history c.args.self.now c.driver.result (sym c.is_any_ready.ensures ∙ c.if-not-is_any_ready.true)
    c.requires.seats

pub returns-in-Some-clause-some : goal.returns-in-Some-clause-some
returns-in-Some-clause-some g c =
    pick_own c.args.env.now.script c.args.env.now.history c.args.self.now c.in-Some.seat c.in-Some.ensures.found

pub returns-clause-some : goal.returns-clause-some
returns-clause-some g c =
    pick_found c.args.env.now.script c.args.env.now.history c.args.self.now c.find-3.result c.in_default.ensures.none
    (not_found c.find-2.result (sym c.is_some.ensures ∙ c.if-is_some.false) c.find-2.ensures.none) c.find-3.ensures.found
