use Rattle.std.proofs.Common.{◌≡◌, ◌<◌, ◌∙◌, ap, arith, length, subst, sym, Some, None}
use Rattle.std.specs.Prelude.{is_some, slice_get, unwrap_or}
use Rattle.std.proofs.lemmas.Option.{slice_get-get_or}
use Rattle.env_core.specs.Views.{EnvView}
use Rattle.env_core.proofs.env.Env.has_body.Goals as goal

pub index-requires : goal.index-requires
index-requires g c =
    let declared = subst (λ (v : EnvView). c.args.task < length v.script.tasks) (sym c.self.view_is) c.requires in
    omega (arith, declared, c.self.invariant.drawer.all, c.self.inside.bodies.ok.0)

pub returns : goal.returns
returns g c =
    let bodies = c.self.inside.bodies.items in
    let declared = subst (λ (v : EnvView). c.args.task < length v.script.tasks) (sym c.self.view_is) c.requires in
    let there : slice_get bodies c.args.task ≡ Some c.index.result.now
    = slice_get-get_or bodies c.args.task c.index.result.now (omega (arith, declared, c.self.invariant.drawer.all)) ∙ ap (λ x. Some x) (sym c.index.ensures) in
    rw (← c.self.view_is) (c.is_some.ensures ∙ ap (λ o. is_some (unwrap_or o None)) (sym there) ∙ c.self.invariant.drawer.held c.args.task declared)
