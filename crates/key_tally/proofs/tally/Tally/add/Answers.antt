use Rattle.std.proofs.Common.{ap, ◌∙◌, sym}
use Rattle.std.specs.Map.{set_value}
use Rattle.std.proofs.lemmas.Map.Steps.{set_value_same}
use Rattle.std.proofs.lemmas.Result.{on_ok_weaker, on_err_weaker}
use Rattle.indexmap.specs.IndexMap.{insert_entry}
use Rattle.key_tally.specs.Counts.{with_more}
use Rattle.key_tally.proofs.Counts.{set_value-more, insert_entry-more}
use Rattle.key_tally.proofs.tally.Tally.add.Goals as goal

pub returns-in-Some-clause-ok : goal.returns-in-Some-clause-ok
returns-in-Some-clause-ok g c =
    on_ok_weaker c.add.result
    (λ is. (c.get_mut.follows.holds c.add.new.self).0 ∙ ap (λ n. set_value (g.K.PartialEq.eq c.args.key) c.self.inside.counts.entries n) is
    ∙ set_value-more g.K.PartialEq.eq c.args.key c.in-Some.known.now c.args.more.now c.self.inside.counts.entries (sym c.in-Some.ensures.value)
    ∙ ap (λ es. with_more g.K.PartialEq.eq c.args.key c.args.more.now es) c.self.view_is)
    c.add.ensures.ok

pub returns-in-Some-clause-err : goal.returns-in-Some-clause-err
returns-in-Some-clause-err g c =
    on_err_weaker c.add.result
    (λ is. (c.get_mut.follows.holds c.add.new.self).0 ∙ ap (λ n. set_value (g.K.PartialEq.eq c.args.key) c.self.inside.counts.entries n) is
    ∙ set_value_same (g.K.PartialEq.eq c.args.key) c.self.inside.counts.entries c.in-Some.known.now (sym c.in-Some.ensures.value) ∙ c.self.view_is)
    c.add.ensures.err

pub returns-in-None-clause-ok : goal.returns-in-None-clause-ok
returns-in-None-clause-ok g c =
    on_ok_weaker c.bring.result
    (λ is. is ∙ ap (λ es. insert_entry g.K.PartialEq.eq es c.args.key c.args.more.now) (ap (λ m. m.entries) c.get_mut.follows.holds-at-none)
    ∙ insert_entry-more g.K.PartialEq.eq c.args.key c.args.more.now c.self.inside.counts.entries (sym c.in-None.ensures.value)
    ∙ ap (λ es. with_more g.K.PartialEq.eq c.args.key c.args.more.now es) c.self.view_is)
    c.bring.ensures.ok
