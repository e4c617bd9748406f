use Rattle.std.proofs.Common.{refl, ◌∙◌}
use Rattle.script_model.specs.Places.{kind_named}
use Rattle.line_words.proofs.keywords.kind_named.Goals as goal

pub returns-in-Some : goal.returns-in-Some
unfolding kind_named
returns-in-Some c = rw c.in-Some.ensures.cases.0 (c.single_named.ensures ∙ rw c.in-Some.ensures.cases.1 refl)

pub returns-in-None : goal.returns-in-None
unfolding kind_named
returns-in-None c = rw c.in-None.ensures.cases (c.ok_or.ensures.value ∙ rw c.many_named.ensures refl)
