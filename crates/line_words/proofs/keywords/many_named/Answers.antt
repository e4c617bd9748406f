use Rattle.std.proofs.Common.{rules, arith, refl}
use Rattle.std.specs.Prelude.{codes}
use Rattle.std.proofs.lemmas.Slice.Eq.{text_from_reads}
use Rattle.line_words.proofs.keywords.many_named.Goals as goal

pub returns-in-parallel : goal.returns-in-parallel
returns-in-parallel c = rw (text_from_reads c.args.word.now (codes "parallel") (omega arith) (search rules)) refl

pub returns-in-sequenced : goal.returns-in-sequenced
returns-in-sequenced c = rw (text_from_reads c.args.word.now (codes "sequenced") (omega arith) (search rules)) refl
