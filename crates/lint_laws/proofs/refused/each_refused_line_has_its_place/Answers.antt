use Rattle.lint_laws.proofs.RefusedLines.{refused_told}
use Rattle.lint_laws.proofs.refused.each_refused_line_has_its_place.Goals as goal

pub returns : goal.returns
returns c = refused_told
