use Rattle.lint_laws.proofs.CutLines.{line_at-cut, front_of-lines, front_of-read}
use Rattle.lint_laws.proofs.cut.the_bad_line_is_cut_out.Goals as goal

pub returns-clause-line : goal.returns-clause-line
returns-clause-line c = line_at-cut

pub returns-clause-front : goal.returns-clause-front
returns-clause-front c = front_of-lines

pub returns-clause-before : goal.returns-clause-before
returns-clause-before c = front_of-read
