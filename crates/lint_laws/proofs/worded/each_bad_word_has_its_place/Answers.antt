use Rattle.lint_laws.proofs.EachLine.{ascii_found, line_found}
use Rattle.lint_laws.proofs.RightPlaces.{place_is_right, reason_is_right}
use Rattle.lint_laws.proofs.worded.each_bad_word_has_its_place.Goals as goal

pub returns-clause-ascii : goal.returns-clause-ascii
returns-clause-ascii c = ascii_found

pub returns-clause-place : goal.returns-clause-place
returns-clause-place c = line_found

pub returns-clause-right : goal.returns-clause-right
returns-clause-right c = place_is_right

pub returns-clause-same : goal.returns-clause-same
returns-clause-same c = reason_is_right
