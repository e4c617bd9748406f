use Rattle.entry_lines.proofs.PlainWords.{behind_place}
use Rattle.entry_lines.proofs.spelling.entry_behind_place.Goals as goal

pub returns-clause-parts : goal.returns-clause-parts
returns-clause-parts c = behind_place c.args.words.now _ _ _ c.in-len2-up.len_at_least c.in_ok-seat.ensures.text c.in_ok-kind.ensures.words
