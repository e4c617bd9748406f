use Rattle.app_modes.proofs.explain.said_of_bad.Goals as goal

pub returns-then-json : goal.returns-then-json
returns-then-json c = rw c.if-json.true (rw (c.in_ok-mistake.ensures, c.lines_before.ensures, c.version_of.ensures) at c.mistake_json.ensures)
