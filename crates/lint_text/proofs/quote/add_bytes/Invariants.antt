use Rattle.std.proofs.Common.{◌≡◌, drop}
use Rattle.lint_text.specs.Quote.{said_on}
use Rattle.lint_text.proofs.quote.add_bytes.Given as goal

abbrev pub invariant-loop-byte : goal.invariant-loop-byte
invariant-loop-byte l = said_on l.text.items (drop l.byte-index l.bytes) ≡ said_on l.initial.text.items l.bytes
