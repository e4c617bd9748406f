-- The lines of a text, read one after the other, as a loop does.
-- Cited by `read_nest`.
use Rattle.std.proofs.Common.{◌≡◌, ℕ, ◌+◌, ◌<◌, eqb, List, length, get_or, drop, map, Some, Result, Ok, Err, refl}
use Rattle.std.specs.List.{slice_split}
use Rattle.std.specs.Str.Lines.{strip_carriage_return}
use Rattle.script_model.specs.Words.{lines_of}
use Rattle.script_model.specs.Grammar.{at_line}
use Rattle.script_model.proofs.Laws.LinesInTurn.{lines_from, no_line_behind}
use Rattle.nested_loop.specs.declared.fault.NestFault.{NestFault}
use Rattle.nested_loop.specs.declared.fault.NestFault.TheVariants.{Bad, Memory}
use Rattle.nested_loop.specs.declared.reader.Reader.{Reader}
use Rattle.nested_loop.specs.Plan.{NestPlan}
use Rattle.nested_loop.specs.NestLines.{nest_line_read}
use Rattle.nested_loop.specs.NestGrammar.{empty_nest, nest_lines_read, nest_read, nest_fault}
use Rattle.nested_loop.specs.Reader.{NestTurnsAt}

-- what the lines from this one on give
abbrev pub rest_read : NestPlan → ℕ → ℕ → List (List ℕ) → Result NestPlan (ℕ × ℕ)
rest_read nest number i pieces = nest_lines_read nest number (drop i (map strip_carriage_return pieces))

-- a line that is read hands on to the lines behind it
pub rest-more : (nest next : NestPlan) (number i : ℕ) (pieces : List (List ℕ)) (line : List ℕ) → i < length pieces → line ≡ get_or pieces i line
    → at_line number (nest_line_read nest (strip_carriage_return line)) ≡ Ok next
    → rest_read nest number i pieces ≡ rest_read next (number + 1) (i + 1) pieces
unfolding nest_lines_read
rest-more nest next number i pieces line lt is here = rw (lines_from i pieces line lt is, here) refl

-- a bad line is the fault of the lines
rest-bad : (nest : NestPlan) (number i : ℕ) (pieces : List (List ℕ)) (line : List ℕ) (fault : ℕ × ℕ) → i < length pieces → line ≡ get_or pieces i line
    → at_line number (nest_line_read nest (strip_carriage_return line)) ≡ Err fault
    → rest_read nest number i pieces ≡ Err fault
unfolding nest_lines_read
rest-bad nest number i pieces line fault lt is here = rw (lines_from i pieces line lt is, here) refl

-- behind the last line nothing is added
pub rest-end : (nest : NestPlan) (number i : ℕ) (pieces : List (List ℕ)) → i ≡ length pieces → rest_read nest number i pieces ≡ Ok nest
unfolding nest_lines_read
rest-end nest number i pieces e = rw (no_line_behind i pieces e) refl

-- what the lines give is what the text gives
pub whole_text : (bytes : List ℕ) → nest_read bytes ≡ nest_lines_read empty_nest 1 (lines_of bytes)
unfolding nest_read
whole_text bytes = refl

-- a fault at a line is the first fault of the text
pub bad-fault : (fault : NestFault) (reader : Reader) (bytes : List ℕ) (nest : NestPlan) (number i : ℕ) (text : List ℕ)
    → i < length (slice_split (λ b. eqb b 10) bytes) → text ≡ get_or (slice_split (λ b. eqb b 10) bytes) i text
    → NestTurnsAt (Err fault) reader (at_line number (nest_line_read nest (strip_carriage_return text)))
    → rest_read nest number i (slice_split (λ b. eqb b 10) bytes) ≡ nest_lines_read empty_nest 1 (lines_of bytes)
    → (line reason : ℕ) → fault ≡ Bad line reason → nest_fault bytes ≡ Some (line, reason)
bad-fault (Memory error) reader bytes nest number i text lt is turns rest line reason e = absurd cc
bad-fault (Bad l r) reader bytes nest number i text lt is turns rest line reason e =
    let at : l ≡ line = cc in
    let why : r ≡ reason = cc in
    let bad = rest-bad nest number i (slice_split (λ b. eqb b 10) bytes) text (l, r) lt is turns in
    rw (← at, ← why, whole_text bytes, ← rest, bad) refl
