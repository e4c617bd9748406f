-- The lines of a text, read one after the other, as a loop does.
-- Cited by `read_script`.
use Rattle.std.proofs.Common.{◌≡◌, ℕ, ◌+◌, ◌<◌, eqb, List, length, get_or, drop, map, Some, Result, Ok, Err, refl, sym, ◌∙◌}
use Rattle.std.specs.List.{slice_split}
use Rattle.std.specs.Str.Lines.{strip_carriage_return}
use Rattle.script_model.specs.Words.{lines_of}
use Rattle.script_model.specs.Draft.{Draft, empty_draft, script_of}
use Rattle.script_model.specs.Lines.{line_read}
use Rattle.task_script.specs.declared.fault.ScriptFault.{ScriptFault}
use Rattle.task_script.specs.declared.fault.ScriptFault.TheVariants.{Bad, Memory}
use Rattle.task_script.specs.declared.reader.Reader.{Reader}
use Rattle.task_script.specs.Reader.{TurnsAt}
use Rattle.script_model.specs.Grammar.{at_line, lines_read, script_read, first_fault}
use Rattle.script_model.proofs.Laws.LinesInTurn.{lines_from, no_line_behind}

-- what the lines from this one on give
abbrev pub rest_read : Draft → ℕ → ℕ → List (List ℕ) → Result Draft (ℕ × ℕ)
rest_read d number i pieces = lines_read d number (drop i (map strip_carriage_return pieces))

-- a line that is read hands on to the lines behind it
pub rest-more : (d next : Draft) (number i : ℕ) (pieces : List (List ℕ)) (line : List ℕ) → i < length pieces → line ≡ get_or pieces i line
    → at_line number (line_read d (strip_carriage_return line)) ≡ Ok next
    → rest_read d number i pieces ≡ rest_read next (number + 1) (i + 1) pieces
unfolding lines_read
rest-more d next number i pieces line lt is here = rw (lines_from i pieces line lt is, here) refl

-- a bad line is the fault of the lines
pub rest-bad : (d : Draft) (number i : ℕ) (pieces : List (List ℕ)) (line : List ℕ) (fault : ℕ × ℕ) → i < length pieces → line ≡ get_or pieces i line
    → at_line number (line_read d (strip_carriage_return line)) ≡ Err fault
    → rest_read d number i pieces ≡ Err fault
unfolding lines_read
rest-bad d number i pieces line fault lt is here = rw (lines_from i pieces line lt is, here) refl

-- behind the last line nothing is added
pub rest-end : (d : Draft) (number i : ℕ) (pieces : List (List ℕ)) → i ≡ length pieces → rest_read d number i pieces ≡ Ok d
unfolding lines_read
rest-end d number i pieces e = rw (no_line_behind i pieces e) refl

-- lines that give a draft give its script
pub script-read : (bytes : List ℕ) (d : Draft) → lines_read empty_draft 1 (lines_of bytes) ≡ Ok d → script_read bytes ≡ Ok (script_of d)
unfolding script_read
script-read bytes d e = rw e refl

-- the fault of the lines is the first fault of the text
pub script-bad : (bytes : List ℕ) (line reason : ℕ) → lines_read empty_draft 1 (lines_of bytes) ≡ Err (line, reason) → first_fault bytes ≡ Some (line, reason)
unfolding script_read
script-bad bytes line reason e = rw e refl

-- a fault at a line is the first fault of the text
pub bad-fault : (fault : ScriptFault) (reader : Reader) (bytes : List ℕ) (d : Draft) (number i : ℕ) (text : List ℕ)
    → i < length (slice_split (λ b. eqb b 10) bytes) → text ≡ get_or (slice_split (λ b. eqb b 10) bytes) i text
    → TurnsAt (Err fault) reader (at_line number (line_read d (strip_carriage_return text)))
    → rest_read d number i (slice_split (λ b. eqb b 10) bytes) ≡ lines_read empty_draft 1 (lines_of bytes)
    → (line reason : ℕ) → fault ≡ Bad line reason → first_fault bytes ≡ Some (line, reason)
bad-fault (Memory error) reader bytes d number i text lt is turns rest line reason e = absurd cc
bad-fault (Bad l r) reader bytes d number i text lt is turns rest line reason e =
    let at : l ≡ line = cc in
    let why : r ≡ reason = cc in
    let bad = rest-bad d number i (slice_split (λ b. eqb b 10) bytes) text (l, r) lt is turns in
    rw (← at, ← why) (script-bad bytes l r (sym rest ∙ bad))
