-- The lines read one after the other, as a loop does, and the script that stands for them.
-- Cited by `elaborate`.
use Rattle.std.proofs.Common.{◌≡◌, ℕ, ◌+◌, ◌<◌, eqb, List, length, get_or, drop, map, Some, Result, Ok, Err, refl, sym, ◌∙◌}
use Rattle.std.specs.List.{slice_split}
use Rattle.std.specs.Str.Lines.{strip_carriage_return}
use Rattle.task_base.specs.Plan.{Plan}
use Rattle.script_model.specs.Grammar.{at_line}
use Rattle.script_model.proofs.Laws.LinesInTurn.{lines_from, no_line_behind}
use Rattle.script_model.specs.Laws.Sound.{IsSound}
use Rattle.task_reply.specs.declared.fault.ReplyFault.{ReplyFault}
use Rattle.task_reply.specs.declared.fault.ReplyFault.TheVariants.{Bad, Memory}
use Rattle.task_reply.specs.declared.held.Held.{Held}
use Rattle.task_reply.specs.declared.reply.Reply.{Reply}
use Rattle.task_reply.specs.Elaborated.{IsElaboratedBy}
use Rattle.task_reply.specs.Replies.{line_read, lines_read, replies_read, reply_fault}
use Rattle.task_reply.specs.Tables.{HoldsReplies, ReplyTurnsAt}

-- the pieces between line feeds
abbrev pub pieces_of : List ℕ → List (List ℕ)
pieces_of bytes = slice_split (λ b. eqb b 10) bytes

-- so many lines were read, what is held stands for them, and the lines behind them give what all give
pub record ReadSoFar (script : Plan) (bytes : List ℕ) (held : Held) (lines : ℕ) : Type 0 where
  pub replies : List Reply
  pub stands : HoldsReplies script replies held
  pub rest : lines_read script replies (lines + 1) (drop lines (map strip_carriage_return (pieces_of bytes))) ≡ replies_read script bytes

-- what a line does to what is held
abbrev pub LineTurns : Result (Unit {0}) ReplyFault → Held → Held → ℕ → List ℕ → Type 0
LineTurns r old new number line = (script : Plan) (replies : List Reply) → HoldsReplies script replies old
    → ReplyTurnsAt r script new (at_line number (line_read script replies (strip_carriage_return line)))

-- one more line
pub read_more : (script : Plan) (bytes : List ℕ) (old new : Held) (lines : ℕ) (line : List ℕ) → ReadSoFar script bytes old lines
    → lines < length (pieces_of bytes) → line ≡ get_or (pieces_of bytes) lines line → LineTurns (Ok tt) old new (lines + 1) line
    → ReadSoFar script bytes new (lines + 1)
unfolding lines_read
read_more script bytes old new lines line so_far lt is turns =
    let (replies, read, stands) = turns script so_far.replies so_far.stands in
    record {
      replies = replies;
      stands = stands;
      rest = sym (rw (lines_from lines (pieces_of bytes) line lt is, read) refl) ∙ so_far.rest;
    }

-- behind the last line
pub read_all : (script : Plan) (bytes : List ℕ) (held : Held) (lines : ℕ) → ReadSoFar script bytes held lines → lines ≡ length (pieces_of bytes)
    → IsElaboratedBy script bytes held.script × IsSound held.script
unfolding lines_read
read_all script bytes held lines so_far e =
    let none = no_line_behind lines (pieces_of bytes) e in (
      record {
        replies = so_far.replies;
        said = sym so_far.rest ∙ rw none refl;
        elaborated = so_far.stands.grown.elaborated;
      },
      so_far.stands.grown.sound,
    )

-- a bad line is the fault of all
pub read_bad : (script : Plan) (bytes : List ℕ) (old new : Held) (lines : ℕ) (line : List ℕ) (fault : ReplyFault) → ReadSoFar script bytes old lines
    → lines < length (pieces_of bytes) → line ≡ get_or (pieces_of bytes) lines line → LineTurns (Err fault) old new (lines + 1) line
    → (number reason : ℕ) → fault ≡ Bad number reason → reply_fault script bytes ≡ Some (number, reason)
unfolding lines_read
read_bad script bytes old new lines line (Memory error) so_far lt is turns number reason e = absurd cc
read_bad script bytes old new lines line (Bad n r) so_far lt is turns number reason e =
    let at : n ≡ number = cc in
    let why : r ≡ reason = cc in
    let read = turns script so_far.replies so_far.stands in
    rw (← at, ← why, ← so_far.rest, lines_from lines (pieces_of bytes) line lt is, read) refl
