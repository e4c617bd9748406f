-- What is told of lines that are no replies.
use Rattle.std.specs.Prelude.{ℕ, List, [], ◌∷◌, ◌++◌, codes, slice_index_or}
use Rattle.task_base.specs.Fault.{rule_note}
use Rattle.task_reply.specs.declared.fault.ReplyFault.{ReplyFault}
use Rattle.task_reply.specs.declared.fault.ReplyFault.TheVariants.{Bad, Memory}

-- the name of a reason, by its number: from 1 on in this order (this project's own)
abbrev pub reason_name : ℕ → List ℕ
reason_name reason = slice_index_or (
    []
    ∷ codes "BadLine"
    ∷ codes "Undeclared"
    ∷ codes "PostedTwice"
    ∷ codes "BadBlock"
    ∷ codes "TooMany"
    ∷ []) reason []

-- what is told of a bad line (this project's own rule)
abbrev pub bad_replies_note : ℕ → ℕ → List ℕ
bad_replies_note line reason = codes "bad replies: line " ++ rule_note line reason (reason_name reason)

-- what is told of a fault, without a line feed (this project's own rule)
abbrev pub note_of : ReplyFault → List ℕ
note_of (Bad line reason) = bad_replies_note line reason
note_of (Memory error) = codes "no memory"
