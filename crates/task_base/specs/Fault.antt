-- The exit status and the note of each fault.
use Rattle.std.specs.Prelude.{ℕ, List, [], ◌∷◌, ◌++◌, codes, decimal, slice_index_or}
use Rattle.task_base.specs.declared.fault.Fault.{Fault}
use Rattle.task_base.specs.declared.fault.Fault.TheVariants.{NotLegal, BadWords, BadScript, ReadFault, WriteFault, NoMemory, TooLarge}

-- the status that a fault ends a run with (this project's own rule)
abbrev pub status_of : Fault → ℕ
status_of (NotLegal line) = 1
status_of BadWords = 2
status_of (BadScript line reason) = 3
status_of ReadFault = 4
status_of WriteFault = 5
status_of (NoMemory error) = 6
status_of TooLarge = 7

-- the name of a rule of the script's grammar, by its number: from 1 on in this order (this project's own)
abbrev pub reason_name : ℕ → List ℕ
reason_name reason = slice_index_or (
    []
    ∷ codes "NotAscii"
    ∷ codes "UnknownWord"
    ∷ codes "WordCount"
    ∷ codes "BadNumber"
    ∷ codes "OutOfRange"
    ∷ codes "OutOfOrder"
    ∷ codes "Undeclared"
    ∷ codes "PostedTwice"
    ∷ codes "DeclarationLate"
    ∷ codes "BadBlock"
    ∷ codes "JobUse"
    ∷ codes "ShutdownTwice"
    ∷ codes "ConfigTwice"
    ∷ codes "TooMany"
    ∷ []) reason []

-- what is told of a line that breaks a rule, by the rule's number and name (this project's own rule)
abbrev pub rule_note : ℕ → ℕ → List ℕ → List ℕ
rule_note line reason name = decimal line ++ codes ": reason " ++ decimal reason ++ codes " " ++ name

-- what is told of a script's line that breaks a rule (this project's own rule)
abbrev pub bad_script_note : ℕ → ℕ → List ℕ
bad_script_note line reason = codes "bad script: line " ++ rule_note line reason (reason_name reason)

-- what is told of a fault, without a line feed (this project's own rule)
abbrev pub note_of : Fault → List ℕ
note_of (NotLegal line) = codes "not legal: line " ++ decimal line
note_of BadWords = codes "bad words"
note_of (BadScript line reason) = bad_script_note line reason
note_of ReadFault = codes "read fault"
note_of WriteFault = codes "write fault"
note_of (NoMemory error) = codes "no memory"
note_of TooLarge = codes "too large"
