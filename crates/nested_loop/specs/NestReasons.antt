-- Why a line of a nest script is bad, by number: the first that holds (this project's own rules).
use Rattle.std.specs.Prelude.{ℕ, List, [], ◌∷◌, ◌++◌, codes, slice_index_or}
use Rattle.task_base.specs.Fault.{rule_note}
use Rattle.nested_loop.specs.declared.fault.NestFault.{NestFault}
use Rattle.nested_loop.specs.declared.fault.NestFault.TheVariants.{Bad, Memory}

-- the line has no form that there is, or a number is outside its range
abbrev pub bad_nest_line : ℕ
bad_nest_line = 1

-- the id of a declaration is not the number of earlier declarations of its sort
abbrev pub nest_out_of_order : ℕ
nest_out_of_order = 2

-- a task or queue is used that was not declared earlier
abbrev pub nest_undeclared : ℕ
nest_undeclared = 3

-- a task that the line posts is posted earlier, or before on the same line
abbrev pub nest_posted_twice : ℕ
nest_posted_twice = 4

-- a declaration behind an action
abbrev pub late : ℕ
late = 5

-- with this line a limit is passed
abbrev pub nest_too_many : ℕ
nest_too_many = 6

-- the name of a reason, by its number: from 1 on in this order (this project's own)
abbrev pub nest_reason_name : ℕ → List ℕ
nest_reason_name reason = slice_index_or (
    []
    ∷ codes "BadLine"
    ∷ codes "OutOfOrder"
    ∷ codes "Undeclared"
    ∷ codes "PostedTwice"
    ∷ codes "Late"
    ∷ codes "TooMany"
    ∷ []) reason []

-- what is told of a fault, without a line feed (this project's own rule)
abbrev pub nest_note_of : NestFault → List ℕ
nest_note_of (Bad line reason) = codes "bad nest: line " ++ rule_note line reason (nest_reason_name reason)
nest_note_of (Memory error) = codes "no memory"
