-- Why a line is bad, and which of several reasons counts: the one with the least number.
use Rattle.std.specs.Prelude.{ℕ, Bool, if◌then◌else◌, min, Result, Ok, Err}

-- the line has a byte above 127 (this project's own rule, as are all the reasons)
abbrev pub not_ascii : ℕ
not_ascii = 1

-- a word is no command, or no step, or none of the words that its place takes
abbrev pub unknown_word : ℕ
unknown_word = 2

-- the command or a step has too few or too many words, or a step is empty
abbrev pub word_count : ℕ
word_count = 3

-- the place of a number has a word that is none
abbrev pub bad_number : ℕ
bad_number = 4

-- a number is outside its range
abbrev pub out_of_range : ℕ
out_of_range = 5

-- the id of a declaration is not the number of earlier declarations of its sort
abbrev pub out_of_order : ℕ
out_of_order = 6

-- a task, runner, queue, job, voter or worker seat is used that was not declared earlier
abbrev pub undeclared : ℕ
undeclared = 7

-- a task that the line posts is posted earlier, or before on the same line
abbrev pub posted_twice : ℕ
posted_twice = 8

-- a configuration line behind a declaration or an action, or a declaration behind an action
abbrev pub declaration_late : ℕ
declaration_late = 9

-- the scopes of a task do not open and close in turn, or a task that opens one is posted where it must not block
abbrev pub bad_block : ℕ
bad_block = 10

-- a job has a step that does not compute, is started twice, or is joined or cancelled before it is started
abbrev pub job_use : ℕ
job_use = 11

-- `shutdown` stands earlier
abbrev pub shutdown_twice : ℕ
shutdown_twice = 12

-- a configuration line of the same command stands earlier
abbrev pub config_twice : ℕ
config_twice = 13

-- with this line a limit is passed
abbrev pub too_many : ℕ
too_many = 14

infixl 10 ◌>>=◌ ◌>>◌
infixr 20 ◌&◌
-- the second, made of the value of the first, if that has one
abbrev pub ◌>>=◌ : {A B E : Type 0} → Result A E → (A → Result B E) → Result B E
(Ok x) >>= f = f x
(Err e) >>= f = Err e

-- the second, if the first has no reason against it
abbrev pub ◌>>◌ : {A B E : Type 0} → Result A E → Result B E → Result B E
(Ok x) >> r = r
(Err e) >> r = Err e

-- both values, or the lesser of the reasons
abbrev pub ◌&◌ : {A B : Type 0} → Result A ℕ → Result B ℕ → Result (A × B) ℕ
(Ok x) & (Ok y) = Ok (x, y)
(Ok x) & (Err s) = Err s
(Err r) & (Ok y) = Err r
(Err r) & (Err s) = Err (min r s)

-- the reason, where the test holds
abbrev pub refuse : Bool → ℕ → Result (Unit {0}) ℕ
refuse test reason = if test then Err reason else Ok tt
