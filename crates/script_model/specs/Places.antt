-- What the words at the places of a line say: each place gives its value, or its own reason.
use Rattle.std.specs.Prelude.{ℕ, ◌-◌, ◌^◌, Bool, true, false, nat_lt, nat_le, ◌&&◌, if◌then◌else◌, List, [], ◌∷◌, length, take, drop, map, codes, slice_get, Option, Some, None, ok_or, Result, Ok, Err}
use Rattle.std.specs.List.{slice_split}
use Rattle.task_base.specs.declared.step.Step.{Step}
use Rattle.task_base.specs.declared.step.Step.TheVariants.{Add, Mul, Set, Post, Main, Block, Unblock}
use Rattle.task_base.specs.declared.script.RunnerKind.{RunnerKind}
use Rattle.task_base.specs.declared.script.RunnerKind.TheVariants.{Parallel, Sequenced, Single}
use Rattle.task_base.specs.declared.limits.TheConstants.{MOST_WORKERS, MOST_MICROSECONDS}
use Rattle.value_words.specs.Words.{named, kind_word, scope_named}
use Rattle.script_model.specs.Words.{is_word, is_mark, number_of}
use Rattle.script_model.specs.Reasons.{◌>>=◌, ◌>>◌, ◌&◌, refuse, unknown_word, word_count, bad_number, out_of_range}

-- ---- the form of a place

-- what a place says by its word, if there is one
abbrev pub said_at : {A : Type 0} → (List ℕ → Result A ℕ) → List (List ℕ) → ℕ → Result A ℕ
said_at {A} say words k = elim (slice_get words k) as (λ _. Result A ℕ) [
  | None ↦ Err word_count
  | Some word ↦ say word
]

-- no word stands at this place or behind it
abbrev pub ends_at : List (List ℕ) → ℕ → Result (Unit {0}) ℕ
ends_at words k = refuse (nat_lt k (length words)) word_count

-- the value that a word names, if there is one
abbrev pub known : {A : Type 0} → Option A → Result A ℕ
known value = ok_or value unknown_word

-- the value that the word at a place names
abbrev pub name_at : {A : Type 0} → (List ℕ → Option A) → List (List ℕ) → ℕ → Result A ℕ
name_at named words k = said_at (λ word. known (named word)) words k

-- the number, if it is from low to high
abbrev pub in_range : ℕ → ℕ → Option ℕ → Result ℕ ℕ
in_range low high None = Err bad_number
in_range low high (Some n) = if nat_le low n && nat_le n high then Ok n else Err out_of_range

-- the number from low to high that a word writes
unfoldable pub number_from : ℕ → ℕ → List ℕ → Result ℕ ℕ
number_from low high word = in_range low high (number_of word)

-- a number at a place
abbrev pub number_at : ℕ → ℕ → List (List ℕ) → ℕ → Result ℕ ℕ
number_at low high words k = said_at (number_from low high) words k

-- an id at a place: a number of 32 bits (this project's own rule)
abbrev pub id_at : List (List ℕ) → ℕ → Result ℕ ℕ
id_at words k = number_at 0 (2 ^ 32 - 1) words k

-- a time in microseconds at a place (this project's own rule)
abbrev pub time_at : List (List ℕ) → ℕ → Result ℕ ℕ
time_at words k = number_at 0 MOST_MICROSECONDS words k

-- ---- the words that say what a runner is like

-- the kind of one worker seat, by the word of its number (this project's own rule)
abbrev pub single_named : List ℕ → Result RunnerKind ℕ
single_named seat = number_from 1 MOST_WORKERS seat >>= λ n. Ok (Single n)

-- the kind that any worker seat serves
abbrev pub many_named : List ℕ → Option RunnerKind
many_named = named kind_word (Parallel ∷ Sequenced ∷ [])

-- `parallel`, `sequenced`, or `single:W` for the worker seat W
unfoldable pub kind_named : List ℕ → Result RunnerKind ℕ
kind_named word = if is_word (take 7 word) (codes "single:") then single_named (drop 7 word) else known (many_named word)

-- `mayblock` (this project's own word)
abbrev pub may_block_named : List ℕ → Result Bool ℕ
may_block_named word = if is_word word (codes "mayblock") then Ok true else Err unknown_word

-- `mayblock`, or no word
abbrev pub may_block_at : List (List ℕ) → ℕ → Result Bool ℕ
may_block_at words k = elim (slice_get words k) as (λ _. Result Bool ℕ) [
  | None ↦ Ok false
  | Some word ↦ may_block_named word
]

-- ---- steps

-- a step that computes with a number of 64 bits
abbrev pub compute_read : (ℕ → Step) → List (List ℕ) → Result Step ℕ
compute_read made words = do
  (k, _) ← number_at 0 (2 ^ 64 - 1) words 0 & ends_at words 1
  Ok (made k)

-- a step that posts: a task, a runner or queue, and a delay
abbrev pub post_read : (ℕ → ℕ → ℕ → Step) → List (List ℕ) → Result Step ℕ
post_read made words = do
  (task, (home, (delay, _))) ← id_at words 0 & id_at words 1 & time_at words 2 & ends_at words 3
  Ok (made task home delay)

-- a step that opens a scope
abbrev pub block_read : List (List ℕ) → Result Step ℕ
block_read words = do
  (scope, _) ← name_at scope_named words 0 & ends_at words 1
  Ok (Block scope)

-- a step, by its first word and the words behind it
unfoldable pub step_said : List ℕ → List (List ℕ) → Result Step ℕ
step_said name words =
    if is_word name (codes "add") then compute_read Add words
    else (if is_word name (codes "mul") then compute_read Mul words
    else (if is_word name (codes "set") then compute_read Set words
    else (if is_word name (codes "post") then post_read Post words
    else (if is_word name (codes "main") then post_read Main words
    else (if is_word name (codes "block") then block_read words
    else (if is_word name (codes "unblock") then (ends_at words 0 >> Ok Unblock)
    else Err unknown_word))))))

-- a step, by its words
abbrev pub step_read : List (List ℕ) → Result Step ℕ
step_read [] = Err word_count
step_read (name ∷ words) = step_said name words

-- all the values, or the least of the reasons
abbrev pub all_read : {A : Type 0} → List (Result A ℕ) → Result (List A) ℕ
all_read [] = Ok []
all_read (r ∷ rest) = do
  (x, xs) ← r & all_read rest
  Ok (x ∷ xs)

-- no step, or steps parted by the word `;` (this project's own form)
unfoldable pub steps_read : List (List ℕ) → Result (List Step) ℕ
steps_read [] = Ok []
steps_read (word ∷ words) = all_read (map step_read (slice_split is_mark (word ∷ words)))
