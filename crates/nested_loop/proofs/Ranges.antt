-- The numbers of a line that says something are in their ranges.
-- Cited by `SoundNests`.
use Rattle.std.proofs.Common.{◌≡◌, ℕ, ◌≤◌, Bool, true, false, cond, leb, List, [], ◌∷◌, map, refl, Option, Some, None, arith}
use Rattle.std.specs.Prelude.{◌-◌, ◌^◌, ◌&&◌, codes, IfSome}
use Rattle.std.specs.List.{AllByRecursion, slice_split}
use Rattle.std.proofs.lemmas.Bool.Decides.{nat_tests}
use Rattle.script_model.specs.Words.{words_of, is_word, begins_comment, number_of, is_mark}
use Rattle.nested_loop.specs.declared.nest.NestStep.{NestStep}
use Rattle.nested_loop.specs.declared.nest.NestStep.TheVariants as steps
use Rattle.nested_loop.specs.declared.nest.NestAction.{NestAction}
use Rattle.nested_loop.specs.declared.nest.NestAction.TheVariants as actions
use Rattle.nested_loop.specs.declared.line.NestLine.{NestLine}
use Rattle.nested_loop.specs.declared.line.NestLine.TheVariants.{Nothing, Queue, Task, Act}
use Rattle.nested_loop.specs.Sound.{IsLoopBound}
use Rattle.nested_loop.specs.NestWords.{◌>>=◌, within, number_in, id_of, say_said, posting_said, bound_said, step_named, step_said, all_said}
use Rattle.nested_loop.specs.NestWords.{steps_said, nestable_named, queue_said, task_said, nest_plain_said, command_said, nest_words_said, nest_line_said}

-- ---- what is in its range

-- the numbers of a step
abbrev pub IsStepWithin : NestStep → Type 0
IsStepWithin (steps.Say value) = value ≤ 2 ^ 64 - 1
IsStepWithin (steps.Post task queue) = Unit {0}
IsStepWithin (steps.Loop bound) = IsLoopBound bound

-- the number of an action
abbrev pub IsActionWithin : NestAction → Type 0
IsActionWithin (actions.Post task queue) = Unit {0}
IsActionWithin (actions.Run bound) = IsLoopBound bound

-- the numbers of a line
abbrev pub IsLineWithin : NestLine → Type 0
IsLineWithin Nothing = Unit {0}
IsLineWithin (Queue number class) = class ≤ 7
IsLineWithin (Task number task) = AllByRecursion IsStepWithin task.steps
IsLineWithin (Act action) = IsActionWithin action

-- ---- what there may be

-- what is made of a value has a property, where it has it for each value that there may be
made : {A B : Type 0} (P : A → Type 0) (Q : B → Type 0) (o : Option A) (f : A → Option B) → IfSome o P → ((x : A) → P x → IfSome (f x) Q) → IfSome (o >>= f) Q
made P Q None f h g = tt
made P Q (Some x) f h g = g x h

-- whatever there may be
any : {A : Type 0} (o : Option A) → IfSome o (λ _. Unit {0})
any None = tt
any (Some x) = tt

-- one of two has a property, where each of them has it
either : {A : Type 0} (P : A → Type 0) (b : Bool) (x y : Option A) → IfSome x P → IfSome y P → IfSome (cond b x y) P
either P true x y h k = h
either P false x y h k = k

-- ---- numbers

in_range : (low high : ℕ) (o : Option ℕ) → IfSome (within low high o) (λ n. (low ≤ n) × (n ≤ high))
in_range low high None = tt
in_range low high (Some n) = by_order (leb low n) refl (leb n high) refl
  where
    by_order : (b : Bool) → leb low n ≡ b → (c : Bool) → leb n high ≡ c → IfSome (cond (b && c) (Some n) None) (λ m. (low ≤ m) × (m ≤ high))
    by_order true lower true upper = (grind (arith, nat_tests), grind (arith, nat_tests))
    by_order true lower false upper = tt
    by_order false lower c upper = tt

number_in-within : (low high : ℕ) (word : List ℕ) → IfSome (number_in low high word) (λ n. (low ≤ n) × (n ≤ high))
unfolding number_in
number_in-within low high word = in_range low high (number_of word)

-- ---- steps

say_within : (words : List (List ℕ)) → IfSome (say_said words) IsStepWithin
say_within [] = tt
say_within (value ∷ []) =
    made (λ n. (0 ≤ n) × (n ≤ 2 ^ 64 - 1)) IsStepWithin (number_in 0 (2 ^ 64 - 1) value) _ (number_in-within 0 (2 ^ 64 - 1) value) (λ k h. h.1)
say_within (value ∷ word ∷ words) = tt

bound_within : (words : List (List ℕ)) → IfSome (bound_said words) IsLoopBound
bound_within [] = tt
bound_within (bound ∷ []) = number_in-within 1 16384 bound
bound_within (bound ∷ word ∷ words) = tt

step_named-within : (name : List ℕ) (words : List (List ℕ)) → IfSome (step_named name words) IsStepWithin
unfolding step_named
step_named-within name words =
    either IsStepWithin (is_word name (codes "say")) _ _ (say_within words)
    (either IsStepWithin (is_word name (codes "post")) _ _ (made (λ _. Unit {0}) IsStepWithin (posting_said words) _ (any (posting_said words)) (λ p h. tt))
    (either IsStepWithin (is_word name (codes "loop")) _ None (made IsLoopBound IsStepWithin (bound_said words) _ (bound_within words) (λ n h. h)) tt))

step_within : (words : List (List ℕ)) → IfSome (step_said words) IsStepWithin
step_within [] = tt
step_within (name ∷ words) = step_named-within name words

pieces_within : (pieces : List (List (List ℕ))) → IfSome (all_said (map step_said pieces)) (AllByRecursion IsStepWithin)
pieces_within [] = tt
pieces_within (piece ∷ pieces) =
    made IsStepWithin (AllByRecursion IsStepWithin) (step_said piece) _ (step_within piece)
    (λ x h. made (AllByRecursion IsStepWithin) (AllByRecursion IsStepWithin) (all_said (map step_said pieces)) _ (pieces_within pieces) (λ xs k. (h, k)))

steps_within : (words : List (List ℕ)) → IfSome (steps_said words) (AllByRecursion IsStepWithin)
unfolding steps_said
steps_within [] = tt
steps_within (word ∷ words) = pieces_within (slice_split is_mark (word ∷ words))

-- ---- lines

queue_within : (words : List (List ℕ)) → IfSome (queue_said words) IsLineWithin
queue_within [] = tt
queue_within (number ∷ []) = tt
queue_within (number ∷ class ∷ []) =
    made (λ _. Unit {0}) IsLineWithin (id_of number) _ (any (id_of number))
    (λ q h. made (λ n. (0 ≤ n) × (n ≤ 7)) IsLineWithin (number_in 0 7 class) _ (number_in-within 0 7 class) (λ c k. k.1))
queue_within (number ∷ class ∷ word ∷ words) = tt

task_within : (words : List (List ℕ)) → IfSome (task_said words) IsLineWithin
unfolding task_said
task_within [] = tt
task_within (number ∷ []) = tt
task_within (number ∷ kind ∷ words) =
    made (λ _. Unit {0}) IsLineWithin (id_of number) _ (any (id_of number))
    (λ t h. made (λ _. Unit {0}) IsLineWithin (nestable_named kind) _ (any (nestable_named kind))
    (λ nestable k. made (AllByRecursion IsStepWithin) IsLineWithin (steps_said words) _ (steps_within words) (λ steps l. l)))

command_within : (name : List ℕ) (words : List (List ℕ)) → IfSome (command_said name words) IsLineWithin
unfolding command_said
command_within name words =
    either IsLineWithin (is_word name (codes "task")) _ (nest_plain_said name words) (task_within words)
    (either IsLineWithin (is_word name (codes "queue")) _ _ (queue_within words)
    (either IsLineWithin (is_word name (codes "post")) _ _ (made (λ _. Unit {0}) IsLineWithin (posting_said words) _ (any (posting_said words)) (λ p h. tt))
    (either IsLineWithin (is_word name (codes "run")) _ None (made IsLoopBound IsLineWithin (bound_said words) _ (bound_within words) (λ n h. h)) tt)))

words_within : (words : List (List ℕ)) → IfSome (nest_words_said words) IsLineWithin
words_within [] = tt
words_within (name ∷ words) = either IsLineWithin (begins_comment name) (Some Nothing) (command_said name words) tt (command_within name words)

pub line_within : (line : List ℕ) → IfSome (nest_line_said line) IsLineWithin
line_within line = words_within (words_of line)
