-- The words that the canonical text has at the places of lines are read as what they are made from.
-- Cited by `Laws/Canonical`, `Laws/Lines`, `Laws/TaskLines`.
use Rattle.std.proofs.Common.{◌≡◌, ℕ, ◌≤◌, Bool, true, false, List, [], ◌∷◌, ◌++◌, length, drop, map, refl, ap, ◌∙◌, Some, Ok, arith}
use Rattle.std.specs.Prelude.{◌-◌, ◌^◌, not, flat_map, decimal, codes, All}
use Rattle.std.specs.List.{list_all, slice_split, AllByRecursion}
use Rattle.std.proofs.lemmas.Bool.{lt-ltb, not-true}
use Rattle.std.proofs.lemmas.List.{append-nil}
use Rattle.std.proofs.lemmas.List.Concat.{flat_map-cons}
use Rattle.std.proofs.lemmas.List.Folds.{list_all-append}
use Rattle.std.proofs.lemmas.List.Splits.{slice_split_none, slice_split_at}
use Rattle.task_traits.specs.declared.traits.Priority.{Priority}
use Rattle.task_traits.specs.declared.traits.Priority.TheVariants.{BestEffort, UserVisible, UserBlocking}
use Rattle.task_traits.specs.declared.traits.Behaviour.{Behaviour}
use Rattle.task_traits.specs.declared.traits.Behaviour.TheVariants.{ContinueOnShutdown, SkipOnShutdown, BlockShutdown}
use Rattle.task_base.specs.declared.policy.Policy.{Policy}
use Rattle.task_base.specs.declared.policy.Policy.TheVariants.{All as AllTasks, Foreground, Nothing}
use Rattle.task_base.specs.declared.step.Scope.{Scope}
use Rattle.task_base.specs.declared.step.Scope.TheVariants.{May, Will}
use Rattle.task_base.specs.declared.step.Step.{Step}
use Rattle.task_base.specs.declared.step.Step.TheVariants.{Add, Mul, Set, Post as PostStep, Main as MainStep, Block, Unblock}
use Rattle.task_base.specs.declared.script.RunnerKind.{RunnerKind}
use Rattle.task_base.specs.declared.script.RunnerKind.TheVariants.{Parallel, Sequenced, Single}
use Rattle.task_base.specs.declared.script.FenceAt.{FenceAt}
use Rattle.task_base.specs.declared.script.FenceAt.TheVariants.{Now, Start}
use Rattle.task_base.specs.declared.limits.TheConstants.{MOST_WORKERS, MOST_MICROSECONDS}
use Rattle.value_words.specs.Words.{priority_word, behaviour_word, policy_word, fence_word, scope_word, vote_word, kind_word}
use Rattle.value_words.specs.Words.{priority_named, behaviour_named, policy_named, fence_named, scope_named, vote_named}
use Rattle.script_model.specs.Words.{is_word, is_mark}
use Rattle.script_model.specs.Places.{number_from, kind_named, step_said, step_read, all_read, steps_read}
use Rattle.script_model.specs.Canonical.{step_words, steps_words, may_block_words}
use Rattle.script_model.proofs.Laws.Parts.{IsSeatWithin}
use Rattle.script_model.proofs.Laws.Texts.{none_passes, is_plain_word, is_visible, number_from-decimal, decimal_plain, decimal_visible, decimal_no_mark}

-- ---- numbers

pub number_is : (low high n : ℕ) → low ≤ n → n ≤ high → high ≤ 2 ^ 64 - 1 → number_from low high (decimal n) ≡ Ok n
number_is low high n lower upper wide = number_from-decimal low high n lower upper (omega (arith, upper, wide))

pub id_is : (n : ℕ) → n ≤ 65536 → number_from 0 (2 ^ 32 - 1) (decimal n) ≡ Ok n
id_is n small = number_from-decimal 0 (2 ^ 32 - 1) n (omega arith) (omega (arith, small)) (omega (arith, small))

pub time_is : (n : ℕ) → n ≤ MOST_MICROSECONDS → number_from 0 MOST_MICROSECONDS (decimal n) ≡ Ok n
time_is n small = number_from-decimal 0 MOST_MICROSECONDS n (omega arith) small (omega (arith, small))

pub plain_number : (n : ℕ) → n ≤ 2 ^ 64 - 1 → is_plain_word (decimal n) ≡ true
plain_number n small = decimal_plain n (omega (arith, small))

pub plain_id : (n : ℕ) → n ≤ 65536 → is_plain_word (decimal n) ≡ true
plain_id n small = decimal_plain n (omega (arith, small))

pub plain_time : (n : ℕ) → n ≤ MOST_MICROSECONDS → is_plain_word (decimal n) ≡ true
plain_time n small = decimal_plain n (omega (arith, small))

-- ---- names

pub priority_is : (p : Priority) → priority_named (priority_word p) ≡ Some p
priority_is BestEffort = refl
priority_is UserVisible = refl
priority_is UserBlocking = refl

pub priority_plain : (p : Priority) → is_plain_word (priority_word p) ≡ true
priority_plain BestEffort = refl
priority_plain UserVisible = refl
priority_plain UserBlocking = refl

pub behaviour_is : (b : Behaviour) → behaviour_named (behaviour_word b) ≡ Some b
behaviour_is ContinueOnShutdown = refl
behaviour_is SkipOnShutdown = refl
behaviour_is BlockShutdown = refl

pub behaviour_plain : (b : Behaviour) → is_plain_word (behaviour_word b) ≡ true
behaviour_plain ContinueOnShutdown = refl
behaviour_plain SkipOnShutdown = refl
behaviour_plain BlockShutdown = refl

pub policy_is : (p : Policy) → policy_named (policy_word p) ≡ Some p
policy_is AllTasks = refl
policy_is Foreground = refl
policy_is Nothing = refl

pub policy_plain : (p : Policy) → is_plain_word (policy_word p) ≡ true
policy_plain AllTasks = refl
policy_plain Foreground = refl
policy_plain Nothing = refl

pub fence_is : (f : FenceAt) → fence_named (fence_word f) ≡ Some f
fence_is Now = refl
fence_is Start = refl

pub fence_plain : (f : FenceAt) → is_plain_word (fence_word f) ≡ true
fence_plain Now = refl
fence_plain Start = refl

pub vote_is : (on : Bool) → vote_named (vote_word on) ≡ Some on
vote_is true = refl
vote_is false = refl

pub vote_plain : (on : Bool) → is_plain_word (vote_word on) ≡ true
vote_plain true = refl
vote_plain false = refl

scope_is : (s : Scope) → scope_named (scope_word s) ≡ Some s
scope_is May = refl
scope_is Will = refl

scope_plain : (s : Scope) → is_plain_word (scope_word s) ≡ true
scope_plain May = refl
scope_plain Will = refl

scope_no_mark : (s : Scope) → is_word (scope_word s) (codes ";") ≡ false
scope_no_mark May = refl
scope_no_mark Will = refl

pub kind_is : (kind : RunnerKind) → IsSeatWithin kind → kind_named (kind_word kind) ≡ Ok kind
unfolding kind_named
kind_is Parallel h = refl
kind_is Sequenced h = refl
kind_is (Single seat) h = rw (number_is 1 MOST_WORKERS seat h.0 h.1 (omega arith)) refl

pub kind_plain : (kind : RunnerKind) → IsSeatWithin kind → is_plain_word (kind_word kind) ≡ true
kind_plain Parallel h = refl
kind_plain Sequenced h = refl
kind_plain (Single seat) h = visible (decimal seat) (decimal_visible seat (omega (arith, h.1)))
  where
    visible : (word : List ℕ) → list_all is_visible word ≡ true → is_plain_word (codes "single:" ++ word) ≡ true
    visible word e = rw (lt-ltb 0 (length (codes "single:" ++ word)) (omega arith), e) refl

pub may_block_plain : (b : Bool) → list_all is_plain_word (may_block_words b) ≡ true
may_block_plain true = refl
may_block_plain false = refl

-- ---- steps

-- the numbers of a step can be read back
abbrev pub IsStepReadable : Step → Type 0
IsStepReadable (Add by) = by ≤ 2 ^ 64 - 1
IsStepReadable (Mul by) = by ≤ 2 ^ 64 - 1
IsStepReadable (Set to) = to ≤ 2 ^ 64 - 1
IsStepReadable (PostStep task runner delay) = (task ≤ 65536) × (runner ≤ 65536) × (delay ≤ MOST_MICROSECONDS)
IsStepReadable (MainStep task queue delay) = (task ≤ 65536) × (queue ≤ 65536) × (delay ≤ MOST_MICROSECONDS)
IsStepReadable (Block scope) = Unit {0}
IsStepReadable Unblock = Unit {0}

-- a number of 64 bits, as a step has it
wide_is : (k : ℕ) → k ≤ 2 ^ 64 - 1 → number_from 0 (2 ^ 64 - 1) (decimal k) ≡ Ok k
wide_is k small = number_is 0 (2 ^ 64 - 1) k (omega arith) small (omega arith)

step_is : (step : Step) → IsStepReadable step → step_read (step_words step) ≡ Ok step
unfolding step_said
step_is (Add by) h = rw (wide_is by h) refl
step_is (Mul by) h = rw (wide_is by h) refl
step_is (Set to) h = rw (wide_is to h) refl
step_is (PostStep task runner delay) h = rw (id_is task h.0, id_is runner h.1, time_is delay h.2) refl
step_is (MainStep task queue delay) h = rw (id_is task h.0, id_is queue h.1, time_is delay h.2) refl
step_is (Block scope) h = rw (scope_is scope) refl
step_is Unblock h = refl

step_plain : (step : Step) → IsStepReadable step → list_all is_plain_word (step_words step) ≡ true
step_plain (Add by) h = rw (plain_number by h) refl
step_plain (Mul by) h = rw (plain_number by h) refl
step_plain (Set to) h = rw (plain_number to h) refl
step_plain (PostStep task runner delay) h = rw (plain_id task h.0, plain_id runner h.1, plain_time delay h.2) refl
step_plain (MainStep task queue delay) h = rw (plain_id task h.0, plain_id queue h.1, plain_time delay h.2) refl
step_plain (Block scope) h = rw (scope_plain scope) refl
step_plain Unblock h = refl

unmarked : (n : ℕ) → n ≤ 2 ^ 64 - 1 → is_mark (decimal n) ≡ false
unmarked n small = decimal_no_mark n (omega (arith, small))

-- no word of a step parts steps
no_marks : (step : Step) → IsStepReadable step → list_all (λ w. not (is_mark w)) (step_words step) ≡ true
no_marks (Add by) h = rw (unmarked by h) refl
no_marks (Mul by) h = rw (unmarked by h) refl
no_marks (Set to) h = rw (unmarked to h) refl
no_marks (PostStep task runner delay) h =
    rw (unmarked task (omega (arith, h.0)), unmarked runner (omega (arith, h.1)), unmarked delay (omega (arith, h.2))) refl
no_marks (MainStep task queue delay) h =
    rw (unmarked task (omega (arith, h.0)), unmarked queue (omega (arith, h.1)), unmarked delay (omega (arith, h.2))) refl
no_marks (Block scope) h = rw (scope_no_mark scope) refl
no_marks Unblock h = refl

step_no_mark : (step : Step) → IsStepReadable step → All (λ w. is_mark w ≡ false) (step_words step)
step_no_mark step h = none_passes (λ w. not (is_mark w)) is_mark (step_words step) (λ w. not-true (is_mark w)) (no_marks step h)

-- the words of further steps, each with a mark before it
abbrev pub marked : List Step → List (List ℕ)
marked steps = flat_map (λ step. codes ";" ∷ step_words step) steps

steps_cut : (step : Step) (steps : List Step) → IsStepReadable step → AllByRecursion IsStepReadable steps
    → slice_split is_mark (step_words step ++ marked steps) ≡ map step_words (step ∷ steps)
steps_cut step [] here rest = rw (append-nil (step_words step)) (slice_split_none is_mark (step_words step) (step_no_mark step here))
steps_cut step (next ∷ steps) here rest =
    let cut = slice_split_at is_mark (step_words step) (codes ";") (step_words next ++ marked steps) (step_no_mark step here) refl in
    rw (flat_map-cons (λ s. codes ";" ∷ step_words s) next steps, cut, steps_cut next steps rest.0 rest.1) refl

pieces_are : (steps : List Step) → AllByRecursion IsStepReadable steps → all_read (map step_read (map step_words steps)) ≡ Ok steps
pieces_are [] all = refl
pieces_are (step ∷ steps) all = rw (step_is step all.0, pieces_are steps all.1) refl

-- words that are some are cut at the marks
read_by_pieces : (word : List ℕ) (words : List (List ℕ)) → steps_read (word ∷ words) ≡ all_read (map step_read (slice_split is_mark (word ∷ words)))
unfolding steps_read
read_by_pieces word words = refl

some_words : (step : Step) (words : List (List ℕ)) → steps_read (step_words step ++ words)
    ≡ all_read (map step_read (slice_split is_mark (step_words step ++ words)))
some_words (Add by) words = read_by_pieces (codes "add") (decimal by ∷ words)
some_words (Mul by) words = read_by_pieces (codes "mul") (decimal by ∷ words)
some_words (Set to) words = read_by_pieces (codes "set") (decimal to ∷ words)
some_words (PostStep task runner delay) words = read_by_pieces (codes "post") (decimal task ∷ decimal runner ∷ decimal delay ∷ words)
some_words (MainStep task queue delay) words = read_by_pieces (codes "main") (decimal task ∷ decimal queue ∷ decimal delay ∷ words)
some_words (Block scope) words = read_by_pieces (codes "block") (scope_word scope ∷ words)
some_words Unblock words = read_by_pieces (codes "unblock") words

steps_words-cons : (step : Step) (steps : List Step) → steps_words (step ∷ steps) ≡ step_words step ++ marked steps
steps_words-cons step steps = ap (drop 1) (flat_map-cons (λ s. codes ";" ∷ step_words s) step steps)

-- the words of steps are read as these steps
pub steps_are : (steps : List Step) → AllByRecursion IsStepReadable steps → steps_read (steps_words steps) ≡ Ok steps
unfolding steps_read
steps_are [] all = refl
steps_are (step ∷ steps) all = rw (steps_words-cons step steps, some_words step (marked steps), steps_cut step steps all.0 all.1)
    (pieces_are (step ∷ steps) all)

marked_plain : (steps : List Step) → AllByRecursion IsStepReadable steps → list_all is_plain_word (marked steps) ≡ true
marked_plain [] all = refl
marked_plain (step ∷ steps) all = ap (list_all is_plain_word) (flat_map-cons (λ s. codes ";" ∷ step_words s) step steps)
    ∙ rw (list_all-append is_plain_word (codes ";" ∷ step_words step) (marked steps), step_plain step all.0, marked_plain steps all.1) refl

pub steps_plain : (steps : List Step) → AllByRecursion IsStepReadable steps → list_all is_plain_word (steps_words steps) ≡ true
steps_plain [] all = refl
steps_plain (step ∷ steps) all = rw (
  steps_words-cons step steps,
  list_all-append is_plain_word (step_words step) (marked steps),
  step_plain step all.0,
  marked_plain steps all.1,
) refl
