-- The canonical text as the pieces that are put, one behind the other.
-- Cited by `JobElement::put`, `TaskElement::put`, `put_script`, `Puts`, `write_lines.rt`.
use Rattle.std.proofs.Common.{◌≡◌, ◌≢◌, ◌<◌, ◌+◌, ℕ, suc, List, [], ◌∷◌, ◌++◌, length, get_or, take, drop, map, refl, sym, ap}
use Rattle.std.proofs.Common.{◌∙◌, append_assoc, append-nil, add-zero, zero-add, take-append-drop, arith, codes, decimal}
use Rattle.std.specs.List.{flat_map, join_with_byte}
use Rattle.std.proofs.lemmas.List.{take_more, length-take-le}
use Rattle.std.proofs.lemmas.Bool.{ne_eqb}
use Rattle.std.proofs.lemmas.List.Concat.{flat_map-append}
use Rattle.line_text.proofs.Joined.{joins_first, with_words_joins}
use Rattle.task_base.specs.Plan.{Plan, JobPlan}
use Rattle.task_base.specs.declared.step.Step.{Step}
use Rattle.task_base.specs.declared.step.Step.TheVariants.{Add, Mul, Set, Post, Main, Block, Unblock}
use Rattle.task_base.specs.declared.script.Action.{Action}
use Rattle.value_words.specs.Words.{scope_word, priority_word, behaviour_word}
use Rattle.script_model.specs.Canonical.{step_words, steps_words, runner_words, queue_words, task_words, job_words}
use Rattle.script_model.specs.Canonical.{action_words, config_lines, numbered, canonical}
use Rattle.script_text.specs.Written.{with_line, line_text, step_text, runner_text, queue_text, task_text}
use Rattle.script_text.specs.Written.{job_text, job_head_text, action_text, config_text, texts_from}

-- ---- words

-- a line's words behind a text
pub words_joined : (text : List ℕ) (words : List (List ℕ)) → with_line text words ≡ text ++ join_with_byte 32 words
words_joined text [] = sym (append-nil text)
words_joined text (word ∷ words) = with_words_joins (text ++ word) words ∙ joins_first text word words

-- a whole line
pub line_joined : (words : List (List ℕ)) → with_line [] words ++ 10 ∷ [] ≡ line_text words
line_joined words = rw (words_joined [] words) refl

-- three lines
pub config_joined : (first second third : List (List ℕ))
    → with_line (with_line (with_line [] first ++ 10 ∷ []) second ++ 10 ∷ []) third ++ 10 ∷ [] ≡ flat_map line_text (first ∷ second ∷ third ∷ [])
config_joined first second third = simp (words_joined, append_assoc, append-nil)

-- ---- steps

-- words, each behind a space
abbrev spaced : List (List ℕ) → List ℕ
spaced words = flat_map (λ word. 32 ∷ word) words

-- words joined by spaces are the first of them, and the others each behind a space
join_spaced : (word : List ℕ) (words : List (List ℕ)) → join_with_byte 32 (word ∷ words) ≡ word ++ spaced words
join_spaced word [] = sym (append-nil word)
join_spaced word (next ∷ words) = rw (join_spaced next words) refl

-- a step's words behind a space
step_spaced : (step : Step) → 32 ∷ join_with_byte 32 (step_words step) ≡ spaced (step_words step)
step_spaced (Add by) = ap (λ xs. 32 ∷ xs) (join_spaced (codes "add") (decimal by ∷ []))
step_spaced (Mul by) = ap (λ xs. 32 ∷ xs) (join_spaced (codes "mul") (decimal by ∷ []))
step_spaced (Set to) = ap (λ xs. 32 ∷ xs) (join_spaced (codes "set") (decimal to ∷ []))
step_spaced (Post task runner delay) = ap (λ xs. 32 ∷ xs) (join_spaced (codes "post") (decimal task ∷ decimal runner ∷ decimal delay ∷ []))
step_spaced (Main task queue delay) = ap (λ xs. 32 ∷ xs) (join_spaced (codes "main") (decimal task ∷ decimal queue ∷ decimal delay ∷ []))
step_spaced (Block scope) = ap (λ xs. 32 ∷ xs) (join_spaced (codes "block") (scope_word scope ∷ []))
step_spaced Unblock = refl

-- steps behind the first of their line are their words behind `;`, each behind a space
later_steps : (place : ℕ) (steps : List Step) → 0 < place → texts_from step_text place steps ≡ spaced (flat_map (λ step. codes ";" ∷ step_words step) steps)
later_steps place [] h = refl
later_steps place (step ∷ steps) h =
    let rest : List (List ℕ) = flat_map (λ s. codes ";" ∷ step_words s) steps in
    let here : spaced (step_words step ++ rest) ≡ spaced (step_words step) ++ spaced rest = flat_map-append (λ word. 32 ∷ word) (step_words step) rest in
    let later : place ≢ 0 = omega arith in
    rw (ne_eqb place 0 later, later_steps (place + 1) steps (omega arith), here, ← step_spaced step) refl

-- the steps of a line are its words behind the head, each behind a space
steps_spaced : (steps : List Step) → texts_from step_text 0 steps ≡ spaced (steps_words steps)
steps_spaced [] = refl
steps_spaced (step ∷ steps) =
    let rest : List (List ℕ) = flat_map (λ s. codes ";" ∷ step_words s) steps in
    let here : spaced (step_words step ++ rest) ≡ spaced (step_words step) ++ spaced rest = flat_map-append (λ word. 32 ∷ word) (step_words step) rest in
    rw (later_steps 1 steps (omega arith), here, ← step_spaced step) refl

-- a line whose last words are those of steps is its head, its steps and its end
stepped_line : (word : List ℕ) (words : List (List ℕ)) (steps : List Step)
    → line_text (word ∷ (words ++ steps_words steps)) ≡ with_line [] (word ∷ words) ++ (texts_from step_text 0 steps ++ 10 ∷ [])
stepped_line word words steps =
    let parts : spaced (words ++ steps_words steps) ≡ spaced words ++ spaced (steps_words steps) = flat_map-append (λ w. 32 ∷ w) words (steps_words steps) in
    rw (join_spaced word (words ++ steps_words steps), parts, steps_spaced steps, words_joined [] (word ∷ words), join_spaced word words) (simp append_assoc)

-- ---- lists

-- texts one behind the other
abbrev pub joined : List (List ℕ) → List ℕ
joined parts = texts_from (λ _ part. part) 0 parts

-- the texts of two lists, one behind the other
texts_from-append : {A : Type 0} (text : ℕ → A → List ℕ) (place : ℕ) (xs ys : List A)
    → texts_from text place (xs ++ ys) ≡ texts_from text place xs ++ texts_from text (place + length xs) ys
texts_from-append text place [] ys = rw add-zero refl
texts_from-append text place (x ∷ xs) ys =
    let shift : (place + 1) + length xs ≡ place + suc (length xs) = omega arith in
    rw (texts_from-append text (place + 1) xs ys, shift, append_assoc) refl

-- the texts up to a place and the text of that place
pub texts_from-more : {A : Type 0} (text : ℕ → A → List ℕ) (xs : List A) (i : ℕ) (d : A) → i < length xs
    → texts_from text 0 (take (i + 1) xs) ≡ texts_from text 0 (take i xs) ++ text i (get_or xs i d)
texts_from-more text xs i d h =
    let short : length (take i xs) ≡ i = length-take-le i xs (omega arith) in
    rw (take_more xs i d h, texts_from-append text 0 (take i xs) (get_or xs i d ∷ []), short, zero-add, append-nil) refl

-- all texts are those up to a place and some more
pub texts_from-cut : {A : Type 0} (text : ℕ → A → List ℕ) (xs : List A) (i : ℕ)
    → texts_from text 0 xs ≡ texts_from text 0 (take i xs) ++ texts_from text (0 + length (take i xs)) (drop i xs)
texts_from-cut text xs i = sym (ap (texts_from text 0) (take-append-drop i xs)) ∙ texts_from-append text 0 (take i xs) (drop i xs)

-- ---- the script

-- the parts of a line with steps: its head, its steps and its end
abbrev pub line_parts : List ℕ → List Step → List (List ℕ)
line_parts head steps = head ∷ texts_from step_text 0 steps ∷ (10 ∷ []) ∷ []

-- the line of a task is its parts
pub task_pieces : (t : ℕ) (steps : List Step) → task_text t steps ≡ joined (line_parts (codes "task " ++ decimal t) steps)
task_pieces t steps = stepped_line (codes "task") (decimal t ∷ []) steps

-- the line of a job is its parts
pub job_pieces : (j : ℕ) (job : JobPlan) → job_text j job ≡ joined (line_parts (job_head_text j job) job.steps)
job_pieces j job =
    stepped_line (codes "job") (decimal j ∷ priority_word job.priority ∷ behaviour_word job.behaviour ∷ decimal job.items ∷ decimal job.cap ∷ []) job.steps

-- numbered lines, one behind the other
numbered_texts : {A : Type 0} (line : ℕ → A → List (List ℕ)) (n : ℕ) (xs : List A)
    → flat_map line_text (numbered line n xs) ≡ texts_from (λ k x. line_text (line k x)) n xs
numbered_texts line n [] = refl
numbered_texts line n (x ∷ xs) = rw (numbered_texts line (n + 1) xs) refl

-- the lines of the actions, one behind the other
action_texts : (n : ℕ) (actions : List Action) → flat_map line_text (map action_words actions) ≡ texts_from action_text n actions
action_texts n [] = refl
action_texts n (action ∷ actions) = rw (action_texts (n + 1) actions) refl

-- lines of six sorts, one sort behind the other
six_parts : (a b c d e g : List (List (List ℕ))) (p q r t u : List ℕ) → flat_map line_text b ≡ p → flat_map line_text c ≡ q → flat_map line_text d ≡ r
    → flat_map line_text e ≡ t → flat_map line_text g ≡ u
    → flat_map line_text (a ++ b ++ c ++ d ++ e ++ g) ≡ flat_map line_text a ++ (p ++ (q ++ (r ++ (t ++ (u ++ [])))))
six_parts a b c d e g p q r t u second third fourth fifth sixth = rw (
  flat_map-append line_text (a ++ b ++ c ++ d ++ e) g,
  flat_map-append line_text (a ++ b ++ c ++ d) e,
  flat_map-append line_text (a ++ b ++ c) d,
  flat_map-append line_text (a ++ b) c,
  flat_map-append line_text a b,
  second,
  third,
  fourth,
  fifth,
  sixth,
  append-nil,
) (simp append_assoc)

-- the parts of the canonical text: the configuration, and the lines of the runners, main queues, tasks, jobs and actions
abbrev pub script_parts : Plan → List (List ℕ)
script_parts script =
    config_text script
    ∷ texts_from runner_text 0 script.runners
    ∷ texts_from queue_text 0 script.queues
    ∷ texts_from task_text 0 script.tasks
    ∷ texts_from job_text 0 script.jobs
    ∷ texts_from action_text 0 script.actions
    ∷ []

-- the canonical text is its parts
pub canonical_pieces : (script : Plan) → canonical script ≡ joined (script_parts script)
canonical_pieces script =
    six_parts (config_lines script) (numbered runner_words 0 script.runners) (numbered queue_words 0 script.queues) (numbered task_words 0 script.tasks)
    (numbered job_words 0 script.jobs) (map action_words script.actions) _ _ _ _ _ (numbered_texts runner_words 0 script.runners)
    (numbered_texts queue_words 0 script.queues) (numbered_texts task_words 0 script.tasks) (numbered_texts job_words 0 script.jobs)
    (action_texts 0 script.actions)
