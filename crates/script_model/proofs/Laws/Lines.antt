-- The lines of the configuration, the runners and the main queues in the canonical text are read, behind those before them, as what
-- they are made from.
-- Cited by `Laws/Canonical`, `Laws/TaskLines`.
use Rattle.std.proofs.Common.{◌≡◌, ℕ, ◌+◌, ◌≤◌, Bool, true, false, List, [], ◌∷◌, ◌++◌, length, map}
use Rattle.std.proofs.Common.{refl, sym, ap, subst, ◌∙◌, Some, Result, Ok, Err, arith, append_assoc}
use Rattle.std.specs.Prelude.{not, decimal, codes, slice_get}
use Rattle.std.specs.List.{list_all, AllByRecursion, sum_by}
use Rattle.std.proofs.lemmas.Bool.{le-ltb, not-true}
use Rattle.std.proofs.lemmas.List.{append-nil, length-append}
use Rattle.std.proofs.lemmas.List.Sums.{sum_by-append, sum_by-cons}
use Rattle.task_base.specs.Plan.{Plan, JobPlan}
use Rattle.task_base.specs.declared.step.Step.{Step}
use Rattle.task_base.specs.declared.script.Runner.{Runner}
use Rattle.task_base.specs.declared.script.RunnerKind.{RunnerKind}
use Rattle.task_base.specs.declared.script.RunnerKind.TheVariants.{Parallel, Sequenced, Single}
use Rattle.task_base.specs.declared.script.MainQueue.{MainQueue}
use Rattle.task_base.specs.declared.script.Action.{Action}
use Rattle.script_model.specs.Words.{begins_comment}
use Rattle.script_model.specs.Reasons.{word_count}
use Rattle.script_model.specs.Places.{ends_at, may_block_at}
use Rattle.script_model.specs.Draft.{Draft, empty_draft, script_of, is_above_workers}
use Rattle.task_base.specs.declared.limits.TheConstants.{MOST_WORKERS, MOST_RUNNERS, MOST_QUEUES}
use Rattle.script_model.specs.Lines.{workers_line, groups_line, threshold_line, runner_line, queue_line}
use Rattle.script_model.specs.Lines.{command_read, words_read, line_read}
use Rattle.script_model.specs.Grammar.{lines_read, script_read}
use Rattle.value_words.specs.Words.{priority_word, behaviour_word, kind_word}
use Rattle.script_model.specs.Canonical.{may_block_words, runner_words, queue_words, config_lines, numbered}
use Rattle.script_model.specs.Laws.Sound.{IsSound, IsConfigSound, IsSeatThere, IsQueueWithin}
use Rattle.list_laws.proofs.Values.{eqb-same}
use Rattle.list_laws.proofs.Elements.{AllByRecursion-back}
use Rattle.script_model.proofs.Laws.Parts.{IsSeatWithin}
use Rattle.script_model.proofs.Laws.Texts.{is_plain_word, line_of, text_of, line_is_ascii, words_of-line, lines_of-text}
use Rattle.script_model.proofs.Laws.Words.{number_is, id_is, time_is, plain_id, plain_time, priority_is, priority_plain, behaviour_is, behaviour_plain}
use Rattle.script_model.proofs.Laws.Words.{kind_is, kind_plain, may_block_plain}
use Rattle.list_laws.proofs.Places.{slice_get_seam}

-- what words say behind a draft
abbrev pub said : Draft → List (List ℕ) → Result Draft ℕ
said d [] = Err word_count
said d (name ∷ words) = command_read d name words

-- they begin with a word, and that begins no comment
abbrev pub begins : List (List ℕ) → Bool
begins [] = false
begins (name ∷ words) = not (begins_comment name)

-- behind this draft, the line of these words gives the next
pub record IsLineRead (d : Draft) (words : List (List ℕ)) (next : Draft) : Type 0 where
  pub reads : said d words ≡ Ok next
  pub starts : begins words ≡ true
  pub plain : list_all is_plain_word words ≡ true

-- behind this draft, these lines give the last
abbrev pub AreRead : Draft → List (List (List ℕ)) → Draft → Type 0
AreRead d [] last = d ≡ last
AreRead d (words ∷ lines) last = (next : Draft) × IsLineRead d words next × AreRead next lines last

pub are_read-append : (d : Draft) (lines more : List (List (List ℕ))) (next last : Draft) → AreRead d lines next → AreRead next more last
    → AreRead d (lines ++ more) last
are_read-append d [] more next last first second = subst (λ (x : Draft). AreRead x more last) (sym first) second
are_read-append d (words ∷ lines) more next last first second = (first.0, first.1, are_read-append first.0 lines more next last first.2 second)

are_read_plain : (d : Draft) (lines : List (List (List ℕ))) (last : Draft) → AreRead d lines last → list_all (list_all is_plain_word) lines ≡ true
are_read_plain d [] last read = refl
are_read_plain d (words ∷ lines) last read = rw (read.1.plain, are_read_plain read.0 lines last read.2) refl

line_is_read : (d : Draft) (words : List (List ℕ)) (next : Draft) → IsLineRead d words next → line_read d (line_of words) ≡ Ok next
unfolding words_read
line_is_read d [] next read = absurd (let never : false ≡ true = read.starts in cc)
line_is_read d (name ∷ words) next read =
    rw (words_of-line name words read.plain, not-true (begins_comment name) read.starts, line_is_ascii (name ∷ words) read.plain) read.reads

lines_are_read : (d : Draft) (n : ℕ) (lines : List (List (List ℕ))) (last : Draft) → AreRead d lines last
    → lines_read d n (map line_of lines ++ [] ∷ []) ≡ Ok last
unfolding lines_read words_read
lines_are_read d n [] last read = ap Ok read
lines_are_read d n (words ∷ lines) last read =
    rw (line_is_read d words read.0 read.1) (lines_are_read read.0 (n + 1) lines last read.2)

-- a text of lines that are read is read
pub text_is_read : (lines : List (List (List ℕ))) (last : Draft) → AreRead empty_draft lines last → script_read (text_of lines) ≡ Ok (script_of last)
unfolding script_read
text_is_read lines last read = rw (lines_of-text lines (are_read_plain empty_draft lines last read), lines_are_read empty_draft 1 lines last read) refl

-- lines for each element of a list, each of which is read behind those before it
pub numbered_are_read : {A : Type 0} (line : ℕ → A → List (List ℕ)) (at : List A → Draft) (all : List A)
    → ((done : List A) (x : A) (rest : List A) → done ++ x ∷ rest ≡ all → IsLineRead (at done) (line (length done) x) (at (done ++ x ∷ [])))
    → (done rest : List A) (n : ℕ) → n ≡ length done → done ++ rest ≡ all → AreRead (at done) (numbered line n rest) (at all)
numbered_are_read line at all each done [] n place e = ap at (sym (append-nil done) ∙ e)
numbered_are_read line at all each done (x ∷ rest) n place e = (
  at (done ++ x ∷ []),
  subst (λ (m : ℕ). IsLineRead (at done) (line m x) (at (done ++ x ∷ []))) (sym place) (each done x rest e),
  numbered_are_read line at all each (done ++ x ∷ []) rest (n + 1) (omega (arith, place, length-append done (x ∷ []))) (append_assoc done (x ∷ []) rest ∙ e),
)

pub mapped_are_read : {A : Type 0} (line : A → List (List ℕ)) (at : List A → Draft) (all : List A)
    → ((done : List A) (x : A) (rest : List A) → done ++ x ∷ rest ≡ all → IsLineRead (at done) (line x) (at (done ++ x ∷ [])))
    → (done rest : List A) → done ++ rest ≡ all → AreRead (at done) (map line rest) (at all)
mapped_are_read line at all each done [] e = ap at (sym (append-nil done) ∙ e)
mapped_are_read line at all each done (x ∷ rest) e =
    (at (done ++ x ∷ []), each done x rest e, mapped_are_read line at all each (done ++ x ∷ []) rest (append_assoc done (x ∷ []) rest ∙ e))

-- ---- an element of a list, with those before and behind it

pub all_at : {A : Type 0} (P : A → Type 0) (done : List A) (x : A) (rest all : List A) → done ++ x ∷ rest ≡ all → AllByRecursion P all → P x
all_at P done x rest all e h = (AllByRecursion-back P done (x ∷ rest) (subst (AllByRecursion P) (sym e) h)).0

pub length_at : {A : Type 0} (done : List A) (x : A) (rest all : List A) → done ++ x ∷ rest ≡ all → length all ≡ length done + 1 + length rest
length_at done x rest all e = rw (← e) (omega (arith, length-append done (x ∷ rest)))

pub sum_at : {A : Type 0} (f : A → ℕ) (done : List A) (x : A) (rest all : List A) → done ++ x ∷ rest ≡ all
    → sum_by f all ≡ sum_by f done + (f x + sum_by f rest)
sum_at f done x rest all e = rw (← e, sum_by-append f done (x ∷ rest), sum_by-cons f x rest) refl

pub get_at : {A : Type 0} (done : List A) (x : A) (rest all : List A) → done ++ x ∷ rest ≡ all → slice_get all (length done) ≡ Some x
get_at done x rest all e = rw (← e) (slice_get_seam done x rest)

-- ---- the drafts on the way

-- a draft with the configuration of a script, and some of its declarations and actions
abbrev pub draft_at : Plan → List Runner → List MainQueue → List (List Step) → List JobPlan → List Action → Draft
draft_at s runners queues tasks jobs actions = record {
  workers = Some s.workers;
  groups = Some (record { foreground = s.foreground; foreground_best = s.foreground_best; background = s.background });
  threshold = Some s.threshold;
  runners = runners;
  queues = queues;
  tasks = tasks;
  jobs = jobs;
  actions = actions;
}

-- ---- configuration

-- the draft behind `workers N`, and that behind `groups F FB B`
abbrev with_workers : Plan → Draft
with_workers s = record empty_draft { workers = Some s.workers }

abbrev with_groups : Plan → Draft
with_groups s = record (with_workers s) {
  groups = Some (record { foreground = s.foreground; foreground_best = s.foreground_best; background = s.background });
}

workers_read : (s : Plan) → IsConfigSound s → IsLineRead empty_draft (codes "workers" ∷ decimal s.workers ∷ []) (with_workers s)
unfolding command_read workers_line
workers_read s config = record {
  reads = rw (number_is 1 MOST_WORKERS s.workers config.some_workers config.few_workers (omega arith)) refl;
  starts = refl;
  plain = rw (plain_id s.workers (omega (arith, config.few_workers))) refl;
}

groups_read : (s : Plan) → IsConfigSound s
    → IsLineRead (with_workers s) (codes "groups" ∷ decimal s.foreground ∷ decimal s.foreground_best ∷ decimal s.background ∷ []) (with_groups s)
unfolding command_read groups_line
groups_read s config =
    let best : s.foreground_best ≤ 64 = omega (arith, config.best_within, config.few_foreground) in
    record {
      reads = rw (
        number_is 1 64 s.foreground config.some_foreground config.few_foreground (omega arith),
        number_is 1 64 s.foreground_best config.some_best
            best (omega arith),
        number_is 0 64 s.background (omega arith) config.few_background (omega arith),
        le-ltb s.foreground s.foreground_best
            config.best_within,
      ) refl;
      starts = refl;
      plain = rw (
        plain_id s.foreground (omega (arith, config.few_foreground)),
        plain_id s.foreground_best (omega (arith, best)),
        plain_id s.background (omega (arith, config.few_background)),
      ) refl;
    }

threshold_read : (s : Plan) → IsConfigSound s
    → IsLineRead (with_groups s) (codes "threshold" ∷ decimal s.threshold ∷ []) (draft_at s [] [] [] [] [])
unfolding command_read threshold_line
threshold_read s config = record {
  reads = rw (time_is s.threshold config.threshold_within) refl;
  starts = refl;
  plain = rw (plain_time s.threshold config.threshold_within) refl;
}

pub config_read : (s : Plan) → IsSound s → AreRead empty_draft (config_lines s) (draft_at s [] [] [] [] [])
config_read s sound = (
  with_workers s,
  workers_read s sound.config,
  (with_groups s, groups_read s sound.config, (draft_at s [] [] [] [] [], threshold_read s sound.config, refl)),
)

-- ---- runners and queues

may_block_is : (a b c f : List ℕ) (may_block : Bool) → may_block_at (a ∷ b ∷ c ∷ f ∷ may_block_words may_block) 4 ≡ Ok may_block
may_block_is a b c f true = refl
may_block_is a b c f false = refl

may_block_ends : (a b c f : List ℕ) (may_block : Bool) → ends_at (a ∷ b ∷ c ∷ f ∷ may_block_words may_block) 5 ≡ Ok tt
may_block_ends a b c f true = refl
may_block_ends a b c f false = refl

seat_readable : (s : Plan) → s.workers ≤ MOST_WORKERS → (kind : RunnerKind) → IsSeatThere s kind → IsSeatWithin kind
seat_readable s few (Single seat) h = (h.0, omega (arith, h.1, few))
seat_readable s few Parallel h = tt
seat_readable s few Sequenced h = tt

seat_below : (d : Draft) (kind : RunnerKind) → IsSeatThere (script_of d) kind → is_above_workers d kind ≡ false
seat_below d (Single seat) h = le-ltb (script_of d).workers seat h.1
seat_below d Parallel h = refl
seat_below d Sequenced h = refl

pub runner_read : (s : Plan) → IsSound s → (done : List Runner) (runner : Runner) (rest : List Runner) → done ++ runner ∷ rest ≡ s.runners
    → IsLineRead (draft_at s done [] [] [] []) (runner_words (length done) runner) (draft_at s (done ++ runner ∷ []) [] [] [] [])
unfolding command_read runner_line
runner_read s sound done runner rest e =
    let kind = runner.kind in let priority = runner.traits.priority in let behaviour = runner.traits.behaviour in let may_block = runner.traits.may_block in
    let few : length done + 1 ≤ MOST_RUNNERS = omega (arith, length_at done runner rest s.runners e, sound.limits.few_runners) in
    let id : length done ≤ 65536 = omega (arith, few) in
    let seat : IsSeatThere s kind = all_at (λ (x : Runner). IsSeatThere s x.kind) done runner rest s.runners e sound.declarations.seats_there in
    let readable = seat_readable s sound.config.few_workers kind seat in
    let d = draft_at s done [] [] [] [] in
    record {
      reads = rw (
        id_is (length done) id,
        kind_is kind readable,
        priority_is priority,
        behaviour_is behaviour,
        may_block_is (decimal (length done)) (kind_word kind) (priority_word priority) (behaviour_word behaviour) may_block,
        may_block_ends (decimal (length done)) (kind_word kind) (priority_word priority) (behaviour_word behaviour) may_block,
        eqb-same (length done),
        seat_below d kind seat,
        le-ltb MOST_RUNNERS (length done + 1) few,
      ) refl;
      starts = refl;
      plain = rw (plain_id (length done) id, kind_plain kind readable, priority_plain priority, behaviour_plain behaviour, may_block_plain may_block) refl;
    }

pub queue_read : (s : Plan) → IsSound s → (done : List MainQueue) (queue : MainQueue) (rest : List MainQueue) → done ++ queue ∷ rest ≡ s.queues
    → IsLineRead (draft_at s s.runners done [] [] []) (queue_words (length done) queue) (draft_at s s.runners (done ++ queue ∷ []) [] [] [])
unfolding command_read queue_line
queue_read s sound done queue rest e =
    let few : length done + 1 ≤ MOST_QUEUES = omega (arith, length_at done queue rest s.queues e, sound.limits.few_queues) in
    let id : length done ≤ 65536 = omega (arith, few) in
    let within : IsQueueWithin queue = all_at IsQueueWithin done queue rest s.queues e sound.declarations.queues_within in
    record {
      reads = rw (
        id_is (length done) id,
        number_is 0 7 queue.class (omega arith) within.class_within (omega arith),
        number_is 0 16 queue.voters (omega arith) within.voters_within (omega arith),
        eqb-same (length done),
        le-ltb MOST_QUEUES (length done + 1) few,
      ) refl;
      starts = refl;
      plain = rw (
        plain_id (length done) id,
        plain_id queue.class (omega (arith, within.class_within)),
        plain_id queue.voters (omega (arith, within.voters_within)),
      ) refl;
    }
