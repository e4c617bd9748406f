-- The flags of a reader, over one more task, job or action.
-- Cited by `Reader::add_job`, `Reader::posts_again`, `Reader::push_job`.
use Rattle.script_model.proofs.Laws.Computing.{computing_posts}
use Rattle.std.proofs.Common.{◌≡◌, ℕ, zero, suc, ◌+◌, ◌<◌, ◌≤◌, ◌≢◌, Bool, true, false, eqb, ltb, List, [], ◌∷◌, ◌++◌, length}
use Rattle.std.proofs.Common.{get_or, flat_map, refl, sym, ap, subst, ◌∙◌, arith, append_assoc, length-append}
use Rattle.std.specs.Prelude.{◌||◌, ◌&&◌, slice_index_or, slice_set}
use Rattle.std.specs.List.{list_any, list_all, sum_by}
use Rattle.std.proofs.lemmas.List.Sums.{sum_by-append}
use Rattle.std.proofs.lemmas.Bool.{eqb-true, ltb-true}
use Rattle.list_laws.proofs.Values.{eqb-same}
use Rattle.std.proofs.lemmas.List.{get_or-set_same, get_or-set_other, length-set, append-nil}
use Rattle.task_base.specs.Plan.{JobPlan}
use Rattle.task_base.specs.Steps.{is_act}
use Rattle.task_base.specs.declared.limits.TheConstants.{MOST_ITEMS, MOST_STEPS, MOST_EVENTS}
use Rattle.task_base.specs.declared.step.Step.{Step}
use Rattle.task_base.specs.declared.step.Step.TheVariants.{Add, Mul, Set, Post as PostStep, Main as MainStep, Block, Unblock}
use Rattle.script_model.specs.Bound.{events_of_job}
use Rattle.script_model.specs.Draft.{Draft, is_declared, posted_in, is_any_posted}
use Rattle.script_model.specs.Laws.Postings.{posts_of_step}
use Rattle.task_script.specs.Marks.{marked, is_any_marked, AreMarks}
use Rattle.task_script.specs.Reader.{AreFlags, AreTotals}
use Rattle.task_script.specs.declared.reader.Totals.{Totals}
use Rattle.task_script.specs.declared.reader.Marks.{Marks}
use Rattle.std.specs.declared.vec.Vec.{Vec}
use Rattle.std.specs.declared.alloc.Global.{Global}

-- ---- marks

-- one more mark
are_marks-set : (marks : List Bool) (tasks : List ℕ) (task : ℕ) → AreMarks marks tasks → task < length marks
    → AreMarks (slice_set marks task true) (task ∷ tasks)
are_marks-set marks tasks task h lt t = by_task (eqb task t) refl
  where
    by_task : (b : Bool) → eqb task t ≡ b → slice_index_or (slice_set marks task true) t false ≡ (b || list_any (λ u. eqb u t) tasks)
    by_task true e =
        let same : task ≡ t = eqb-true task t e in
        rw (← same) (get_or-set_same marks task true false lt)
    by_task false e =
        let other : t ≢ task = λ same. let yes : eqb task t ≡ true = rw same (eqb-same task) in absurd cc in
        get_or-set_other marks task t true false other ∙ h t

-- the same marks, seen as those of the list with the task at its end
any-at_end : (p : ℕ → Bool) (task : ℕ) (tasks : List ℕ) → list_any p (task ∷ tasks) ≡ list_any p (tasks ++ task ∷ [])
any-at_end p task [] = refl
any-at_end p task (u ∷ us) = swap (p task) (p u) (list_any p us) ∙ ap (λ (b : Bool). p u || b) (any-at_end p task us)
  where
    swap : (a b c : Bool) → (a || (b || c)) ≡ (b || (a || c))
    swap true true c = refl
    swap true false c = refl
    swap false b c = refl

-- all tasks have a place among the marks
abbrev pub AreBelow : ℕ → List ℕ → Type 0
AreBelow n [] = Unit {0}
AreBelow n (task ∷ tasks) = (task < n) × AreBelow n tasks

are_below-along : (n m : ℕ) (tasks : List ℕ) → n ≡ m → AreBelow n tasks → AreBelow m tasks
are_below-along n m tasks e h = subst (λ (k : ℕ). AreBelow k tasks) e h

pub are_below-append : (n : ℕ) (xs ys : List ℕ) → AreBelow n xs → AreBelow n ys → AreBelow n (xs ++ ys)
are_below-append n [] ys h k = k
are_below-append n (x ∷ xs) ys h k = (h.0, are_below-append n xs ys h.1 k)

-- a task has a mark where the list has it
pub marks-found : (marks : List Bool) (earlier tasks : List ℕ) → AreMarks marks earlier → AreBelow (length marks) tasks
    → is_any_marked marks tasks ≡ is_any_posted earlier tasks
marks-found marks earlier [] h below = refl
marks-found marks earlier (task ∷ tasks) h below =
    let n : length (slice_set marks task true) ≡ length marks = length-set marks task true in
    let rest : is_any_marked (slice_set marks task true) tasks ≡ is_any_posted (task ∷ earlier) tasks =
    marks-found (slice_set marks task true) (task ∷ earlier) tasks (are_marks-set marks earlier task h below.0)
    (are_below-along (length marks) (length (slice_set marks task true)) tasks (sym n) below.1) in
    rw (h task, rest) refl

pub marks-more : (marks : List Bool) (earlier tasks : List ℕ) → AreMarks marks earlier → AreBelow (length marks) tasks
    → AreMarks (marked marks tasks) (earlier ++ tasks)
marks-more marks earlier [] h below = λ t. h t ∙ rw (append-nil earlier) refl
marks-more marks earlier (task ∷ tasks) h below =
    let n : length (slice_set marks task true) ≡ length marks = length-set marks task true in
    let first : AreMarks (slice_set marks task true) (earlier ++ task ∷ []) =
    λ t. are_marks-set marks earlier task h below.0 t ∙ any-at_end (λ u. eqb u t) task earlier in
    let rest : AreMarks (marked (slice_set marks task true) tasks) ((earlier ++ task ∷ []) ++ tasks) =
    marks-more (slice_set marks task true) (earlier ++ task ∷ []) tasks first
    (are_below-along (length marks) (length (slice_set marks task true)) tasks (sym n) below.1) in
    λ t. rest t ∙ rw (append_assoc earlier (task ∷ []) tasks) refl

pub length-marked : (marks : List Bool) (tasks : List ℕ) → length (marked marks tasks) ≡ length marks
length-marked marks [] = refl
length-marked marks (task ∷ tasks) = length-marked (slice_set marks task true) tasks ∙ length-set marks task true

-- ---- what steps post

and-left : (a b : Bool) → (a && b) ≡ true → a ≡ true
and-left true b e = refl
and-left false b e = absurd cc

and-right : (a b : Bool) → (a && b) ≡ true → b ≡ true
and-right true b e = e
and-right false b e = absurd cc

-- what a declared step posts is declared
step-below : (d : Draft) (step : Step) → is_declared d step ≡ true → AreBelow (length d.tasks) (posts_of_step step)
step-below d (PostStep task runner delay) e = (ltb-true task (length d.tasks) (and-left (ltb task (length d.tasks)) _ e), tt)
step-below d (MainStep task queue delay) e = (ltb-true task (length d.tasks) (and-left (ltb task (length d.tasks)) _ e), tt)
step-below d (Add by) e = tt
step-below d (Mul by) e = tt
step-below d (Set to) e = tt
step-below d (Block scope) e = tt
step-below d Unblock e = tt

pub steps-below : (d : Draft) (steps : List Step) → list_all (is_declared d) steps ≡ true → AreBelow (length d.tasks) (flat_map posts_of_step steps)
steps-below d [] e = tt
steps-below d (step ∷ steps) e =
    are_below-append (length d.tasks) (posts_of_step step) (flat_map posts_of_step steps)
    (step-below d step (and-left (is_declared d step) (list_all (is_declared d) steps) e))
    (steps-below d steps (and-right (is_declared d step) (list_all (is_declared d) steps) e))

-- ---- the flags of a reader

-- a task of the steps is posted where it has a mark
pub flags-found : (marks : Marks) (d : Draft) (steps : List Step) → AreFlags marks d (posted_in d) → list_all (is_declared d) steps ≡ true
    → is_any_marked marks.posted.items (flat_map posts_of_step steps) ≡ is_any_posted (posted_in d) (flat_map posts_of_step steps)
flags-found marks d steps flags declared =
    marks-found marks.posted.items (posted_in d) (flat_map posts_of_step steps) flags.posted
    (are_below-along (length d.tasks) (length marks.posted.items) (flat_map posts_of_step steps) (sym flags.posted_count) (steps-below d steps declared))

-- the flags behind the marks of the steps
pub flags-marked : (marks : Marks) (d : Draft) (steps : List Step) (posted : Vec Bool Global) → AreFlags marks d (posted_in d)
    → list_all (is_declared d) steps ≡ true → posted.items ≡ marked marks.posted.items (flat_map posts_of_step steps)
    → AreFlags (record marks { posted = posted }) d (posted_in d ++ flat_map posts_of_step steps)
flags-marked marks d steps posted flags declared now =
    let more : AreMarks (marked marks.posted.items (flat_map posts_of_step steps)) (posted_in d ++ flat_map posts_of_step steps) =
    marks-more marks.posted.items (posted_in d) (flat_map posts_of_step steps) flags.posted
    (are_below-along (length d.tasks) (length marks.posted.items) (flat_map posts_of_step steps) (sym flags.posted_count) (steps-below d steps declared)) in
    record {
      posted_count = rw (now, length-marked marks.posted.items (flat_map posts_of_step steps)) flags.posted_count;
      posted = subst (λ (bs : List Bool). AreMarks bs (posted_in d ++ flat_map posts_of_step steps)) (sym now) more;
      blocks = flags.blocks;
      started_count = flags.started_count;
      started = flags.started;
      shutdown = flags.shutdown;
    }

-- ---- steps that compute

-- where the steps all compute, the flags are as before them
pub flags-computing : (marks : Marks) (d : Draft) (tasks : List ℕ) (steps : List Step) → AreFlags marks d (tasks ++ flat_map posts_of_step steps)
    → list_any is_act steps ≡ false → AreFlags marks d tasks
flags-computing marks d tasks steps flags computing =
    let same : tasks ++ flat_map posts_of_step steps ≡ tasks = rw (computing_posts steps computing) (append-nil tasks) in
    subst (λ (ts : List ℕ). AreFlags marks d ts) same flags

-- ---- one more job

push-default : {A : Type 0} (xs : List A) (d : A) (i : ℕ) → get_or (xs ++ d ∷ []) i d ≡ get_or xs i d
push-default [] d zero = refl
push-default [] d (suc i) = refl
push-default (x ∷ xs) d zero = refl
push-default (x ∷ xs) d (suc i) = push-default xs d i

pub flags-job : (marks : Marks) (d : Draft) (job : JobPlan) (started : Vec Bool Global) → AreFlags marks d (posted_in d)
    → started.items ≡ marks.started.items ++ false ∷ []
    → AreFlags (record marks { started = started }) (record d { jobs = d.jobs ++ job ∷ [] }) (posted_in d)
flags-job marks d job started flags now = record {
  posted_count = flags.posted_count;
  posted = flags.posted;
  blocks = flags.blocks;
  started_count = rw (now, length-append marks.started.items (false ∷ []), length-append d.jobs (job ∷ []), flags.started_count) refl;
  started = λ j. rw (now, push-default marks.started.items false j) (flags.started j);
  shutdown = flags.shutdown;
}

-- what the job adds to the totals
abbrev pub totals_with : Totals → JobPlan → Totals
totals_with totals job = record totals {
  items = totals.items + job.items;
  steps = totals.steps + length job.steps;
  events = totals.events + events_of_job job;
}

pub totals-job : (totals : Totals) (d : Draft) (job : JobPlan) → AreTotals totals d → totals.items + job.items ≤ MOST_ITEMS
    → totals.steps + length job.steps ≤ MOST_STEPS → totals.events + events_of_job job ≤ MOST_EVENTS
    → AreTotals (totals_with totals job) (record d { jobs = d.jobs ++ job ∷ [] })
totals-job totals d job are few_items few_steps few_events =
    let items : sum_by (λ j. j.items) (d.jobs ++ job ∷ []) ≡ sum_by (λ j. j.items) d.jobs + job.items =
    omega (arith, sum_by-append (λ (j : JobPlan). j.items) d.jobs (job ∷ [])) in
    let steps : sum_by (λ j. length j.steps) (d.jobs ++ job ∷ []) ≡ sum_by (λ j. length j.steps) d.jobs + length job.steps =
    omega (arith, sum_by-append (λ (j : JobPlan). length j.steps) d.jobs (job ∷ [])) in
    let events : sum_by events_of_job (d.jobs ++ job ∷ []) ≡ sum_by events_of_job d.jobs + events_of_job job =
    omega (arith, sum_by-append events_of_job d.jobs (job ∷ [])) in
    record {
      items = omega (arith, items, are.items);
      steps = omega (arith, steps, are.steps);
      ticks = are.ticks;
      events = omega (arith, events, are.events);
      few_items = few_items;
      few_steps = few_steps;
      few_ticks = are.few_ticks;
      few_events = few_events;
    }
