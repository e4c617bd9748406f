-- The lists of the tasks that wait of parallel runners, while tasks come to them and leave them.
-- Cited by `Calls/Ends`, `Calls/Posts`, `Calls/Ripening`, `Calls/Shutdown`, `Calls/Takes`, `Sources/Moves`.
use Rattle.list_laws.proofs.Places.{slice_get-set_other}
use Rattle.list_laws.proofs.Values.{some-injective}
use Rattle.pool_core.proofs.Listed.{with_task_is}
use Rattle.pool_core.specs.Listings.{AreListed, IsOfListed, IsPostedTo}
use Rattle.pool_core.specs.TaskLists.{AreApart, AreAsMany, IsAmong, IsListed, IsPopped, IsPushed, Lists, with_task}
use Rattle.pool_core.specs.declared.posting.Posting.{Posting}
use Rattle.std.proofs.Common.{Bool, List, None, Option, Some, [], ap, arith, cond, false, inl, inr, length, refl, subst, sym, true, ℕ, ◌<◌, ◌∙◌, ◌≡◌}
use Rattle.std.proofs.lemmas.Bool.{cases_eq, cases_lt, eqb-true}
use Rattle.std.proofs.lemmas.List.{get_or-set_other, get_or-set_same, set_past}
use Rattle.std.proofs.lemmas.Option.{none-some}
use Rattle.std.specs.Prelude.{slice_get, slice_index_or, slice_set, ◌==◌, ◌⊎◌}
use Rattle.task_base.specs.Plan.{Plan}
use Rattle.task_base.specs.Runners.{sequence_of}
use Rattle.task_sequence.specs.Sequences.{Held, Waiting, fresh, sequence_at, with_sequence}

-- One task that moves.

-- the task, and no other, is in no list or in that one, as it may be
pub record AreTurned (before now : Lists) (into t : ℕ) : Type 0 where
  pub apart : AreApart now
  pub as_many : AreAsMany now before
  pub was : (l u : ℕ) → IsListed now l u → IsListed before l u ⊎ ((l ≡ into) × (u ≡ t))
  pub kept : (l u : ℕ) → (u ≡ t → ⊥) → IsListed before l u → IsListed now l u

-- the first task of a list has gone
pub turned_out : (before now : Lists) (from into t : ℕ) → AreApart now → AreAsMany now before → IsPopped before now from (Some t) → AreTurned before now into t
turned_out before now from into t apart as_many popped = record {
  apart = apart;
  as_many = as_many;
  was = λ l u among. inl (elim (cases_eq l from) [
    | inl same ↦ subst (λ n. IsListed before n u) (sym same) (subst (IsAmong u) (sym popped.0) (inr (subst (λ n. IsListed now n u) same among)))
    | inr another ↦ subst (IsAmong u) (popped.1 l another) among
  ]);
  kept = λ l u other among. elim (cases_eq l from) [
    | inl same ↦ elim (subst (IsAmong u) popped.0 (subst (λ n. IsListed before n u) same among)) [
      | inl is ↦ absurd (other (sym is))
      | inr rest ↦ subst (λ n. IsListed now n u) (sym same) rest
    ]
    | inr another ↦ subst (IsAmong u) (sym (popped.1 l another)) among
  ];
}

-- what the lists have where a task has come to one of them
pushed_was : (before now : Lists) (into t : ℕ) → IsPushed before now into t → (l u : ℕ) → IsListed now l u → IsListed before l u ⊎ ((l ≡ into) × (u ≡ t))
pushed_was before now into t (inl new) l u among = elim (cases_eq l into) [
  | inl same ↦ elim (subst (IsAmong u) new.0 (subst (λ n. IsListed now n u) same among)) [
    | inl is ↦ inr (same, sym is)
    | inr rest ↦ inl (subst (λ n. IsListed before n u) (sym same) rest)
  ]
  | inr another ↦ inl (subst (IsAmong u) (new.1 l another) among)
]
pushed_was before now into t (inr old) l u among = inl (subst (λ s. IsListed s l u) old.0 among)

pushed_kept : (before now : Lists) (into t : ℕ) → IsPushed before now into t → (l u : ℕ) → IsListed before l u → IsListed now l u
pushed_kept before now into t (inl new) l u among = elim (cases_eq l into) [
  | inl same ↦ subst (λ n. IsListed now n u) (sym same) (subst (IsAmong u) (sym new.0) (inr (subst (λ n. IsListed before n u) same among)))
  | inr another ↦ subst (IsAmong u) (sym (new.1 l another)) among
]
pushed_kept before now into t (inr old) l u among = subst (λ s. IsListed s l u) (sym old.0) among

pub pushed_there : (before now : Lists) (into t : ℕ) → IsPushed before now into t → (l : ℕ) × IsListed now l t
pushed_there before now into t (inl new) = (into, subst (IsAmong t) (sym new.0) (inl refl))
pushed_there before now into t (inr old) = (old.1, subst (λ s. IsListed s old.1 t) (sym old.0) old.2)

-- and has come to another one
pub turned_over : (before now : Lists) (into t : ℕ) → AreTurned before now into t → into < length now.lines → t < length now.after
    → AreTurned before (with_task now into t) into t
turned_over before now into t turned there known =
    let is = with_task_is now into t turned.apart there known in
    record {
      apart = is.1;
      as_many = record { lists = is.2.lists ∙ turned.as_many.lists; tasks = is.2.tasks ∙ turned.as_many.tasks };
      was = λ l u among. elim (pushed_was now (with_task now into t) into t is.0 l u among) [
        | inl old ↦ turned.was l u old
        | inr new ↦ inr new
      ];
      kept = λ l u other among. pushed_kept now (with_task now into t) into t is.0 l u (turned.kept l u other among);
    }

-- All lists of the pool.

-- where a sequence that had no task has none
pub listed_shrunk : (script : Plan) (postings : List (Option Posting)) (held later : Held) (lists : Lists) → AreListed script postings held lists
    → ((s : ℕ) → (sequence_at held s).tasks ≡ [] → (sequence_at later s).tasks ≡ []) → AreListed script postings later lists
listed_shrunk script postings held later lists listed shrinks = record {
  apart = listed.apart;
  lines = listed.lines;
  tasks = listed.tasks;
  owned = listed.owned;
  covered = λ s. elim (listed.covered s) [ inl none ↦ inl (shrinks s none) | inr some ↦ inr some ];
}

-- where one sequence has changed
pub shrinks_at : (held : Held) (q : ℕ) (tasks : List Waiting) (cell : Option ℕ) → ((sequence_at held q).tasks ≡ [] → tasks ≡ [])
    → (s : ℕ) → (sequence_at held s).tasks ≡ []
    → (slice_index_or (with_sequence held q (record { tasks = tasks; cell = cell })) s fresh).tasks ≡ []
shrinks_at held q tasks cell shrinks s none = elim (cases_eq s q) [
  | inl same ↦ own same
  | inr another ↦ ap (λ x. x.tasks) (get_or-set_other held.sequences q s (record { tasks = tasks; cell = cell }) fresh another) ∙ none
]
  where
    own : s ≡ q → (slice_index_or (slice_set held.sequences q (record { tasks = tasks; cell = cell })) s fresh).tasks ≡ []
    own same = elim (cases_lt q (length held.sequences)) [
      | inl there ↦ ap (λ x. x.tasks) (ap (λ k. slice_index_or (slice_set held.sequences q (record { tasks = tasks; cell = cell })) k fresh) same
          ∙ get_or-set_same held.sequences q (record { tasks = tasks; cell = cell }) fresh there) ∙ shrinks (subst (λ k. (sequence_at held k).tasks ≡ []) same none)
      | inr past ↦ ap (λ xs. (slice_index_or xs s fresh).tasks) (set_past held.sequences q (record { tasks = tasks; cell = cell }) past) ∙ none
    ]

posted_kept : (postings : List (Option Posting)) (task t runner : ℕ) (posting : Posting) → slice_get postings task ≡ Some None
    → IsPostedTo postings t runner → IsPostedTo (slice_set postings task (Some posting)) t runner
posted_kept postings task t runner posting new to = record {
  posting = to.posting;
  posted = slice_get-set_other postings task t (Some posting)
      (λ same. none-some to.posting (some-injective (sym new ∙ ap (slice_get postings) same ∙ to.posted))) ∙ to.posted;
  runner_is = to.runner_is;
}

-- where a new task is posted
pub listed_posted : (script : Plan) (postings : List (Option Posting)) (held : Held) (lists : Lists) (task : ℕ) (posting : Posting)
    → slice_get postings task ≡ Some None → AreListed script postings held lists → AreListed script (slice_set postings task (Some posting)) held lists
listed_posted script postings held lists task posting new listed = record {
  apart = listed.apart;
  lines = listed.lines;
  tasks = listed.tasks;
  owned = λ l t among. posted_kept postings task t l posting new (listed.owned l t among);
  covered = λ s. elim (listed.covered s) [
    | inl none ↦ inl none
    | inr some ↦ inr (elim some [
      | inl own ↦ inl own
      | inr of ↦ inr (record {
        list = of.list;
        task = of.task;
        runner = of.runner;
        listed = of.listed;
        posted = posted_kept postings task of.task of.runner posting new of.posted;
        sequence_is = of.sequence_is;
      })
    ])
  ];
}

of_kept : (script : Plan) (postings : List (Option Posting)) (before now : Lists) (into t s : ℕ) → IsPushed before now into t
    → IsOfListed script postings before s → IsOfListed script postings now s
of_kept script postings before now into t s is of = record {
  list = of.list;
  task = of.task;
  runner = of.runner;
  listed = pushed_kept before now into t is of.list of.task of.listed;
  posted = of.posted;
  sequence_is = of.sequence_is;
}

-- where a task has come to its sequence, and into the list of its runner
pub listed_arrived : (script : Plan) (postings : List (Option Posting)) (held later : Held) (lists : Lists) (task : ℕ) (posting : Posting)
    → slice_get postings task ≡ Some (Some posting) → posting.runner < length script.runners → task < length script.tasks
    → ((s : ℕ) → (s ≡ sequence_of script posting.runner task → ⊥) → sequence_at later s ≡ sequence_at held s)
    → AreListed script postings held lists
    → AreListed script postings later (cond (sequence_of script posting.runner task == posting.runner) lists (with_task lists posting.runner task))
listed_arrived script postings held later lists task posting posted declared task_declared others listed =
    by_own (sequence_of script posting.runner task == posting.runner) refl
  where
    runner : ℕ
    runner = posting.runner

    home : ℕ
    home = sequence_of script posting.runner task

    now : Lists
    now = with_task lists runner task

    is : IsPushed lists now runner task × AreApart now × AreAsMany now lists
    is = with_task_is lists runner task listed.apart (omega (arith, declared, listed.lines)) (omega (arith, task_declared, listed.tasks))

    by_own : (b : Bool) → (home == runner) ≡ b → AreListed script postings later (cond b lists now)
    by_own true own = record {
      apart = listed.apart;
      lines = listed.lines;
      tasks = listed.tasks;
      owned = listed.owned;
      covered = λ s. elim (cases_eq s home) [
        | inl same ↦ inr (inl (subst (λ k. k < length script.runners) (sym (same ∙ eqb-true home runner own)) declared))
        | inr another ↦ subst (λ x. (x.tasks ≡ []) ⊎ ((s < length script.runners) ⊎ IsOfListed script postings lists s)) (sym (others s another)) (listed.covered s)
      ];
    }
    by_own false other = record {
      apart = is.1;
      lines = is.2.lists ∙ listed.lines;
      tasks = is.2.tasks ∙ listed.tasks;
      owned = λ l t among. elim (pushed_was lists now runner task is.0 l t among) [
        | inl old ↦ listed.owned l t old
        | inr new ↦ record { posting = posting; posted = subst (λ k. slice_get postings k ≡ Some (Some posting)) (sym new.1) posted; runner_is = sym new.0 }
      ];
      covered = λ s. elim (cases_eq s home) [
        | inl same ↦ let there = pushed_there lists now runner task is.0 in inr (inr (record {
          list = there.0;
          task = task;
          runner = runner;
          listed = there.1;
          posted = record { posting = posting; posted = posted; runner_is = refl };
          sequence_is = sym same;
        }))
        | inr another ↦ subst (λ x. (x.tasks ≡ []) ⊎ ((s < length script.runners) ⊎ IsOfListed script postings now s)) (sym (others s another))
            (elim (listed.covered s) [
              | inl none ↦ inl none
              | inr some ↦ inr (elim some [ inl own ↦ inl own | inr of ↦ inr (of_kept script postings lists now runner task s is.0 of) ])
            ])
      ];
    }
