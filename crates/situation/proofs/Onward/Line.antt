-- One more entry after two pasts in the same situation: the line of the pool, and the tasks that are not ripe.
-- Cited by `Onward/Unripe`, `Onward/Whole`, `log_count`.
use Rattle.std.proofs.Common.{◌≡◌, ℕ, Bool, true, false, cond, List, [], ◌∷◌, ◌++◌, length, map, refl, sym, ap, ◌∙◌, Option, Some, None, arith}
use Rattle.std.specs.Prelude.{◌&&◌, ◌||◌, not, nat_le, nat_lt, is_none, filter}
use Rattle.std.specs.Option.{option_map}
use Rattle.std.proofs.lemmas.Bool.{ltb-true, lt-ltb, true≢false}
use Rattle.std.proofs.lemmas.List.{map-append}
use Rattle.std.proofs.lemmas.List.Elements.{filter-append}
use Rattle.std.proofs.lemmas.Simd.{map-map}
use Rattle.task_base.specs.Plan.{Plan}
use Rattle.task_base.specs.declared.entry.Entry.{Entry}
use Rattle.task_base.specs.declared.entry.Kind.{Kind}
use Rattle.task_base.specs.declared.entry.Kind.TheVariants as kinds
use Rattle.task_traits.specs.Behaviour.{forbids}
use Rattle.task_traits.specs.declared.phase.Phase.{Phase}
use Rattle.task_traits.specs.declared.phase.Phase.TheVariants as phases
use Rattle.task_traits.specs.declared.traits.Behaviour.{Behaviour}
use Rattle.list_laws.specs.Sorts.{sort_by}
use Rattle.list_laws.proofs.Filters.{filter_congr, filter-filter, filter-map}
use Rattle.list_laws.proofs.Rises.{sort_by-filter}
use Rattle.list_laws.proofs.Sorts.{differ-filter}
use Rattle.task_model.specs.Time.{tick_from}
use Rattle.task_model.specs.Phase.{phase_of, phase_after}
use Rattle.task_model.specs.Posts.{Posted, is_delayed, is_taken, takes, posts, ripens_before}
use Rattle.task_model.specs.Refusal.{effective_at, behaviour_of_job}
use Rattle.task_model.specs.Sequences.{may_start}
use Rattle.task_model.specs.Jobs.{JobPosted, job_post_of, is_cancelled, cancels, claimed, has_unclaimed, items_of}
use Rattle.task_model.proofs.Growth.{phase_of_push, is_taken_push, is_cancelled_push, claimed_push}
use Rattle.pool_laws.specs.Keys.{becomes_ripe, ripe_behind, ready_behind, arriving_by}
use Rattle.pool_laws.proofs.Keys.Arrivals.{ranks_ripens, posts_differ}
use Rattle.situation.specs.Line.{Standing, TaskStands, JobStands, Waiter, Task, OfJob, comers, joining_by, is_job_open, still_stands, standing, waiter_of}
use Rattle.situation.specs.Line.{line_of}
use Rattle.situation.specs.Situation.{is_unripe, without_place, unripe_of, job_reply}
use Rattle.situation.specs.Onward.{task_stays, stays, waiter_of_unripe, coming}
use Rattle.situation.proofs.Line.{comers_push}

-- ---- what is forbidden stays forbidden

forbids_rises : (phase : Phase) (kind : Kind) (b : Behaviour) → forbids phase b ≡ true → forbids (phase_after phase kind) b ≡ true
forbids_rises phases.Running kind b h = absurd cc
forbids_rises phases.Started kinds.Shutdown b h = h
forbids_rises phases.Started kinds.Done b h = refl
forbids_rises phases.Started kind b h = h
forbids_rises phases.Done kinds.Shutdown b h = refl
forbids_rises phases.Done kinds.Done b h = refl
forbids_rises phases.Done kind b h = refl

still_forbidden : (past : List Entry) (e : Entry) (b : Behaviour) → forbids (phase_of past) b ≡ true → forbids (phase_of (past ++ e ∷ [])) b ≡ true
still_forbidden past e b h = ap (λ p. forbids p b) (phase_of_push past e) ∙ forbids_rises (phase_of past) e.kind b h

-- ---- who stays

module _ (script : Plan) (past : List Entry) (e : Entry) where
  pub may_start_push : (p : Posted) → may_start script (past ++ e ∷ []) p
      ≡ (may_start script past p && task_stays script (phase_of (past ++ e ∷ [])) e.kind p.task p.home p.delay)
  may_start_push p = ap (λ b. not b && not (forbids (phase_of (past ++ e ∷ [])) (effective_at script p.home p.delay))) (is_taken_push past e p.task)
      ∙ by_tests (is_taken past p.task) (takes p.task e.kind) (forbids (phase_of past) (effective_at script p.home p.delay))
      (forbids (phase_of (past ++ e ∷ [])) (effective_at script p.home p.delay)) (still_forbidden past e (effective_at script p.home p.delay))
    where
      by_tests : (a b c d : Bool) → (c ≡ true → d ≡ true) → (not (a || b) && not d) ≡ ((not a && not c) && (not b && not d))
      by_tests true b c d rises = refl
      by_tests false true false d rises = refl
      by_tests false true true d rises = refl
      by_tests false false false d rises = refl
      by_tests false false true true rises = refl
      by_tests false false true false rises = absurd (true≢false (sym (rises refl)))

  job_open_push : (j : ℕ) → is_job_open script (past ++ e ∷ []) j
      ≡ (is_job_open script past j && stays script (phase_of (past ++ e ∷ [])) (claimed (past ++ e ∷ [])) e.kind (OfJob j))
  job_open_push j = ap (λ b. not b && not (forbids (phase_of (past ++ e ∷ [])) (behaviour_of_job script j)) && nat_lt (claimed (past ++ e ∷ []) j)
      (items_of script j))
      (is_cancelled_push past e j)
      ∙ by_tests (is_cancelled past j) (cancels j e.kind) (forbids (phase_of past) (behaviour_of_job script j))
      (forbids (phase_of (past ++ e ∷ [])) (behaviour_of_job script j)) (has_unclaimed script past j) (has_unclaimed script (past ++ e ∷ []) j)
      (still_forbidden past e (behaviour_of_job script j)) unclaimed
    where
      unclaimed : has_unclaimed script (past ++ e ∷ []) j ≡ true → has_unclaimed script past j ≡ true
      unclaimed h = lt-ltb (claimed past j) (items_of script j)
          (omega (arith, ltb-true (claimed (past ++ e ∷ []) j) (items_of script j) h, claimed_push past e j))

      by_tests : (a b c d m n : Bool) → (c ≡ true → d ≡ true) → (n ≡ true → m ≡ true)
          → (not (a || b) && not d && n) ≡ ((not a && not c && m) && (not b && not d && n))
      by_tests true b c d m n rises falls = refl
      by_tests false true false d true n rises falls = refl
      by_tests false true false d false n rises falls = refl
      by_tests false true true d m n rises falls = refl
      by_tests false false false true true n rises falls = refl
      by_tests false false false true false n rises falls = refl
      by_tests false false false false true n rises falls = refl
      by_tests false false false false false false rises falls = refl
      by_tests false false false false false true rises falls = absurd (true≢false (sym (falls refl)))
      by_tests false false true true m n rises falls = refl
      by_tests false false true false m n rises falls = absurd (true≢false (sym (rises refl)))

  still_push : (x : Standing) → still_stands script (past ++ e ∷ []) x
      ≡ (still_stands script past x && stays script (phase_of (past ++ e ∷ [])) (claimed (past ++ e ∷ [])) e.kind (waiter_of x))
  still_push (TaskStands r) = may_start_push r.posted
  still_push (JobStands j post) = job_open_push j

  -- who comes into the line at the entry
  abbrev pub newcomers : List Waiter
  newcomers = map waiter_of (filter (still_stands script (past ++ e ∷ [])) (joining_by past e.kind))

  -- the line is what stays of it, and then the newcomers
  pub line_push : line_of script (past ++ e ∷ [])
      ≡ filter (stays script (phase_of (past ++ e ∷ [])) (claimed (past ++ e ∷ [])) e.kind) (line_of script past) ++ newcomers
  unfolding line_of standing
  line_push =
      ap (λ xs. map waiter_of (filter (still_stands script (past ++ e ∷ [])) xs)) (comers_push past e)
      ∙ ap (map waiter_of) (filter-append (still_stands script (past ++ e ∷ [])) (comers past) (joining_by past e.kind))
      ∙ map-append waiter_of (filter (still_stands script (past ++ e ∷ [])) (comers past)) (filter (still_stands script (past ++ e ∷ []))
      (joining_by past e.kind))
      ∙ ap (λ xs. xs ++ newcomers) (ap (map waiter_of) kept ∙ sym (filter-map keeps waiter_of (filter (still_stands script past) (comers past))))
    where
      keeps : Waiter → Bool
      keeps = stays script (phase_of (past ++ e ∷ [])) (claimed (past ++ e ∷ [])) e.kind

      kept : filter (still_stands script (past ++ e ∷ [])) (comers past) ≡ filter (λ x. keeps (waiter_of x)) (filter (still_stands script past) (comers past))
      kept = filter_congr (still_stands script (past ++ e ∷ [])) (λ x. still_stands script past x && keeps (waiter_of x)) (comers past) still_push
          ∙ sym (filter-filter (λ x. keeps (waiter_of x)) (still_stands script past) (comers past))

-- ---- the newcomers

module _ (script : Plan) (past : List Entry) (e : Entry) where
  -- a task that becomes ripe may start after the tick where it might before
  at_tick : (now : ℕ) → e.kind ≡ kinds.Tick now → (p : Posted) → may_start script (past ++ e ∷ []) p ≡ may_start script past p
  at_tick now is p = ap (λ b. not b && not (forbids (phase_of (past ++ e ∷ [])) (effective_at script p.home p.delay))) (is_taken_push past e p.task
      ∙ ap (λ k. is_taken past p.task || takes p.task k) is ∙ or_none (is_taken past p.task))
      ∙ ap (λ ph. not (is_taken past p.task) && not (forbids ph (effective_at script p.home p.delay))) (phase_of_push past e
      ∙ ap (phase_after (phase_of past)) is)
    where
      or_none : (b : Bool) → (b || false) ≡ b
      or_none true = refl
      or_none false = refl

  ripened : (now : ℕ) → e.kind ≡ kinds.Tick now
      → map waiter_of (filter (still_stands script (past ++ e ∷ [])) (map TaskStands (arriving_by past (kinds.Tick now))))
      ≡ map waiter_of_unripe (filter (λ u. nat_le u.ripe now) (unripe_of script past))
  unfolding unripe_of
  ripened now is =
      ap (map waiter_of) (filter-map (still_stands script (past ++ e ∷ [])) TaskStands (map (ripe_behind past) newly)
      ∙ ap (map TaskStands) (filter-map (λ r. may_start script (past ++ e ∷ []) r.posted) (ripe_behind past) newly))
      ∙ map-map waiter_of TaskStands (map (ripe_behind past) (filter (may_start script (past ++ e ∷ [])) newly))
      ∙ map-map (λ r. waiter_of (TaskStands r)) (ripe_behind past) (filter (may_start script (past ++ e ∷ [])) newly)
      ∙ ap (map (λ p. Task p.task p.home p.delay)) (filter_congr (may_start script (past ++ e ∷ [])) (may_start script past) newly (at_tick now is) ∙ reordered)
      ∙ sym (ap (map waiter_of_unripe) (filter-map (λ u. nat_le u.ripe now) without_place (sort_by ripens_before (filter (is_unripe script past) (posts past))))
      ∙ map-map waiter_of_unripe without_place (filter (λ p. nat_le p.ripe now) (sort_by ripens_before (filter (is_unripe script past) (posts past)))))
    where
      newly : List Posted
      newly = sort_by ripens_before (filter (becomes_ripe past now) (posts past))

      one_test : (a b c d : Bool) → ((a && b && c) && d) ≡ ((a && c && d) && b)
      one_test true true true d = by_last d
        where
          by_last : (d : Bool) → d ≡ (d && true)
          by_last true = refl
          by_last false = refl
      one_test true false true true = refl
      one_test true false true false = refl
      one_test true true false d = refl
      one_test true false false d = refl
      one_test false b c d = refl

      reordered : filter (may_start script past) newly ≡ filter (λ p. nat_le p.ripe now) (sort_by ripens_before (filter (is_unripe script past) (posts past)))
      reordered =
          sym (sort_by-filter ripens_before ranks_ripens (may_start script past) (filter (becomes_ripe past now) (posts past))
          (differ-filter ripens_before (becomes_ripe past now) (posts past) (posts_differ past)))
          ∙ ap (sort_by ripens_before) (filter-filter (may_start script past) (becomes_ripe past now) (posts past)
          ∙ filter_congr (λ p. becomes_ripe past now p && may_start script past p) (λ p. is_unripe script past p && nat_le p.ripe now) (posts past)
          (λ p. one_test (is_delayed p) (nat_le p.ripe now) (is_none (tick_from past p.ripe)) (may_start script past p))
          ∙ sym (filter-filter (λ p. nat_le p.ripe now) (is_unripe script past) (posts past)))
          ∙ sort_by-filter ripens_before ranks_ripens (λ p. nat_le p.ripe now) (filter (is_unripe script past) (posts past))
          (differ-filter ripens_before (is_unripe script past) (posts past) (posts_differ past))

  -- a task that is posted now was not taken
  pub newcomers_are : ((task runner delay : ℕ) → e.kind ≡ kinds.Post task runner delay true → is_taken past task ≡ false)
      → newcomers script past e ≡ coming script (phase_of (past ++ e ∷ [])) (is_job_open script (past ++ e ∷ [])) (job_reply past)
      (unripe_of script past) e.kind
  newcomers_are fresh = by_kind e.kind refl
    where
      first : (job : ℕ) → is_none (job_post_of past job) ≡ is_none (job_reply past job)
      first job = by_post (job_post_of past job)
        where
          by_post : (o : Option JobPosted) → is_none o ≡ is_none (option_map (λ (p : JobPosted). p.ok) o)
          by_post None = refl
          by_post (Some p) = refl

      job_comes : (job : ℕ) (ok b : Bool)
          → map waiter_of (filter (still_stands script (past ++ e ∷ [])) (cond b (JobStands job (record { place = length past; ok = ok }) ∷ []) []))
          ≡ cond b (cond (is_job_open script (past ++ e ∷ []) job) (OfJob job ∷ []) []) []
      job_comes job ok false = refl
      job_comes job ok true = by_open (is_job_open script (past ++ e ∷ []) job)
        where
          by_open : (c : Bool) → map waiter_of (cond c (JobStands job (record { place = length past; ok = ok }) ∷ []) []) ≡ cond c (OfJob job ∷ []) []
          by_open true = refl
          by_open false = refl

      task_comes : (task runner delay : ℕ) → e.kind ≡ kinds.Post task runner delay true → (b : Bool)
          → map waiter_of (filter (still_stands script (past ++ e ∷ [])) (map TaskStands (cond b [] (ready_behind past task runner delay ∷ []))))
          ≡ cond b [] (cond (not (forbids (phase_of (past ++ e ∷ [])) (effective_at script runner delay))) (Task task runner delay ∷ []) [])
      task_comes task runner delay is true = refl
      task_comes task runner delay is false =
          let untaken : is_taken (past ++ e ∷ []) task ≡ false =
          is_taken_push past e task ∙ ap (λ b. b || takes task e.kind) (fresh task runner delay is) ∙ ap (takes task) is in
          rw untaken (by_test (forbids (phase_of (past ++ e ∷ [])) (effective_at script runner delay)))
        where
          by_test : (c : Bool) → map waiter_of (cond (not c) (TaskStands (ready_behind past task runner delay) ∷ []) [])
              ≡ cond (not c) (Task task runner delay ∷ []) []
          by_test true = refl
          by_test false = refl

      by_kind : (kind : Kind) → e.kind ≡ kind → map waiter_of (filter (still_stands script (past ++ e ∷ [])) (joining_by past kind))
          ≡ coming script (phase_of (past ++ e ∷ [])) (is_job_open script (past ++ e ∷ [])) (job_reply past) (unripe_of script past) kind
      by_kind (kinds.Post task runner delay true) is = task_comes task runner delay is (nat_lt 0 delay)
      by_kind (kinds.JobPost job ok) is = job_comes job ok (is_none (job_post_of past job) && ok)
          ∙ ap (λ b. cond (b && ok) (cond (is_job_open script (past ++ e ∷ []) job) (OfJob job ∷ []) []) []) (first job)
      by_kind (kinds.Tick now) is = ripened now is
      by_kind kind is = refl
