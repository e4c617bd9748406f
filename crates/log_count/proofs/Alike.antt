-- The situation after an entry goes by its kind without the items of jobs.
-- Cited by `Promised`.
use Rattle.std.proofs.Common.{◌≡◌, ℕ, ◌+◌, Bool, cond, eqb, List, [], ◌∷◌, ◌++◌, length, refl, ap, ◌∙◌, Option, Some, None}
use Rattle.std.specs.Prelude.{filter}
use Rattle.std.specs.Option.{option_map}
use Rattle.std.specs.List.{range_with_len}
use Rattle.task_base.specs.Plan.{Plan}
use Rattle.task_base.specs.declared.entry.JobReply.TheVariants.{Finished}
use Rattle.task_base.specs.declared.entry.Kind.{Kind}
use Rattle.task_base.specs.declared.entry.Kind.TheVariants as kinds
use Rattle.task_base.specs.declared.script.Action.{Action}
use Rattle.task_base.specs.declared.script.Action.TheVariants as actions
use Rattle.list_laws.proofs.Elements.{AllByRecursion-always}
use Rattle.list_laws.proofs.Filters.{filter_congr, map-congr_in}
use Rattle.task_model.specs.Phase.{phase_after}
use Rattle.task_model.specs.Seats.{all_seats}
use Rattle.task_model.specs.Capacity.{priority_after}
use Rattle.hist_model.specs.Laws.Agenda.{agenda_from}
use Rattle.situation.specs.Alike.{without_items}
use Rattle.situation.specs.Line.{Waiter, Task, OfJob}
use Rattle.situation.specs.Onward.{coming, reply_after, stays}
use Rattle.situation.specs.Situation.{Situation}
use Rattle.situation.proofs.Onward.Whole.{situation_is}
use Rattle.situation.proofs.Told.{by_jobs, cancels_told, claims_told, joins_told, main_ends_told, main_none_told, now_told, phase_told, policy_told}
use Rattle.situation.proofs.Told.{priority_told, same_told}
use Rattle.log_count.specs.After.{after_in, blocks_after, cell_by, claims_after, completes_at, driver_after, driver_of, is_open_after}
use Rattle.log_count.specs.After.{job_known_after, line_after}
use Rattle.log_count.specs.After.{made_after, seat_after, skips_after, unripe_after}
use Rattle.log_count.specs.Parts.{actions_in, claimed_in, priority_in, reply_in}

pub without_twice : (kind : Kind) → without_items kind ≡ without_items (without_items kind)
without_twice (kinds.JobStep job id item value None) = refl
without_twice (kinds.JobStep job id item value (Some next)) = refl
without_twice (kinds.Joined job (Finished sum)) = refl
without_twice (kinds.Joined job reply) = refl
without_twice kind = refl

-- ---- the driver

completes_alike : (x : Action) (n : ℕ) (kind like : Kind) → without_items kind ≡ without_items like → completes_at x n kind ≡ completes_at x n like
completes_alike (actions.Pump m) n kind like alike = rw (main_none_told kind like alike, main_ends_told kind like alike) refl
completes_alike (actions.Join j) n kind like alike = joins_told kind like alike
completes_alike action n kind like alike = refl

made_alike : (x : Action) (n : ℕ) (kind like : Kind) → without_items kind ≡ without_items like → made_after x n kind ≡ made_after x n like
made_alike (actions.Pump m) n kind like alike = ap (λ b. n + cond b 1 0) (main_ends_told kind like alike)
made_alike action n kind like alike = refl

driver_alike : (xs : List Action) (n : ℕ) (kind like : Kind) → without_items kind ≡ without_items like → driver_after xs n kind ≡ driver_after xs n like
driver_alike [] n kind like alike = refl
driver_alike (x ∷ rest) n kind like alike =
    ap (λ b. cond b (driver_of (agenda_from rest [])) (record { left = length (x ∷ rest); made = made_after x n kind })) (completes_alike x n kind like alike)
    ∙ ap (λ m. cond (completes_at x n like) (driver_of (agenda_from rest [])) (record { left = length (x ∷ rest); made = m })) (made_alike x n kind like alike)

module _ (script : Plan) (s : Situation) (by : ℕ) (kind like : Kind) (alike : without_items kind ≡ without_items like) where
  -- ---- seats, jobs and cells

  seat_alike : (seat : ℕ) → seat_after script s by kind seat ≡ seat_after script s by like seat
  seat_alike seat = same_told (λ k. seat_after script s by k seat) (by_jobs (λ k. seat_after script s by k seat) (λ j i n. refl) steps (λ j n. refl))
      kind like alike
    where
      steps : (job id item value : ℕ) (next : Option ℕ) → seat_after script s by (kinds.JobStep job id item value next) seat
          ≡ seat_after script s by (kinds.JobStep job 0 0 0 (option_map (λ n. 0) next)) seat
      steps job id item value None = refl
      steps job id item value (Some next) = refl

  claims_alike : (j : ℕ) → claims_after s kind j ≡ claims_after s like j
  claims_alike j = ap (λ b. claimed_in s j + cond b 1 0) (claims_told j kind like alike)

  cancels_alike : (j : ℕ) → job_known_after s kind j ≡ job_known_after s like j
  cancels_alike j = rw (reply_alike, cancels_told j kind like alike, claims_alike j) refl
    where
      tells : (o : Option Bool) (k : Kind) → reply_after j o k ≡ reply_after j o (without_items k)
      tells None (kinds.Joined job (Finished sum)) = refl
      tells None (kinds.Joined job reply) = refl
      tells None k = refl
      tells (Some ok) k = refl

      reply_alike : reply_after j (reply_in s j) kind ≡ reply_after j (reply_in s j) like
      reply_alike = same_told (reply_after j (reply_in s j)) (tells (reply_in s j)) kind like alike

  cell_alike : (i : ℕ) → cell_by script s by kind i ≡ cell_by script s by like i
  cell_alike i = same_told (λ k. cell_by script s by k i) (by_jobs (λ k. cell_by script s by k i) (λ j i n. refl) (λ j i n v k. refl) (λ j n. refl))
      kind like alike

  -- ---- the line, and what is not ripe

  stays_alike : (w : Waiter) → stays script (phase_after s.phase kind) (claims_after s kind) kind w
      ≡ stays script (phase_after s.phase like) (claims_after s like) like w
  stays_alike (Task t h d) = same_told (λ k. stays script (phase_after s.phase k) (claims_after s k) k (Task t h d))
      (by_jobs (λ k. stays script (phase_after s.phase k) (claims_after s k) k (Task t h d)) (λ j i n. refl) (λ j i n v k. refl) (λ j n. refl)) kind like alike
  stays_alike (OfJob j) = rw (cancels_told j kind like alike, phase_told s.phase kind like alike, claims_alike j) refl

  coming_alike : coming script (phase_after s.phase kind) (is_open_after script s kind) (reply_in s) s.unripe kind
      ≡ coming script (phase_after s.phase like) (is_open_after script s like) (reply_in s) s.unripe like
  coming_alike = same_told (λ k. coming script (phase_after s.phase k) (is_open_after script s k) (reply_in s) s.unripe k)
      (by_jobs (λ k. coming script (phase_after s.phase k) (is_open_after script s k) (reply_in s) s.unripe k) (λ j i n. refl) (λ j i n v k. refl)
      (λ j n. refl)) kind like alike

  line_alike : line_after script s kind ≡ line_after script s like
  line_alike =
      ap (λ ws. ws ++ coming script (phase_after s.phase kind) (is_open_after script s kind) (reply_in s) s.unripe kind)
      (filter_congr (stays script (phase_after s.phase kind) (claims_after s kind) kind) (stays script (phase_after s.phase like) (claims_after s like) like)
      s.line stays_alike)
      ∙ ap (λ ws. filter (stays script (phase_after s.phase like) (claims_after s like) like) s.line ++ ws) coming_alike

  unripe_alike : unripe_after script s kind ≡ unripe_after script s like
  unripe_alike = same_told (unripe_after script s) (by_jobs (unripe_after script s) (λ j i n. refl) (λ j i n v k. refl) (λ j n. refl)) kind like alike

  -- ---- all together

  pub after_alike : after_in script s by kind ≡ after_in script s by like
  unfolding after_in
  after_alike = situation_is (after_in script s by kind) (after_in script s by like)
      (ap (λ d. cond (eqb by 0) d s.driver) (driver_alike (actions_in script s) s.driver.made kind like alike))
      (now_told s.now kind like alike) (phase_told s.phase kind like alike) (policy_told s.policy kind like alike)
      (map-congr_in (λ r. priority_after r (priority_in script s r) kind) (λ r. priority_after r (priority_in script s r) like)
      (range_with_len 0 (length script.runners))
      (AllByRecursion-always (λ r. priority_after r (priority_in script s r) kind ≡ priority_after r (priority_in script s r) like)
      (range_with_len 0 (length script.runners)) (λ r. priority_told r (priority_in script s r) kind like alike)))
      (map-congr_in (seat_after script s by kind) (seat_after script s by like) (all_seats script)
      (AllByRecursion-always (λ i. seat_after script s by kind i ≡ seat_after script s by like i) (all_seats script) seat_alike))
      line_alike unripe_alike
      (map-congr_in (job_known_after s kind) (job_known_after s like) (range_with_len 0 (length script.jobs))
      (AllByRecursion-always (λ j. job_known_after s kind j ≡ job_known_after s like j) (range_with_len 0 (length script.jobs)) cancels_alike))
      (map-congr_in (cell_by script s by kind) (cell_by script s by like) (range_with_len 0 (length script.runners))
      (AllByRecursion-always (λ i. cell_by script s by kind i ≡ cell_by script s by like i) (range_with_len 0 (length script.runners)) cell_alike))
      (same_told (blocks_after script s by) (by_jobs (blocks_after script s by) (λ j i n. refl) (λ j i n v k. refl) (λ j n. refl)) kind like alike)
      (same_told (skips_after script s by) (by_jobs (skips_after script s by) (λ j i n. refl) (λ j i n v k. refl) (λ j n. refl)) kind like alike)
