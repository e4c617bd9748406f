-- One more entry after two pasts in the same situation leaves them in the same situation.
-- Cited by `Counts`, `Futures`, `moves.rt`, `log_count`.
use Rattle.std.proofs.Common.{◌≡◌, ℕ, true, cond, List, [], ◌∷◌, ◌++◌, length, map, refl, sym, ap, ◌∙◌, Option, Some, None, arith}
use Rattle.std.specs.Prelude.{◌&&◌, not, nat_lt, nat_le, is_none, filter}
use Rattle.std.specs.List.{range_with_len}
use Rattle.std.proofs.lemmas.Bool.{and_parts}
use Rattle.task_base.specs.Plan.{Plan}
use Rattle.task_base.specs.declared.entry.Entry.{Entry}
use Rattle.task_base.specs.declared.entry.Kind.{Kind}
use Rattle.task_base.specs.declared.entry.Kind.TheVariants as kinds
use Rattle.task_traits.specs.Behaviour.{forbids}
use Rattle.list_laws.proofs.Elements.{AllByRecursion-always}
use Rattle.list_laws.proofs.Filters.{filter_congr, map-congr_in}
use Rattle.list_laws.proofs.Ranges.{AllByRecursion-range}
use Rattle.script_model.specs.Laws.Sound.{IsSound}
use Rattle.task_model.specs.Time.{now_of, is_tick_from}
use Rattle.task_base.specs.declared.policy.Policy.{Policy}
use Rattle.task_traits.specs.declared.phase.Phase.{Phase}
use Rattle.task_traits.specs.declared.traits.Priority.{Priority}
use Rattle.task_model.specs.Phase.{phase_of}
use Rattle.task_model.specs.Posts.{takes}
use Rattle.task_model.specs.Refusal.{effective_at, behaviour_of_job}
use Rattle.task_model.specs.Seats.{Running, running, all_seats}
use Rattle.task_model.specs.Cells.{cell_of}
use Rattle.task_model.specs.Capacity.{priority_of}
use Rattle.task_model.specs.Jobs.{cancels, claimed, items_of}
use Rattle.hist_model.specs.Allowed.{IsAllowed, may_come}
use Rattle.hist_model.specs.Legal.{IsLegal}
use Rattle.hist_model.proofs.Laws.Rising.{legal_rises}
use Rattle.situation.specs.Alike.{without_items}
use Rattle.situation.specs.Line.{Waiter, Task, OfJob, is_job_open, line_of}
use Rattle.situation.specs.Same.{SameWork}
use Rattle.situation.specs.Situation.{DriverAt, driver_at, JobAt, SeatAt, Situation, Unripe, job_at, job_reply, seat_at, acts_now, taken_now, is_pool_script}
use Rattle.situation.specs.Situation.{situation_of, unripe_of}
use Rattle.situation.proofs.Same.{same_work}
use Rattle.situation.proofs.Told.{same_told, by_jobs, takes_told, cancels_told}
use Rattle.situation.proofs.Onward.Folds.{driver_on, now_on, phase_on, policy_on, priorities_on, runs_on, held_on, acts_on, taken_on, replies_on, cancels_on}
use Rattle.situation.proofs.Onward.Folds.{claims_on, cells_on}
use Rattle.situation.proofs.Onward.Scopes.{scopes_on}
use Rattle.situation.specs.Onward.{waiter_of_unripe, coming, stays, new_unripe, put_in, unripe_stays}
use Rattle.situation.proofs.Onward.Line.{line_push, newcomers, newcomers_are}
use Rattle.situation.proofs.Onward.Unripe.{unripe_push}
use Rattle.situation.proofs.Onward.Tasks.{behaviours_on, blocks_on, skips_on, new_here, new_there}

module _ (script : Plan) (past other : List Entry) (sound : IsSound script) (pool : is_pool_script script ≡ true) (legal : IsLegal script past)
    (legal_other : IsLegal script other) (same : SameWork script past other) (e f : Entry) (seat : e.seat ≡ f.seat)
    (alike : without_items e.kind ≡ without_items f.kind) (allowed : IsAllowed script past e) (allowed_other : IsAllowed script other f) where
  may : may_come script past e.seat e.kind ≡ true
  may = (and_parts _ (may_come script past e.seat e.kind) allowed).1

  may_other : may_come script other f.seat f.kind ≡ true
  may_other = (and_parts _ (may_come script other f.seat f.kind) allowed_other).1

  phase_then : phase_of (past ++ e ∷ []) ≡ phase_of (other ++ f ∷ [])
  phase_then = phase_on script past other same e f seat alike

  claims_then : (j : ℕ) → claimed (past ++ e ∷ []) j ≡ claimed (other ++ f ∷ []) j
  claims_then = claims_on script past other same e f seat alike

  -- ---- the line

  task_stays_same : (t home delay : ℕ) → (not (takes t e.kind) && not (forbids (phase_of (past ++ e ∷ [])) (effective_at script home delay)))
      ≡ (not (takes t f.kind) && not (forbids (phase_of (other ++ f ∷ [])) (effective_at script home delay)))
  task_stays_same t home delay =
      ap (λ b. not b && not (forbids (phase_of (past ++ e ∷ [])) (effective_at script home delay))) (takes_told t e.kind f.kind alike)
      ∙ ap (λ p. not (takes t f.kind) && not (forbids p (effective_at script home delay))) phase_then

  stays_same : (w : Waiter) → stays script (phase_of (past ++ e ∷ [])) (claimed (past ++ e ∷ [])) e.kind w
      ≡ stays script (phase_of (other ++ f ∷ [])) (claimed (other ++ f ∷ [])) f.kind w
  stays_same (Task t home delay) = task_stays_same t home delay
  stays_same (OfJob j) =
      ap (λ b. not b && not (forbids (phase_of (past ++ e ∷ [])) (behaviour_of_job script j)) && nat_lt (claimed (past ++ e ∷ []) j) (items_of script j))
      (cancels_told j e.kind f.kind alike)
      ∙ ap (λ p. not (cancels j f.kind) && not (forbids p (behaviour_of_job script j)) && nat_lt (claimed (past ++ e ∷ []) j) (items_of script j)) phase_then
      ∙ ap (λ n. not (cancels j f.kind) && not (forbids (phase_of (other ++ f ∷ [])) (behaviour_of_job script j)) && nat_lt n (items_of script j))
      (claims_then j)

  open_then : (j : ℕ) → is_job_open script (past ++ e ∷ []) j ≡ is_job_open script (other ++ f ∷ []) j
  open_then j = rw (cancels_on script past other same e f seat alike j, phase_then, claims_then j) refl

  coming_same : (kind : Kind) → coming script (phase_of (past ++ e ∷ [])) (is_job_open script (past ++ e ∷ [])) (job_reply past) (unripe_of script past) kind
      ≡ coming script (phase_of (other ++ f ∷ [])) (is_job_open script (other ++ f ∷ [])) (job_reply other) (unripe_of script other) kind
  coming_same (kinds.Post task runner delay true) = ap (λ p. cond (nat_lt 0 delay) []
      (cond (not (forbids p (effective_at script runner delay))) (Task task runner delay ∷ []) [])) phase_then
  coming_same (kinds.JobPost job ok) =
      ap (λ o. cond (is_none o && ok) (cond (is_job_open script (past ++ e ∷ []) job) (OfJob job ∷ []) []) []) (same.replies job)
      ∙ ap (λ b. cond (is_none (job_reply other job) && ok) (cond b (OfJob job ∷ []) []) []) (open_then job)
  coming_same (kinds.Tick now) = ap (λ us. map waiter_of_unripe (filter (λ u. nat_le u.ripe now) us)) same.unripe
  coming_same kind = refl

  newcomers_same : newcomers script past e ≡ newcomers script other f
  newcomers_same =
      newcomers_are script past e (λ task runner delay is.
      (new_here script past other sound pool legal legal_other same e f seat alike allowed allowed_other may may_other task runner delay true is).not_taken)
      ∙ coming_same e.kind ∙ told
      ∙ sym (newcomers_are script other f (λ task runner delay is.
      (new_there script past other sound pool legal legal_other same e f seat alike allowed allowed_other may may_other task runner delay true is).not_taken))
    where
      told : coming script (phase_of (other ++ f ∷ [])) (is_job_open script (other ++ f ∷ [])) (job_reply other) (unripe_of script other) e.kind
          ≡ coming script (phase_of (other ++ f ∷ [])) (is_job_open script (other ++ f ∷ [])) (job_reply other) (unripe_of script other) f.kind
      told = same_told (coming script (phase_of (other ++ f ∷ [])) (is_job_open script (other ++ f ∷ [])) (job_reply other) (unripe_of script other))
          (by_jobs (coming script (phase_of (other ++ f ∷ [])) (is_job_open script (other ++ f ∷ [])) (job_reply other) (unripe_of script other))
          (λ j i n. refl) (λ j i n v k. refl) (λ j n. refl)) e.kind f.kind alike

  line_on : line_of script (past ++ e ∷ []) ≡ line_of script (other ++ f ∷ [])
  line_on = line_push script past e
      ∙ ap (λ ws. filter (stays script (phase_of (past ++ e ∷ [])) (claimed (past ++ e ∷ [])) e.kind) ws ++ newcomers script past e) same.line
      ∙ ap (λ ws. ws ++ newcomers script past e) (filter_congr (stays script (phase_of (past ++ e ∷ [])) (claimed (past ++ e ∷ [])) e.kind)
      (stays script (phase_of (other ++ f ∷ [])) (claimed (other ++ f ∷ [])) f.kind) (line_of script other) stays_same)
      ∙ ap (λ ws. filter (stays script (phase_of (other ++ f ∷ [])) (claimed (other ++ f ∷ [])) f.kind) (line_of script other) ++ ws) newcomers_same
      ∙ sym (line_push script other f)

  -- ---- what is not ripe

  unripe_stays_same : (u : Unripe) → unripe_stays script (phase_of (past ++ e ∷ [])) e.kind u ≡ unripe_stays script (phase_of (other ++ f ∷ [])) f.kind u
  unripe_stays_same u =
      ap (λ b. not b && (not (takes u.task e.kind) && not (forbids (phase_of (past ++ e ∷ [])) (effective_at script u.home u.delay))))
      (same_told (is_tick_from u.ripe) (by_jobs (is_tick_from u.ripe) (λ j i n. refl) (λ j i n v k. refl) (λ j n. refl)) e.kind f.kind alike)
      ∙ ap (λ b. not (is_tick_from u.ripe f.kind) && b) (task_stays_same u.task u.home u.delay)

  new_unripe_same : new_unripe script (now_of past) (phase_of (past ++ e ∷ [])) e.kind ≡ new_unripe script (now_of other) (phase_of (other ++ f ∷ [])) f.kind
  new_unripe_same =
      ap (λ n. new_unripe script n (phase_of (past ++ e ∷ [])) e.kind) same.now
      ∙ ap (λ p. new_unripe script (now_of other) p e.kind) phase_then
      ∙ same_told (new_unripe script (now_of other) (phase_of (other ++ f ∷ [])))
      (by_jobs (new_unripe script (now_of other) (phase_of (other ++ f ∷ []))) (λ j i n. refl) (λ j i n v k. refl) (λ j n. refl)) e.kind f.kind alike

  unripe_on : unripe_of script (past ++ e ∷ []) ≡ unripe_of script (other ++ f ∷ [])
  unripe_on =
      unripe_push script past e (legal_rises script past legal).no_tick_ahead (λ task runner delay is.
      (new_here script past other sound pool legal legal_other same e f seat alike allowed allowed_other may may_other task runner delay true is).not_taken)
      ∙ ap (λ us. put_in (new_unripe script (now_of past) (phase_of (past ++ e ∷ [])) e.kind) (filter (unripe_stays script (phase_of
      (past ++ e ∷ [])) e.kind) us))
      same.unripe
      ∙ ap (put_in (new_unripe script (now_of past) (phase_of (past ++ e ∷ [])) e.kind)) (filter_congr (unripe_stays script (phase_of (past ++ e ∷ [])) e.kind)
      (unripe_stays script (phase_of (other ++ f ∷ [])) f.kind) (unripe_of script other) unripe_stays_same)
      ∙ ap (λ o. put_in o (filter (unripe_stays script (phase_of (other ++ f ∷ [])) f.kind) (unripe_of script other))) new_unripe_same
      ∙ sym (unripe_push script other f (legal_rises script other legal_other).no_tick_ahead (λ task runner delay is.
      (new_there script past other sound pool legal legal_other same e f seat alike allowed allowed_other may may_other task runner delay true is).not_taken))

  -- ---- all together

  same_on : SameWork script (past ++ e ∷ []) (other ++ f ∷ [])
  same_on = record {
    left = (driver_on script past other same e f seat alike).left;
    made = (driver_on script past other same e f seat alike).made;
    now = now_on script past other same e f seat alike;
    phase = phase_then;
    policy = policy_on script past other same e f seat alike;
    priorities = priorities_on script past other same e f seat alike;
    runs = runs_on script past other same e f seat alike;
    acts = acts_on script past other same e f seat alike;
    taken = taken_on script past other same e f seat alike;
    scopes = scopes_on script past other sound pool legal legal_other same e f seat alike may may_other;
    behaviours = behaviours_on script past other sound pool legal legal_other same e f seat alike allowed allowed_other may may_other;
    held = held_on script past other same e f seat alike;
    line = line_on;
    unripe = unripe_on;
    replies = replies_on script past other same e f seat alike;
    cancels = cancels_on script past other same e f seat alike;
    claims = claims_then;
    cells = cells_on script past other same e f seat alike;
    blocks = blocks_on script past other sound pool legal legal_other same e f seat alike allowed allowed_other may may_other;
    skips = skips_on script past other sound pool legal legal_other same e f seat alike allowed allowed_other may may_other;
  }

-- ---- pasts that are the same notion by notion are in the same situation

pub seat_is : (a b : SeatAt) → a.runs ≡ b.runs → a.acts ≡ b.acts → a.taken ≡ b.taken → a.scope ≡ b.scope → a.behaviour ≡ b.behaviour → a.job ≡ b.job → a ≡ b
seat_is a b e1 e2 e3 e4 e5 e6 =
    ap (λ x. record { runs = x; acts = a.acts; taken = a.taken; scope = a.scope; behaviour = a.behaviour; job = a.job }) e1
    ∙ ap (λ x. record { runs = b.runs; acts = x; taken = a.taken; scope = a.scope; behaviour = a.behaviour; job = a.job }) e2
    ∙ ap (λ x. record { runs = b.runs; acts = b.acts; taken = x; scope = a.scope; behaviour = a.behaviour; job = a.job }) e3
    ∙ ap (λ x. record { runs = b.runs; acts = b.acts; taken = b.taken; scope = x; behaviour = a.behaviour; job = a.job }) e4
    ∙ ap (λ x. record { runs = b.runs; acts = b.acts; taken = b.taken; scope = b.scope; behaviour = x; job = a.job }) e5
    ∙ ap (λ x. record { runs = b.runs; acts = b.acts; taken = b.taken; scope = b.scope; behaviour = b.behaviour; job = x }) e6

pub driver_is : (a b : DriverAt) → a.left ≡ b.left → a.made ≡ b.made → a ≡ b
driver_is a b e1 e2 = ap (λ x. record { left = x; made = a.made }) e1 ∙ ap (λ x. record { left = b.left; made = x }) e2

-- a situation of its parts
abbrev made_of : DriverAt → ℕ → Phase → Policy → List Priority → List SeatAt → List Waiter → List Unripe → List JobAt → List ℕ → ℕ → ℕ → Situation
made_of driver now phase policy priorities seats line unripe jobs cells blocks skips = record {
  driver = driver;
  now = now;
  phase = phase;
  policy = policy;
  priorities = priorities;
  seats = seats;
  line = line;
  unripe = unripe;
  jobs = jobs;
  cells = cells;
  blocks = blocks;
  skips = skips;
}

pub situation_is : (a b : Situation) → a.driver ≡ b.driver → a.now ≡ b.now → a.phase ≡ b.phase → a.policy ≡ b.policy → a.priorities ≡ b.priorities
    → a.seats ≡ b.seats → a.line ≡ b.line → a.unripe ≡ b.unripe → a.jobs ≡ b.jobs → a.cells ≡ b.cells → a.blocks ≡ b.blocks → a.skips ≡ b.skips → a ≡ b
situation_is a b e1 e2 e3 e4 e5 e6 e7 e8 e9 e10 e11 e12 =
    ap (λ x. made_of x a.now a.phase a.policy a.priorities a.seats a.line a.unripe a.jobs a.cells a.blocks a.skips) e1
    ∙ ap (λ x. made_of b.driver x a.phase a.policy a.priorities a.seats a.line a.unripe a.jobs a.cells a.blocks a.skips) e2
    ∙ ap (λ x. made_of b.driver b.now x a.policy a.priorities a.seats a.line a.unripe a.jobs a.cells a.blocks a.skips) e3
    ∙ ap (λ x. made_of b.driver b.now b.phase x a.priorities a.seats a.line a.unripe a.jobs a.cells a.blocks a.skips) e4
    ∙ ap (λ x. made_of b.driver b.now b.phase b.policy x a.seats a.line a.unripe a.jobs a.cells a.blocks a.skips) e5
    ∙ ap (λ x. made_of b.driver b.now b.phase b.policy b.priorities x a.line a.unripe a.jobs a.cells a.blocks a.skips) e6
    ∙ ap (λ x. made_of b.driver b.now b.phase b.policy b.priorities b.seats x a.unripe a.jobs a.cells a.blocks a.skips) e7
    ∙ ap (λ x. made_of b.driver b.now b.phase b.policy b.priorities b.seats b.line x a.jobs a.cells a.blocks a.skips) e8
    ∙ ap (λ x. made_of b.driver b.now b.phase b.policy b.priorities b.seats b.line b.unripe x a.cells a.blocks a.skips) e9
    ∙ ap (λ x. made_of b.driver b.now b.phase b.policy b.priorities b.seats b.line b.unripe b.jobs x a.blocks a.skips) e10
    ∙ ap (λ x. made_of b.driver b.now b.phase b.policy b.priorities b.seats b.line b.unripe b.jobs b.cells x a.skips) e11
    ∙ ap (λ x. made_of b.driver b.now b.phase b.policy b.priorities b.seats b.line b.unripe b.jobs b.cells b.blocks x) e12

module _ (script : Plan) (past other : List Entry) (same : SameWork script past other) where
  seat_same : (seat : ℕ) → seat_at script past seat ≡ seat_at script other seat
  seat_same seat = seat_is (seat_at script past seat) (seat_at script other seat) (same.runs seat) (acts (running past seat) refl) (taken
      (running past seat) refl) (same.scopes seat) (same.behaviours seat) (same.held seat)
    where
      acts : (o : Option Running) → running past seat ≡ o → acts_now past seat ≡ acts_now other seat
      acts None is = rw (is, sym (same.runs seat) ∙ is) refl
      acts (Some w) is = rw (is, sym (same.runs seat) ∙ is) (same.acts seat w is)

      taken : (o : Option Running) → running past seat ≡ o → taken_now script past seat ≡ taken_now script other seat
      taken None is = rw (is, sym (same.runs seat) ∙ is) refl
      taken (Some w) is = rw (is, sym (same.runs seat) ∙ is) (same.taken seat w is)

  job_same : (j : ℕ) → job_at past j ≡ job_at other j
  job_same j = rw (same.replies j, same.cancels j, same.claims j) refl

  pub same_situation : situation_of script past ≡ situation_of script other
  same_situation = situation_is (situation_of script past) (situation_of script other)
      (driver_is (driver_at script past) (driver_at script other) (ap length same.left) same.made) same.now same.phase same.policy
      (map-congr_in (priority_of script past) (priority_of script other) (range_with_len 0 (length script.runners))
      (AllByRecursion-always (λ r. priority_of script past r ≡ priority_of script other r) (range_with_len 0 (length script.runners)) same.priorities))
      (map-congr_in (seat_at script past) (seat_at script other) (all_seats script)
      (AllByRecursion-always (λ s. seat_at script past s ≡ seat_at script other s) (all_seats script) seat_same))
      same.line same.unripe
      (map-congr_in (job_at past) (job_at other) (range_with_len 0 (length script.jobs))
      (AllByRecursion-always (λ j. job_at past j ≡ job_at other j) (range_with_len 0 (length script.jobs)) job_same))
      (map-congr_in (cell_of script past) (cell_of script other) (range_with_len 0 (length script.runners))
      (AllByRecursion-range (λ s. cell_of script past s ≡ cell_of script other s) 0 (length script.runners) (λ s from to. same.cells s (omega (arith, to)))))
      same.blocks same.skips

-- the situation goes on
pub goes_on : (script : Plan) (past other : List Entry) (e f : Entry) → IsSound script → is_pool_script script ≡ true → IsLegal script past
    → IsLegal script other
    → situation_of script past ≡ situation_of script other → e.seat ≡ f.seat → without_items e.kind ≡ without_items f.kind → IsAllowed script past e
    → IsAllowed script other f → situation_of script (past ++ e ∷ []) ≡ situation_of script (other ++ f ∷ [])
goes_on script past other e f sound pool legal legal_other same seat alike allowed allowed_other =
    same_situation script (past ++ e ∷ []) (other ++ f ∷ [])
    (same_on script past other sound pool legal legal_other (same_work script past other sound legal legal_other same) e f seat alike allowed allowed_other)
