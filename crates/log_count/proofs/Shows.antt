-- What the situation of a legal past says is what the past says.
-- Cited by `After`, `Promised`, `Sources`, `Ways`.
use Rattle.std.proofs.Common.{◌≡◌, ℕ, suc, ◌+◌, ◌-◌, ◌<◌, ◌≤◌, false, List, [], ◌∷◌, length, map, refl, sym, ap, ◌∙◌, Option, Some, None, ⊎_elim, arith}
use Rattle.std.specs.Prelude.{slice_get, drop, option_and_then}
use Rattle.std.specs.Option.{option_map, option_map_or}
use Rattle.std.specs.List.{range_with_len}
use Rattle.std.proofs.lemmas.Bool.{cases_lt}
use Rattle.std.proofs.lemmas.List.{length-map}
use Rattle.std.proofs.lemmas.List.FromFn.{get_or-map-range_with_len, length-range_with_len}
use Rattle.std.proofs.lemmas.Option.{slice_get-get_or, slice_get_past}
use Rattle.task_base.specs.Plan.{Plan}
use Rattle.task_base.specs.declared.entry.Entry.{Entry}
use Rattle.task_base.specs.declared.script.Action.{Action}
use Rattle.script_model.specs.Laws.Sound.{IsSound}
use Rattle.task_model.specs.Time.{now_of}
use Rattle.task_model.specs.Phase.{phase_of}
use Rattle.task_model.specs.Policies.{policy_of}
use Rattle.task_model.specs.Seats.{Running, running, Holding, holding}
use Rattle.task_model.specs.Cells.{cell_of}
use Rattle.task_model.specs.Capacity.{priority_of, declared_priority}
use Rattle.task_model.specs.Jobs.{JobPosted, is_cancelled, claimed}
use Rattle.task_model.specs.Blockers.{open_blocks, running_skips}
use Rattle.hist_model.specs.Legal.{IsLegal}
use Rattle.hist_model.specs.Script.{behind_action}
use Rattle.hist_model.specs.Laws.Agenda.{agenda, agenda_from}
use Rattle.hist_model.proofs.Laws.HoldsApart.{legal_holds_apart}
use Rattle.hist_model.proofs.Laws.Progress.Tasks.{runner_known}
use Rattle.situation.specs.Line.{line_of}
use Rattle.situation.specs.Situation.{Situation, SeatAt, JobAt, agenda_after_past, progress_of_first, scope_now, behaviour_now, job_now, job_reply, unripe_of}
use Rattle.situation.specs.Situation.{seat_at, job_at, acts_now, taken_now, situation_of}
use Rattle.situation.proofs.Declared.{AllDeclared, all_declared, priority_undeclared, job_post_undeclared, cancelled_undeclared, claimed_undeclared}
use Rattle.situation.proofs.Same.{left_within}
use Rattle.log_count.specs.Parts.{actions_in, priority_in, runs_in, acts_in, taken_in, scope_in, behaviour_in, job_in, reply_in, is_cancelled_in}
use Rattle.log_count.specs.Parts.{claimed_in, cell_in}

-- the situation says what the past says, notion by notion
pub record Shows (script : Plan) (past : List Entry) (s : Situation) : Type 0 where
  pub left : (agenda_after_past script past).actions ≡ actions_in script s
  pub left_is : length (agenda_after_past script past).actions ≡ s.driver.left
  pub made : progress_of_first (agenda_after_past script past).actions (agenda_after_past script past).made ≡ s.driver.made
  pub now : now_of past ≡ s.now
  pub phase : phase_of past ≡ s.phase
  pub policy : policy_of past ≡ s.policy
  pub priorities : (runner : ℕ) → priority_of script past runner ≡ priority_in script s runner
  pub runs : (seat : ℕ) → running past seat ≡ runs_in s seat
  pub acts : (seat : ℕ) → acts_now past seat ≡ acts_in s seat
  pub taken : (seat : ℕ) → taken_now script past seat ≡ taken_in s seat
  pub scopes : (seat : ℕ) → scope_now script past seat ≡ scope_in s seat
  pub behaviours : (seat : ℕ) → behaviour_now script past seat ≡ behaviour_in s seat
  pub held : (seat : ℕ) → job_now past seat ≡ job_in s seat
  pub line : line_of script past ≡ s.line
  pub unripe : unripe_of script past ≡ s.unripe
  pub replies : (j : ℕ) → job_reply past j ≡ reply_in s j
  pub cancels : (j : ℕ) → is_cancelled past j ≡ is_cancelled_in s j
  pub claims : (j : ℕ) → claimed past j ≡ claimed_in s j
  pub cells : (i : ℕ) → i < length script.runners → cell_of script past i ≡ cell_in s i
  pub no_cells : (i : ℕ) → length script.runners ≤ i → cell_in s i ≡ 0
  pub blocks : open_blocks script past ≡ s.blocks
  pub skips : running_skips script past ≡ s.skips

-- ---- what a list over the first numbers has at one of them

pub number_at : {A : Type 0} (f : ℕ → A) (n i : ℕ) → i < n → slice_get (map f (range_with_len 0 n)) i ≡ Some (f i)
number_at f n i less =
    slice_get-get_or (map f (range_with_len 0 n)) i (f i) (omega (arith, less, length-map (range_with_len 0 n) f, length-range_with_len 0 n))
    ∙ ap Some (get_or-map-range_with_len f 0 n i i (f i) less (omega arith))

pub number_past : {A : Type 0} (f : ℕ → A) (n i : ℕ) → n ≤ i → slice_get (map f (range_with_len 0 n)) i ≡ None
number_past f n i beyond = slice_get_past (map f (range_with_len 0 n)) i
    (omega (arith, beyond, length-map (range_with_len 0 n) f, length-range_with_len 0 n))

-- ---- what is left of some actions are the last of them

drop_more : {A : Type 0} (x : A) (xs : List A) (n k : ℕ) → n ≡ suc k → drop n (x ∷ xs) ≡ drop k xs
drop_more x xs n k is = rw is refl

left_is_last : (xs : List Action) (own : List Entry)
    → (agenda_from xs own).actions ≡ drop (length xs - length (agenda_from xs own).actions) xs
left_is_last [] own = refl
left_is_last (x ∷ rest) own = by_part (behind_action x own) (left_is_last rest)
  where
    none_gone : (n : ℕ) → n ≡ 0 → x ∷ rest ≡ drop n (x ∷ rest)
    none_gone n is = rw is refl

    by_part : (o : Option (List Entry)) → ((left : List Entry) → (agenda_from rest left).actions ≡ drop (length rest
        - length (agenda_from rest left).actions) rest)
        → (option_map_or (λ left. agenda_from rest left) o (record { actions = x ∷ rest; made = own })).actions
        ≡ drop (length (x ∷ rest) - length (option_map_or (λ left. agenda_from rest left) o (record { actions = x ∷ rest; made = own })).actions) (x ∷ rest)
    by_part None later = none_gone (length (x ∷ rest) - length (x ∷ rest)) (omega arith)
    by_part (Some left) later = later left
        ∙ sym (drop_more x rest (length (x ∷ rest) - length (agenda_from rest left).actions) (length rest - length (agenda_from rest left).actions)
        (omega (arith, left_within rest left)))

module _ (script : Plan) (past : List Entry) (sound : IsSound script) (legal : IsLegal script past) where
  -- ---- nothing is known of seats, runners and jobs that are none of the script's

  nothing_runs : (seat : ℕ) → script.workers + 1 ≤ seat → running past seat ≡ None
  nothing_runs seat beyond = by_running (running past seat) refl
    where
      by_running : (o : Option Running) → running past seat ≡ o → o ≡ None
      by_running None is = refl
      by_running (Some w) is = absurd (omega (arith, beyond, runner_known script past seat w legal is))

  nothing_held : (seat : ℕ) → script.workers + 1 ≤ seat → holding past seat ≡ None
  nothing_held seat beyond = by_holding (holding past seat) refl
    where
      by_holding : (o : Option Holding) → holding past seat ≡ o → o ≡ None
      by_holding None is = refl
      by_holding (Some h) is = absurd (omega (arith, beyond, (legal_holds_apart script past legal).known seat h is))

  all : AllDeclared script past
  all = all_declared script past sound legal

  -- ---- by number

  at_seat : {B : Type 0} (f : SeatAt → B) (none : B) (seat : ℕ) → (script.workers + 1 ≤ seat → f (seat_at script past seat) ≡ none)
      → f (seat_at script past seat) ≡ option_map_or f (slice_get (situation_of script past).seats seat) none
  at_seat f none seat beyond = ⊎_elim
      (λ known. ap (λ o. option_map_or f o none) (sym (number_at (seat_at script past) (script.workers + 1) seat known)))
      (λ past_all. beyond past_all ∙ ap (λ o. option_map_or f o none) (sym (number_past (seat_at script past) (script.workers + 1) seat past_all)))
      (cases_lt seat (script.workers + 1))

  at_job : {B : Type 0} (f : JobAt → B) (none : B) (j : ℕ) → (length script.jobs ≤ j → f (job_at past j) ≡ none)
      → f (job_at past j) ≡ option_map_or f (slice_get (situation_of script past).jobs j) none
  at_job f none j beyond = ⊎_elim
      (λ known. ap (λ o. option_map_or f o none) (sym (number_at (job_at past) (length script.jobs) j known)))
      (λ past_all. beyond past_all ∙ ap (λ o. option_map_or f o none) (sym (number_past (job_at past) (length script.jobs) j past_all)))
      (cases_lt j (length script.jobs))

  -- a look-up that has no value where nothing is found
  as_option : {A B : Type 0} (f : A → Option B) (o : Option A) → option_map_or f o None ≡ option_and_then f o
  as_option f None = refl
  as_option f (Some x) = refl

  priorities : (runner : ℕ) → priority_of script past runner ≡ priority_in script (situation_of script past) runner
  unfolding priority_in
  priorities runner = ⊎_elim
      (λ known. ap (λ o. option_map_or (λ p. p) o (declared_priority script runner))
      (sym (number_at (priority_of script past) (length script.runners) runner known)))
      (λ beyond. priority_undeclared script runner beyond past all
      ∙ ap (λ o. option_map_or (λ p. p) o (declared_priority script runner))
      (sym (number_past (priority_of script past) (length script.runners) runner beyond)))
      (cases_lt runner (length script.runners))

  cells : (i : ℕ) → i < length script.runners → cell_of script past i ≡ cell_in (situation_of script past) i
  unfolding cell_in
  cells i known = ap (λ o. option_map_or (λ v. v) o 0) (sym (number_at (cell_of script past) (length script.runners) i known))

  no_cells : (i : ℕ) → length script.runners ≤ i → cell_in (situation_of script past) i ≡ 0
  unfolding cell_in
  no_cells i beyond = ap (λ o. option_map_or (λ v. v) o 0) (number_past (cell_of script past) (length script.runners) i beyond)

  runs : (seat : ℕ) → running past seat ≡ runs_in (situation_of script past) seat
  unfolding runs_in
  runs seat = at_seat (λ x. x.runs) None seat (nothing_runs seat) ∙ as_option (λ (x : SeatAt). x.runs) (slice_get (situation_of script past).seats seat)

  acts : (seat : ℕ) → acts_now past seat ≡ acts_in (situation_of script past) seat
  unfolding acts_in
  acts seat = at_seat (λ x. x.acts) 0 seat (λ beyond. rw (nothing_runs seat beyond) refl)

  taken : (seat : ℕ) → taken_now script past seat ≡ taken_in (situation_of script past) seat
  unfolding taken_in
  taken seat = at_seat (λ x. x.taken) None seat (λ beyond. rw (nothing_runs seat beyond) refl)
      ∙ as_option (λ (x : SeatAt). x.taken) (slice_get (situation_of script past).seats seat)

  scopes : (seat : ℕ) → scope_now script past seat ≡ scope_in (situation_of script past) seat
  unfolding scope_in
  scopes seat = at_seat (λ x. x.scope) None seat (λ beyond. rw (nothing_runs seat beyond) refl)
      ∙ as_option (λ (x : SeatAt). x.scope) (slice_get (situation_of script past).seats seat)

  behaviours : (seat : ℕ) → behaviour_now script past seat ≡ behaviour_in (situation_of script past) seat
  unfolding behaviour_in
  behaviours seat = at_seat (λ x. x.behaviour) None seat (λ beyond. rw (nothing_runs seat beyond) refl)
      ∙ as_option (λ (x : SeatAt). x.behaviour) (slice_get (situation_of script past).seats seat)

  held : (seat : ℕ) → job_now past seat ≡ job_in (situation_of script past) seat
  unfolding job_in
  held seat = at_seat (λ x. x.job) None seat (λ beyond. rw (nothing_held seat beyond) refl)
      ∙ as_option (λ (x : SeatAt). x.job) (slice_get (situation_of script past).seats seat)

  replies : (j : ℕ) → job_reply past j ≡ reply_in (situation_of script past) j
  unfolding reply_in
  replies j = at_job (λ x. x.reply) None j (λ beyond. ap (option_map (λ (p : JobPosted). p.ok)) (job_post_undeclared script j beyond past all))
      ∙ as_option (λ (x : JobAt). x.reply) (slice_get (situation_of script past).jobs j)

  cancels : (j : ℕ) → is_cancelled past j ≡ is_cancelled_in (situation_of script past) j
  unfolding is_cancelled_in
  cancels j = at_job (λ x. x.cancelled) false j (λ beyond. cancelled_undeclared script j beyond past all)

  claims : (j : ℕ) → claimed past j ≡ claimed_in (situation_of script past) j
  unfolding claimed_in
  claims j = at_job (λ x. x.claims) 0 j (λ beyond. claimed_undeclared script j beyond past all)

  -- so each notion is shown
  pub shows : Shows script past (situation_of script past)
  unfolding agenda actions_in
  shows = record {
    left = left_is_last script.actions _;
    left_is = refl;
    made = refl;
    now = refl;
    phase = refl;
    policy = refl;
    priorities = priorities;
    runs = runs;
    acts = acts;
    taken = taken;
    scopes = scopes;
    behaviours = behaviours;
    held = held;
    line = refl;
    unripe = refl;
    replies = replies;
    cancels = cancels;
    claims = claims;
    cells = cells;
    no_cells = no_cells;
    blocks = refl;
    skips = refl;
  }
