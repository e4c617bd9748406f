-- Two legal pasts of one situation are the same notion by notion.
-- Cited by `Coming`, `Onward/Whole`, `log_count`.
use Rattle.std.proofs.Common.{◌≡◌, ℕ, zero, suc, ◌+◌, ◌<◌, ◌≤◌, List, [], ◌∷◌, length, map, refl, sym, ap, subst, ◌∙◌, Option, Some, None, ⊎_elim, arith}
use Rattle.std.specs.Prelude.{◌⊎◌}
use Rattle.std.specs.Option.{option_map, option_map_or}
use Rattle.std.specs.List.{range_with_len}
use Rattle.std.proofs.lemmas.Bool.{cases_lt}
use Rattle.task_base.specs.Plan.{Plan}
use Rattle.task_base.specs.declared.entry.Entry.{Entry}
use Rattle.task_base.specs.declared.script.Action.{Action}
use Rattle.script_model.specs.Laws.Sound.{IsSound}
use Rattle.task_model.specs.Seats.{Running, running, Holding, holding, acts_done}
use Rattle.task_model.specs.Cells.{cell_of}
use Rattle.task_model.specs.Capacity.{priority_of, taken_with}
use Rattle.task_model.specs.Jobs.{JobPosted, is_cancelled, claimed}
use Rattle.hist_model.specs.Legal.{IsLegal}
use Rattle.hist_model.specs.Script.{behind_action}
use Rattle.hist_model.specs.Laws.Agenda.{agenda, agenda_from}
use Rattle.hist_model.proofs.Laws.HoldsApart.{legal_holds_apart}
use Rattle.hist_model.proofs.Laws.Progress.Tasks.{runner_known}
use Rattle.situation.specs.Situation.{Situation, situation_of, seat_at, SeatAt, job_at, JobAt, acts_now, taken_now, scope_now, behaviour_now, job_now}
use Rattle.situation.specs.Situation.{job_reply}
use Rattle.situation.specs.Same.{SameWork}
use Rattle.situation.proofs.Declared.{AllDeclared, all_declared, priority_undeclared, job_post_undeclared, cancelled_undeclared, claimed_undeclared}

-- what two lists over one range have at a place
range_same : {A : Type 0} (f g : ℕ → A) (start len i : ℕ) → map f (range_with_len start len) ≡ map g (range_with_len start len) → start ≤ i → i < start + len
    → f i ≡ g i
range_same f g start zero i same from to = absurd (omega (arith, from, to))
range_same f g start (suc len) i same from to =
    let head : f start ≡ g start = cc in
    let rest : map f (range_with_len (start + 1) len) ≡ map g (range_with_len (start + 1) len) = cc in
    ⊎_elim (λ less. range_same f g (start + 1) len i rest (omega (arith, less)) (omega (arith, to)))
    (λ more. subst (λ n. f n ≡ g n) (omega (arith, from, more)) head) (cases_lt start i)

-- ---- what is left of some actions

pub left_within : (xs : List Action) (own : List Entry) → length (agenda_from xs own).actions ≤ length xs
left_within [] own = omega arith
left_within (x ∷ rest) own = by_part (behind_action x own) (left_within rest)
  where
    by_part : (o : Option (List Entry)) → ((left : List Entry) → length (agenda_from rest left).actions ≤ length rest)
        → length (option_map_or (λ left. agenda_from rest left) o (record { actions = x ∷ rest; made = own })).actions ≤ length (x ∷ rest)
    by_part None later = omega arith
    by_part (Some left) later = omega (arith, later left)

-- the number of the actions that are left tells which they are
left_same : (xs : List Action) (own mine : List Entry) → length (agenda_from xs own).actions ≡ length (agenda_from xs mine).actions
    → (agenda_from xs own).actions ≡ (agenda_from xs mine).actions
left_same [] own mine same = refl
left_same (x ∷ rest) own mine same = by_parts (behind_action x own) (behind_action x mine) (left_same rest) same
  where
    by_parts : (a b : Option (List Entry)) → ((one two : List Entry) → length (agenda_from rest one).actions ≡ length (agenda_from rest two).actions
        → (agenda_from rest one).actions ≡ (agenda_from rest two).actions)
        → length (option_map_or (λ left. agenda_from rest left) a (record { actions = x ∷ rest; made = own })).actions
        ≡ length (option_map_or (λ left. agenda_from rest left) b (record { actions = x ∷ rest; made = mine })).actions
        → (option_map_or (λ left. agenda_from rest left) a (record { actions = x ∷ rest; made = own })).actions
        ≡ (option_map_or (λ left. agenda_from rest left) b (record { actions = x ∷ rest; made = mine })).actions
    by_parts None None later h = refl
    by_parts (Some one) (Some two) later h = later one two h
    by_parts None (Some two) later h = absurd (omega (arith, h, left_within rest two))
    by_parts (Some one) None later h = absurd (omega (arith, h, left_within rest one))

module _ (script : Plan) (past other : List Entry) (sound : IsSound script) (legal : IsLegal script past) (legal_other : IsLegal script other)
    (same : situation_of script past ≡ situation_of script other) where
  all : AllDeclared script past
  all = all_declared script past sound legal

  all_other : AllDeclared script other
  all_other = all_declared script other sound legal_other

  seats_same : (seat : ℕ) → seat ≤ script.workers → seat_at script past seat ≡ seat_at script other seat
  seats_same seat known = range_same (seat_at script past) (seat_at script other) 0 (script.workers + 1) seat
      (ap (λ (s : Situation). s.seats) same) (omega arith) (omega (arith, known))

  jobs_same : (j : ℕ) → j < length script.jobs → job_at past j ≡ job_at other j
  jobs_same j within = range_same (job_at past) (job_at other) 0 (length script.jobs) j (ap (λ (s : Situation). s.jobs) same) (omega arith) (omega
      (arith, within))

  -- whether a number is below another
  either : (i n : ℕ) → (i < n) ⊎ (n ≤ i)
  either i n = cases_lt i n

  nothing_runs : (before : List Entry) → IsLegal script before → (seat : ℕ) → script.workers + 1 ≤ seat → running before seat ≡ None
  nothing_runs before lawful seat beyond = by_running (running before seat) refl
    where
      by_running : (o : Option Running) → running before seat ≡ o → o ≡ None
      by_running None is = refl
      by_running (Some w) is = absurd (omega (arith, beyond, runner_known script before seat w lawful is))

  nothing_held : (before : List Entry) → IsLegal script before → (seat : ℕ) → script.workers + 1 ≤ seat → holding before seat ≡ None
  nothing_held before lawful seat beyond = by_holding (holding before seat) refl
    where
      by_holding : (o : Option Holding) → holding before seat ≡ o → o ≡ None
      by_holding None is = refl
      by_holding (Some h) is = absurd (omega (arith, beyond, (legal_holds_apart script before lawful).known seat h is))

  runs : (seat : ℕ) → running past seat ≡ running other seat
  runs seat = ⊎_elim (λ known. ap (λ (s : SeatAt). s.runs) (seats_same seat (omega (arith, known))))
      (λ beyond. nothing_runs past legal seat beyond ∙ sym (nothing_runs other legal_other seat beyond)) (either seat (script.workers + 1))

  known_runner : (seat : ℕ) (w : Running) → running past seat ≡ Some w → seat ≤ script.workers
  known_runner seat w is = runner_known script past seat w legal is

  acts : (seat : ℕ) (w : Running) → running past seat ≡ Some w → acts_done past seat ≡ acts_done other seat
  acts seat w is =
      let here : acts_now past seat ≡ acts_now other seat = ap (λ (s : SeatAt). s.acts) (seats_same seat (known_runner seat w is)) in
      rw (is, sym (runs seat) ∙ is) at here

  taken : (seat : ℕ) (w : Running) → running past seat ≡ Some w → taken_with script past seat ≡ taken_with script other seat
  taken seat w is =
      let here : taken_now script past seat ≡ taken_now script other seat = ap (λ (s : SeatAt). s.taken) (seats_same seat (known_runner seat w is)) in
      rw (is, sym (runs seat) ∙ is) at here

  scopes : (seat : ℕ) → scope_now script past seat ≡ scope_now script other seat
  scopes seat = ⊎_elim (λ known. ap (λ (s : SeatAt). s.scope) (seats_same seat (omega (arith, known))))
      (λ beyond. rw (nothing_runs past legal seat beyond, nothing_runs other legal_other seat beyond) refl) (either seat (script.workers + 1))

  behaviours : (seat : ℕ) → behaviour_now script past seat ≡ behaviour_now script other seat
  behaviours seat = ⊎_elim (λ known. ap (λ (s : SeatAt). s.behaviour) (seats_same seat (omega (arith, known))))
      (λ beyond. rw (nothing_runs past legal seat beyond, nothing_runs other legal_other seat beyond) refl) (either seat (script.workers + 1))

  held : (seat : ℕ) → job_now past seat ≡ job_now other seat
  held seat = ⊎_elim (λ known. ap (λ (s : SeatAt). s.job) (seats_same seat (omega (arith, known))))
      (λ beyond. rw (nothing_held past legal seat beyond, nothing_held other legal_other seat beyond) refl) (either seat (script.workers + 1))

  priorities : (runner : ℕ) → priority_of script past runner ≡ priority_of script other runner
  priorities runner = ⊎_elim (λ within. range_same (priority_of script past) (priority_of script other) 0 (length script.runners) runner
      (ap (λ (s : Situation). s.priorities) same) (omega arith) (omega (arith, within)))
      (λ beyond. priority_undeclared script runner beyond past all ∙ sym (priority_undeclared script runner beyond other all_other))
      (either runner (length script.runners))

  replies : (j : ℕ) → job_reply past j ≡ job_reply other j
  replies j = ⊎_elim (λ within. ap (λ (s : JobAt). s.reply) (jobs_same j within))
      (λ beyond. ap (option_map (λ (p : JobPosted). p.ok)) (job_post_undeclared script j beyond past all
      ∙ sym (job_post_undeclared script j beyond other all_other)))
      (either j (length script.jobs))

  cancels : (j : ℕ) → is_cancelled past j ≡ is_cancelled other j
  cancels j = ⊎_elim (λ within. ap (λ (s : JobAt). s.cancelled) (jobs_same j within))
      (λ beyond. cancelled_undeclared script j beyond past all ∙ sym (cancelled_undeclared script j beyond other all_other)) (either j (length script.jobs))

  claims : (j : ℕ) → claimed past j ≡ claimed other j
  claims j = ⊎_elim (λ within. ap (λ (s : JobAt). s.claims) (jobs_same j within))
      (λ beyond. claimed_undeclared script j beyond past all ∙ sym (claimed_undeclared script j beyond other all_other)) (either j (length script.jobs))

  -- so each notion is the same
  pub same_work : SameWork script past other
  unfolding agenda
  same_work = record {
    left = left_same script.actions _ _ (ap (λ (s : Situation). s.driver.left) same);
    made = ap (λ (s : Situation). s.driver.made) same;
    now = ap (λ (s : Situation). s.now) same;
    phase = ap (λ (s : Situation). s.phase) same;
    policy = ap (λ (s : Situation). s.policy) same;
    priorities = priorities;
    runs = runs;
    acts = acts;
    taken = taken;
    scopes = scopes;
    behaviours = behaviours;
    held = held;
    line = ap (λ (s : Situation). s.line) same;
    unripe = ap (λ (s : Situation). s.unripe) same;
    replies = replies;
    cancels = cancels;
    claims = claims;
    cells = λ s within. range_same (cell_of script past) (cell_of script other) 0 (length script.runners) s (ap (λ (x : Situation). x.cells) same)
        (omega arith) (omega (arith, within));
    blocks = ap (λ (s : Situation). s.blocks) same;
    skips = ap (λ (s : Situation). s.skips) same;
  }
