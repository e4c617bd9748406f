-- One more entry after two pasts in the same situation: what is told entry by entry stays the same.
-- Cited by `Onward/Scopes`, `Onward/Tasks`, `Onward/Whole`, `log_count`.
use Rattle.std.proofs.Common.{◌≡◌, ℕ, ◌+◌, ◌<◌, Bool, true, false, cond, eqb, List, [], ◌∷◌, ◌++◌, length, refl, sym, ap, subst, ◌∙◌, Option, Some, None, arith}
use Rattle.std.specs.Prelude.{◌&&◌, ◌||◌, nat_le}
use Rattle.std.specs.Option.{option_map}
use Rattle.std.proofs.lemmas.Option.{none-some}
use Rattle.std.proofs.lemmas.List.{length-append}
use Rattle.task_base.specs.Plan.{Plan}
use Rattle.task_base.specs.declared.entry.Entry.{Entry}
use Rattle.task_base.specs.declared.entry.Kind.{Kind}
use Rattle.task_base.specs.declared.entry.Kind.TheVariants as kinds
use Rattle.task_base.specs.declared.entry.JobReply.TheVariants.{Finished}
use Rattle.task_base.specs.declared.script.Action.{Action}
use Rattle.task_base.specs.declared.script.Action.TheVariants as actions
use Rattle.task_traits.specs.declared.traits.Priority.{Priority}
use Rattle.list_laws.specs.Lists.{count, holds_of}
use Rattle.list_laws.proofs.Places.{count-push}
use Rattle.task_model.specs.Time.{now_of, now_after}
use Rattle.task_model.specs.Phase.{phase_of, phase_after}
use Rattle.task_model.specs.Policies.{policy_of, policy_after}
use Rattle.task_model.specs.Seats.{Running, running, running_after, Holding, holding, holding_after, acts_done, acts_after, runs_of}
use Rattle.task_model.specs.Cells.{cell_of, cell_after}
use Rattle.task_model.specs.Capacity.{priority_of, priority_after, taken_with, taken_after}
use Rattle.task_model.specs.Jobs.{JobPosted, job_post_of, job_post_after, is_cancelled, cancels, claimed, claims}
use Rattle.task_model.proofs.Growth.{now_of_push, phase_of_push, policy_of_push, priority_of_push, running_push, holding_push, acts_done_push}
use Rattle.task_model.proofs.Growth.{taken_with_push, job_post_of_push, is_cancelled_push, claimed_push, cell_of_push}
use Rattle.hist_model.specs.Script.{is_main_end, is_main_none}
use Rattle.hist_model.specs.Views.{own_entries}
use Rattle.hist_model.specs.Laws.Agenda.{Agenda, agenda_from, agenda_after, next_agenda, completes}
use Rattle.hist_model.proofs.Laws.Agenda.{agenda_push}
use Rattle.hist_model.proofs.Laws.Own.{own_entries_push}
use Rattle.situation.specs.Alike.{without_items}
use Rattle.situation.specs.Situation.{agenda_after_past, progress, progress_of_first, job_now, job_reply}
use Rattle.situation.specs.Onward.{reply_after}
use Rattle.situation.specs.Same.{SameWork}
use Rattle.situation.proofs.Told.{same_told, by_jobs, now_told, phase_told, policy_told, priority_told, running_told, acts_told, cancels_told, claims_told}
use Rattle.situation.proofs.Told.{joins_told, main_ends_told, main_none_told, held_told}

-- ---- the driver

completes_told : (x : Action) (made mine : List Entry) (kind like : Kind) → progress x made ≡ progress x mine → without_items kind ≡ without_items like
    → completes x made kind ≡ completes x mine like
completes_told (actions.Tick n) made mine kind like same alike = ap (λ k. eqb (k + 1) n) same
completes_told (actions.Pump n) made mine kind like same alike =
    rw (main_none_told kind like alike, main_ends_told kind like alike) (ap (λ k. is_main_none like || (is_main_end like && nat_le n (k + 1))) same)
completes_told (actions.Join j) made mine kind like same alike = joins_told kind like alike
completes_told (actions.Cancel j) made mine kind like same alike = ap (λ k. eqb (k + 1) 2) same
completes_told actions.Shutdown made mine kind like same alike = ap (λ k. eqb (k + 1) 2) same
completes_told action made mine kind like same alike = refl

progress_told : (x : Action) (made mine : List Entry) (e f : Entry) → progress x made ≡ progress x mine → without_items e.kind ≡ without_items f.kind
    → progress x (made ++ e ∷ []) ≡ progress x (mine ++ f ∷ [])
progress_told (actions.Tick n) made mine e f same alike = omega (arith, length-append made (e ∷ []), length-append mine (f ∷ []), same)
progress_told (actions.Pump n) made mine e f same alike =
    count-push (λ x. is_main_end x.kind) made e ∙ ap (λ b. count (λ x. is_main_end x.kind) made + cond b 1 0) (main_ends_told e.kind f.kind alike)
    ∙ ap (λ k. k + cond (is_main_end f.kind) 1 0) same ∙ sym (count-push (λ x. is_main_end x.kind) mine f)
progress_told (actions.Cancel j) made mine e f same alike = omega (arith, length-append made (e ∷ []), length-append mine (f ∷ []), same)
progress_told actions.Shutdown made mine e f same alike = omega (arith, length-append made (e ∷ []), length-append mine (f ∷ []), same)
progress_told action made mine e f same alike = refl

-- two agendas have the same left, and made as much of the first
pub record SameAgenda (a b : Agenda) : Type 0 where
  pub left : a.actions ≡ b.actions
  pub made : progress_of_first a.actions a.made ≡ progress_of_first b.actions b.made

agenda_told : (xs : List Action) (made mine : List Entry) (e f : Entry) → progress_of_first xs made ≡ progress_of_first xs mine
    → without_items e.kind ≡ without_items f.kind → SameAgenda (next_agenda xs made e) (next_agenda xs mine f)
agenda_told [] made mine e f same alike = record { left = refl; made = refl }
agenda_told (x ∷ rest) made mine e f same alike =
    by_test (completes x made e.kind) (completes x mine f.kind) (completes_told x made mine e.kind f.kind same alike)
  where
    by_test : (b c : Bool) → b ≡ c
        → SameAgenda (cond b (agenda_from rest []) (record { actions = x ∷ rest; made = made ++ e ∷ [] }))
        (cond c (agenda_from rest []) (record { actions = x ∷ rest; made = mine ++ f ∷ [] }))
    by_test true true h = record { left = refl; made = refl }
    by_test false false h = record { left = refl; made = progress_told x made mine e f same alike }
    by_test true false h = absurd cc
    by_test false true h = absurd cc

agendas_on : (a b : Agenda) → SameAgenda a b → (e f : Entry) → without_items e.kind ≡ without_items f.kind → SameAgenda (agenda_after a e) (agenda_after b f)
agendas_on a b same e f alike = by_actions a.actions b.actions same.left same.made
  where
    by_actions : (xs ys : List Action) → xs ≡ ys → progress_of_first xs a.made ≡ progress_of_first ys b.made
        → SameAgenda (next_agenda xs a.made e) (next_agenda ys b.made f)
    by_actions xs ys is made =
        subst (λ zs. SameAgenda (next_agenda xs a.made e) (next_agenda zs b.made f)) is
        (agenda_told xs a.made b.made e f (made ∙ ap (λ zs. progress_of_first zs b.made) (sym is)) alike)

-- the reply to a job's post, one entry on
pub reply_push : (past : List Entry) (e : Entry) (j : ℕ) → job_reply (past ++ e ∷ []) j ≡ reply_after j (job_reply past j) e.kind
reply_push past e j = ap (option_map (λ (p : JobPosted). p.ok)) (job_post_of_push past e j) ∙ of_post (job_post_of past j) e.kind
  where
    first : (ok b : Bool)
        → option_map (λ (p : JobPosted). p.ok) (cond b (Some (record { place = length past; ok = ok })) None) ≡ cond b (Some ok) None
    first ok true = refl
    first ok false = refl

    of_post : (o : Option JobPosted) (kind : Kind)
        → option_map (λ p. p.ok) (job_post_after j past o kind) ≡ reply_after j (option_map (λ p. p.ok) o) kind
    of_post None (kinds.JobPost job ok) = first ok (eqb job j)
    of_post None kind = refl
    of_post (Some p) kind = refl

module _ (script : Plan) (past other : List Entry) (same : SameWork script past other) (e f : Entry) (seat : e.seat ≡ f.seat)
    (alike : without_items e.kind ≡ without_items f.kind) where
  pub driver_on : SameAgenda (agenda_after_past script (past ++ e ∷ [])) (agenda_after_past script (other ++ f ∷ []))
  driver_on = by_seat (eqb e.seat 0) (own_entries_push past e 0) (own_entries_push other f 0
      ∙ ap (λ n. cond (eqb n 0) (own_entries 0 other ++ f ∷ []) (own_entries 0 other)) (sym seat))
    where
      here : SameAgenda (agenda_after_past script past) (agenda_after_past script other)
      here = record { left = same.left; made = same.made }

      by_seat : (b : Bool) → own_entries 0 (past ++ e ∷ []) ≡ cond b (own_entries 0 past ++ e ∷ []) (own_entries 0 past)
          → own_entries 0 (other ++ f ∷ []) ≡ cond b (own_entries 0 other ++ f ∷ []) (own_entries 0 other)
          → SameAgenda (agenda_after_past script (past ++ e ∷ [])) (agenda_after_past script (other ++ f ∷ []))
      by_seat true one two = rw (one, two, agenda_push script (own_entries 0 past) e, agenda_push script (own_entries 0 other) f)
          (agendas_on (agenda_after_past script past) (agenda_after_past script other) here e f alike)
      by_seat false one two = rw (one, two) here

  -- ---- settings

  pub now_on : now_of (past ++ e ∷ []) ≡ now_of (other ++ f ∷ [])
  now_on = now_of_push past e ∙ ap (λ n. now_after n e.kind) same.now ∙ now_told (now_of other) e.kind f.kind alike ∙ sym (now_of_push other f)

  pub phase_on : phase_of (past ++ e ∷ []) ≡ phase_of (other ++ f ∷ [])
  phase_on = phase_of_push past e ∙ ap (λ n. phase_after n e.kind) same.phase ∙ phase_told (phase_of other) e.kind f.kind alike ∙ sym (phase_of_push other f)

  pub policy_on : policy_of (past ++ e ∷ []) ≡ policy_of (other ++ f ∷ [])
  policy_on = policy_of_push past e ∙ ap (λ n. policy_after n e.kind) same.policy ∙ policy_told (policy_of other) e.kind f.kind alike
      ∙ sym (policy_of_push other f)

  pub priorities_on : (runner : ℕ) → priority_of script (past ++ e ∷ []) runner ≡ priority_of script (other ++ f ∷ []) runner
  priorities_on runner = priority_of_push script past e runner ∙ ap (λ n. priority_after runner n e.kind) (same.priorities runner)
      ∙ priority_told runner (priority_of script other runner) e.kind f.kind alike ∙ sym (priority_of_push script other f runner)

  -- ---- seats

  at_seat : {A : Type 0} (s : ℕ) (x y : A) → cond (eqb e.seat s) x y ≡ cond (eqb f.seat s) x y
  at_seat s x y = ap (λ n. cond (eqb n s) x y) seat

  pub runs_on : (s : ℕ) → running (past ++ e ∷ []) s ≡ running (other ++ f ∷ []) s
  runs_on s = running_push past e s ∙ ap (λ o. cond (eqb e.seat s) (running_after o e.kind) o) (same.runs s)
      ∙ ap (λ o. cond (eqb e.seat s) o (running other s)) (running_told (running other s) e.kind f.kind alike)
      ∙ at_seat s (running_after (running other s) f.kind) (running other s) ∙ sym (running_push other f s)

  pub held_on : (s : ℕ) → job_now (past ++ e ∷ []) s ≡ job_now (other ++ f ∷ []) s
  held_on s = ap (option_map (λ (h : Holding). h.job)) (holding_push past e s) ∙ by_seat (eqb e.seat s)
      ∙ ap (option_map (λ (h : Holding). h.job)) (at_seat s (holding_after (holding other s) f.kind) (holding other s) ∙ sym (holding_push other f s))
    where
      by_seat : (b : Bool) → option_map (λ (h : Holding). h.job) (cond b (holding_after (holding past s) e.kind) (holding past s))
          ≡ option_map (λ (h : Holding). h.job) (cond b (holding_after (holding other s) f.kind) (holding other s))
      by_seat true = held_told (holding past s) (holding other s) e.kind f.kind (same.held s) alike
      by_seat false = same.held s

  -- what is told of the task that a seat runs, from its take on
  acts_told_on : (o : Option Running) (w : Running) (n m : ℕ) (kind : Kind) → ((v : Running) → o ≡ Some v → n ≡ m) → running_after o kind ≡ Some w
      → acts_after n kind ≡ acts_after m kind
  acts_told_on o w n m (kinds.Take task runner found) before is = refl
  acts_told_on o w n m (kinds.MainTake task queue found) before is = refl
  acts_told_on o w n m (kinds.End task left) before is = absurd (none-some w is)
  acts_told_on o w n m (kinds.MainEnd task left) before is = absurd (none-some w is)
  acts_told_on o w n m kind before is = ap (λ k. acts_after k kind) (before w is)

  pub acts_on : (s : ℕ) (w : Running) → running (past ++ e ∷ []) s ≡ Some w → acts_done (past ++ e ∷ []) s ≡ acts_done (other ++ f ∷ []) s
  acts_on s w runs = acts_done_push past e s ∙ by_seat (eqb e.seat s) (sym (running_push past e s) ∙ runs)
      ∙ at_seat s (acts_after (acts_done other s) f.kind) (acts_done other s) ∙ sym (acts_done_push other f s)
    where
      by_seat : (b : Bool) → cond b (running_after (running past s) e.kind) (running past s) ≡ Some w
          → cond b (acts_after (acts_done past s) e.kind) (acts_done past s) ≡ cond b (acts_after (acts_done other s) f.kind) (acts_done other s)
      by_seat true is = acts_told_on (running past s) w (acts_done past s) (acts_done other s) e.kind (same.acts s) is
          ∙ acts_told (acts_done other s) e.kind f.kind alike
      by_seat false is = same.acts s w is

  taken_told_on : (o : Option Running) (w : Running) (x y : Option Priority) (kind : Kind) → ((v : Running) → o ≡ Some v → x ≡ y)
      → running_after o kind ≡ Some w
      → taken_after script past x kind ≡ taken_after script other y kind
  taken_told_on o w x y (kinds.Take task runner found) before is = ap Some (same.priorities runner)
  taken_told_on o w x y (kinds.MainTake task queue found) before is = refl
  taken_told_on o w x y (kinds.End task left) before is = refl
  taken_told_on o w x y (kinds.MainEnd task left) before is = refl
  taken_told_on o w x y kind before is = before w is

  pub taken_on : (s : ℕ) (w : Running) → running (past ++ e ∷ []) s ≡ Some w → taken_with script (past ++ e ∷ []) s ≡ taken_with script (other ++ f ∷ []) s
  taken_on s w runs = taken_with_push script past e s ∙ by_seat (eqb e.seat s) (sym (running_push past e s) ∙ runs)
      ∙ at_seat s (taken_after script other (taken_with script other s) f.kind) (taken_with script other s) ∙ sym (taken_with_push script other f s)
    where
      told : taken_after script other (taken_with script other s) e.kind ≡ taken_after script other (taken_with script other s) f.kind
      told = same_told (taken_after script other (taken_with script other s))
          (by_jobs (taken_after script other (taken_with script other s)) (λ j i n. refl) (λ j i n v k. refl) (λ j n. refl)) e.kind f.kind alike

      by_seat : (b : Bool) → cond b (running_after (running past s) e.kind) (running past s) ≡ Some w
          → cond b (taken_after script past (taken_with script past s) e.kind) (taken_with script past s)
          ≡ cond b (taken_after script other (taken_with script other s) f.kind) (taken_with script other s)
      by_seat true is = taken_told_on (running past s) w (taken_with script past s) (taken_with script other s) e.kind (same.taken s) is ∙ told
      by_seat false is = same.taken s w is

  -- ---- jobs

  pub replies_on : (j : ℕ) → job_reply (past ++ e ∷ []) j ≡ job_reply (other ++ f ∷ []) j
  replies_on j = reply_push past e j ∙ ap (λ o. reply_after j o e.kind) (same.replies j)
      ∙ same_told (reply_after j (job_reply other j)) (told (job_reply other j)) e.kind f.kind alike ∙ sym (reply_push other f j)
    where
      told : (o : Option Bool) (kind : Kind) → reply_after j o kind ≡ reply_after j o (without_items kind)
      told None (kinds.Joined job (Finished sum)) = refl
      told None (kinds.Joined job reply) = refl
      told None kind = refl
      told (Some ok) kind = refl

  pub cancels_on : (j : ℕ) → is_cancelled (past ++ e ∷ []) j ≡ is_cancelled (other ++ f ∷ []) j
  cancels_on j = is_cancelled_push past e j ∙ ap (λ b. b || cancels j e.kind) (same.cancels j)
      ∙ ap (λ b. is_cancelled other j || b) (cancels_told j e.kind f.kind alike) ∙ sym (is_cancelled_push other f j)

  pub claims_on : (j : ℕ) → claimed (past ++ e ∷ []) j ≡ claimed (other ++ f ∷ []) j
  claims_on j = claimed_push past e j ∙ ap (λ n. n + cond (claims j e.kind) 1 0) (same.claims j)
      ∙ ap (λ b. claimed other j + cond b 1 0) (claims_told j e.kind f.kind alike) ∙ sym (claimed_push other f j)

  -- ---- cells

  pub cells_on : (s : ℕ) → s < length script.runners → cell_of script (past ++ e ∷ []) s ≡ cell_of script (other ++ f ∷ []) s
  cells_on s within = cell_of_push script past e s ∙ ap (λ v. cell_after script s past v e.seat e.kind) (same.cells s within) ∙ by_kind e.kind
      ∙ ap (λ n. cell_after script s other (cell_of script other s) n e.kind) seat
      ∙ same_told (cell_after script s other (cell_of script other s) f.seat)
      (by_jobs (cell_after script s other (cell_of script other s) f.seat) (λ j i n. refl) (λ j i n v k. refl) (λ j n. refl)) e.kind f.kind alike
      ∙ sym (cell_of_push script other f s)
    where
      by_kind : (kind : Kind) → cell_after script s past (cell_of script other s) e.seat kind ≡ cell_after script s other (cell_of script other s) e.seat kind
      by_kind (kinds.End task left) = ap (λ o. cond (holds_of (runs_of script s) o) left (cell_of script other s)) (same.runs e.seat)
      by_kind kind = refl
