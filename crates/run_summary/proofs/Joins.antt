-- What a finished script has joined, and what its joined job has done.
-- Cited by `Items`.
use Rattle.std.proofs.Common.{◌≡◌, ℕ, zero, suc, ◌-◌, Bool, true, false, cond, eqb, leb, List, [], ◌∷◌}
use Rattle.std.proofs.Common.{◌++◌, refl, sym, ap, subst, ◌∙◌, Option, Some, None, ⊎_elim, arith}
use Rattle.std.specs.Prelude.{◌&&◌, ◌||◌, filter}
use Rattle.std.specs.List.{list_any, AllByRecursion}
use Rattle.std.specs.Option.{option_map_or}
use Rattle.std.proofs.Math.Bool.{or-false}
use Rattle.std.proofs.lemmas.Bool.{eqb-true, and_parts, or_cases, or_left, or_right}
use Rattle.std.proofs.lemmas.Option.{none-some, same_Some}
use Rattle.std.proofs.lemmas.List.Folds.{list_any-append}
use Rattle.task_base.specs.Plan.{Plan}
use Rattle.task_base.specs.declared.entry.Entry.{Entry}
use Rattle.task_base.specs.declared.entry.JobReply.{JobReply}
use Rattle.task_base.specs.declared.entry.JobReply.TheVariants.{Refused, Finished, Cancelled, Stopped}
use Rattle.task_base.specs.declared.entry.Kind.{Kind}
use Rattle.task_base.specs.declared.entry.Kind.TheVariants as kinds
use Rattle.task_base.specs.declared.script.Action.{Action}
use Rattle.task_base.specs.declared.script.Action.TheVariants as actions
use Rattle.list_laws.specs.Lists.{holds_of}
use Rattle.task_model.specs.Jobs.{done, items_of, job_sum, is_cancelled, is_empty, reply_of}
use Rattle.task_model.specs.Refusal.{is_job_forbidden}
use Rattle.task_model.proofs.Growth.{done_push}
use Rattle.hist_model.specs.Views.{own_entries}
use Rattle.hist_model.specs.Script.{behind, behind_join, behind_pump, behind_action, is_joined, is_main_none}
use Rattle.hist_model.specs.Script.{is_main_end, current_from, current, is_finished, wants}
use Rattle.hist_model.specs.Allowed.{by_script, same_reply, may_come}
use Rattle.hist_model.specs.Legal.{IsLegal}
use Rattle.hist_model.specs.Open.{IsClosed}
use Rattle.hist_model.specs.Laws.Consistent.{is_join}
use Rattle.hist_model.proofs.Laws.Legal.{legal_induction, legal_next}
use Rattle.hist_model.proofs.Laws.JobEntries.{none_is, join_is}
use Rattle.hist_model.proofs.Laws.Claims.{claimed_is}
use Rattle.hist_model.proofs.Laws.Open.{closed_finished}
use Rattle.hist_model.proofs.Laws.Entries.Jobs.{claimed_within}
use Rattle.run_summary.proofs.Calm.{IsCalmScript, IsCalm, calm_logs, calm_forbids_no_job, wanted_by_one}

-- some entry is a join
abbrev pub joined_in : List Entry → Bool
joined_in past = list_any (λ e. is_joined e.kind) past

-- what stands behind the first entries stands among all
behind_some : (n : ℕ) (own left : List Entry) → behind n own ≡ Some left → joined_in left ≡ true → joined_in own ≡ true
behind_some zero own left is h = subst (λ xs. joined_in xs ≡ true) (sym (same_Some own left is)) h
behind_some (suc n) [] left is h = absurd cc
behind_some (suc n) (e ∷ own) left is h = or_right (is_joined e.kind) (joined_in own) (behind_some n own left is h)

-- behind that of a pump too
pump_some : (n : ℕ) (own left : List Entry) → behind_pump n own ≡ Some left → joined_in left ≡ true → joined_in own ≡ true
pump_some n [] left is h = absurd cc
pump_some n (e ∷ own) left is h = or_right (is_joined e.kind) (joined_in own)
    (at (is_main_none e.kind || (is_main_end e.kind && leb n 1)) is (λ k. pump_some (cond (is_main_end e.kind) (n - 1) n) own left k h))
  where
    at : (b : Bool) → cond b (Some own) (behind_pump (cond (is_main_end e.kind) (n - 1) n) own) ≡ Some left
        → (behind_pump (cond (is_main_end e.kind) (n - 1) n) own ≡ Some left → joined_in own ≡ true) → joined_in own ≡ true
    at true k next = subst (λ xs. joined_in xs ≡ true) (sym (same_Some own left k)) h
    at false k next = next k

-- a complete join has its entry
join_some : (own left : List Entry) → behind_join own ≡ Some left → joined_in own ≡ true
join_some [] left is = absurd cc
join_some (e ∷ own) left is = at (is_joined e.kind) is (join_some own left)
  where
    at : (b : Bool) → cond b (Some own) (behind_join own) ≡ Some left → (behind_join own ≡ Some left → joined_in own ≡ true) → (b || joined_in own) ≡ true
    at true k next = refl
    at false k next = next k

-- an action that joins, or behind whose part a join stands, has one among all entries
action_some : (x : Action) (own left : List Entry) → behind_action x own ≡ Some left → (is_join x || joined_in left) ≡ true → joined_in own ≡ true
action_some (actions.Tick n) own left is h = behind_some n own left is h
action_some (actions.Pump n) own left is h = pump_some n own left is h
action_some (actions.Join job) own left is h = join_some own left is
action_some (actions.Cancel job) own left is h = behind_some 2 own left is h
action_some actions.Shutdown own left is h = behind_some 2 own left is h
action_some x own left is h = behind_some 1 own left is h

-- a script with a join that is finished has joined
finished_joins : (xs : List Action) (own : List Entry) → current_from xs own ≡ None → list_any is_join xs ≡ true → joined_in own ≡ true
finished_joins [] own is h = absurd cc
finished_joins (x ∷ xs) own is h = at (behind_action x own) refl is (finished_joins xs)
  where
    first : (b : Bool) (left : List Entry) → (b || list_any is_join xs) ≡ true → (list_any is_join xs ≡ true → joined_in left ≡ true)
        → (b || joined_in left) ≡ true
    first true left k next = refl
    first false left k next = next k

    at : (o : Option (List Entry)) → behind_action x own ≡ o
        → option_map_or (λ left. current_from xs left) o (Some (record { action = x; made = own })) ≡ None
        → ((left : List Entry) → current_from xs left ≡ None → list_any is_join xs ≡ true → joined_in left ≡ true) → joined_in own ≡ true
    at None at_is k next = absurd (none-some _ (sym k))
    at (Some left) at_is k next = action_some x own left at_is (first (is_join x) left h (next left k))

-- what some kept element passes, some element passes
any_of_filter : {A : Type 0} (p q : A → Bool) (xs : List A) → list_any q (filter p xs) ≡ true → list_any q xs ≡ true
any_of_filter p q [] h = h
any_of_filter p q (x ∷ xs) h = at (p x) h (any_of_filter p q xs)
  where
    at : (b : Bool) → list_any q (cond b (x ∷ filter p xs) (filter p xs)) ≡ true → (list_any q (filter p xs) ≡ true → list_any q xs ≡ true)
        → (q x || list_any q xs) ≡ true
    at true k next = ⊎_elim (or_left (q x) (list_any q xs)) (λ l. or_right (q x) (list_any q xs) (next l)) (or_cases (q x) (list_any q (filter p xs)) k)
    at false k next = or_right (q x) (list_any q xs) (next k)

-- so has the log of such a script
pub finished_script_joins : (script : Plan) (log : List Entry) → IsClosed script → is_finished script log ≡ true
    → list_any is_join script.actions ≡ true → joined_in log ≡ true
unfolding current
finished_script_joins script log closed done h = any_of_filter (λ e. eqb e.seat 0) (λ e. is_joined e.kind) log
    (finished_joins script.actions (own_entries 0 log)
    (none_is (current_from script.actions (own_entries 0 log)) (sym (closed_finished script log closed) ∙ done)) h)

-- the action joins no job but the first
abbrev pub joins_first : Action → Bool
joins_first (actions.Join j) = eqb j 0
joins_first action = true

-- such an action wants no join of another job
first_wanted : (own : List Entry) (action : Action) (made : List Entry) (job : ℕ) (reply : JobReply) → joins_first action ≡ true
    → wants own action made (kinds.Joined job reply) ≡ true → job ≡ 0
first_wanted own (actions.Join j) made job reply first h = eqb-true job j (and_parts (eqb job j) _ h).0 ∙ eqb-true j 0 first
first_wanted own action made job reply first h = absurd cc

-- a reply of what was not refused, is not cancelled and is not forbidden
only_finished : (refused finished cancelled forbidden : Bool) (sum : ℕ) (reply : JobReply) → refused ≡ false → cancelled ≡ false → forbidden ≡ false
    → cond refused (Some Refused) (cond finished (Some (Finished sum)) (cond cancelled (Some Cancelled) (cond forbidden (Some Stopped) None))) ≡ Some reply
    → finished ≡ true
only_finished true finished cancelled forbidden sum reply a b c h = absurd cc
only_finished false true cancelled forbidden sum reply a b c h = refl
only_finished false false true forbidden sum reply a b c h = absurd cc
only_finished false false false true sum reply a b c h = absurd cc
only_finished false false false false sum reply a b c h = absurd cc

-- a calm script joins a job only where all its items are done
join_is_done : (script : Plan) (past : List Entry) (seat job : ℕ) (reply : JobReply) → IsClosed script
    → AllByRecursion (λ action. joins_first action ≡ true) script.actions → IsCalm past
    → may_come script past seat (kinds.Joined job reply) ≡ true → done past 0 ≡ items_of script 0
unfolding may_come
join_is_done script past seat job reply closed first calm may = subst (λ j. done past j ≡ items_of script j) job_is
    (eqb-true (done past job) (items_of script job) (only_finished _ _ (is_cancelled past job) (is_job_forbidden script past job) (job_sum past job) reply
    (calm.no_job_refused job) (calm.not_cancelled job) (calm_forbids_no_job script past job calm) (join_is script past seat job reply may).reply_is))
  where
    by_entry : by_script script past seat (kinds.Joined job reply) ≡ true
    by_entry = (and_parts _ (is_empty script past job) (and_parts _ (holds_of (same_reply reply) (reply_of script past job)) may).0).0

    job_is : job ≡ 0
    job_is =
        let (c, is, h) = wanted_by_one (λ action. joins_first action ≡ true) script past seat (kinds.Joined job reply) closed first by_entry in
        first_wanted (own_entries 0 past) c.action c.made job reply is h

-- what is done stays so
stays_done : (script : Plan) (past : List Entry) (e : Entry) → IsLegal script (past ++ e ∷ []) → done past 0 ≡ items_of script 0
    → done (past ++ e ∷ []) 0 ≡ items_of script 0
stays_done script past e legal all =
    omega (arith, all, done_push past e 0, claimed_is script (past ++ e ∷ []) 0 legal, claimed_within script (past ++ e ∷ []) 0 legal)

-- in a calm script that joins its first job alone, all items of that job are done behind the join
pub joined_is_done : (script : Plan) → IsCalmScript script → AllByRecursion (λ action. joins_first action ≡ true) script.actions
    → (past : List Entry) → IsLegal script past → joined_in past ≡ true → done past 0 ≡ items_of script 0
joined_is_done script calm first = legal_induction script (λ past. joined_in past ≡ true → done past 0 ≡ items_of script 0) (λ h. absurd cc)
    (λ past e legal allowed all h. stays_done script past e (legal_next script past e legal allowed)
    (⊎_elim all (λ k. now past e.seat e.kind legal (and_parts _ (may_come script past e.seat e.kind) allowed).1 k)
    (or_cases (joined_in past) (is_joined e.kind) (sym (one_more past e) ∙ h))))
  where
    one_more : (past : List Entry) (e : Entry) → joined_in (past ++ e ∷ []) ≡ (joined_in past || is_joined e.kind)
    one_more past e = list_any-append (λ x. is_joined x.kind) past (e ∷ []) ∙ ap (λ b. joined_in past || b) (or-false (is_joined e.kind))

    now : (past : List Entry) (seat : ℕ) (kind : Kind) → IsLegal script past → may_come script past seat kind ≡ true → is_joined kind ≡ true
        → done past 0 ≡ items_of script 0
    now past seat (kinds.Joined job reply) legal may k = join_is_done script past seat job reply calm.closed first (calm_logs script calm past legal) may
    now past seat kind legal may k = absurd cc
