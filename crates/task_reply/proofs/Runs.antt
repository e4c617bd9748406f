-- How a task that runs goes through its act steps.
-- Cited by `RepliesOfLogs`.
use Rattle.hist_model.proofs.Laws.Postings.Once.{once_in_one}
use Rattle.std.proofs.Common.{◌≡◌, ℕ, zero, suc, ◌+◌, ◌-◌, ◌<◌, ◌≤◌, Bool, true, false, cond, eqb, List, [], ◌∷◌, ◌++◌}
use Rattle.std.proofs.Common.{length, take, get_or, refl, sym, ap, subst, ◌∙◌, ◌⊎◌, inl, inr, Some, arith, add-zero}
use Rattle.std.specs.Prelude.{filter, slice_get, option_and_then}
use Rattle.std.proofs.lemmas.Bool.{and_parts, cases_lt, eqb-true, or_cases, true≢false}
use Rattle.std.proofs.lemmas.Option.{none-some, same_Some, slice_get-get_or}
use Rattle.task_base.specs.Plan.{Plan}
use Rattle.task_base.specs.Steps.{is_act}
use Rattle.task_base.specs.declared.step.Step.{Step}
use Rattle.task_base.specs.declared.script.Action.{Action}
use Rattle.task_base.specs.declared.script.Action.TheVariants as actions
use Rattle.task_base.specs.declared.entry.Entry.{Entry}
use Rattle.task_base.specs.declared.entry.Kind.{Kind}
use Rattle.task_base.specs.declared.entry.Kind.TheVariants as kinds
use Rattle.list_laws.specs.Lists.{holds_of}
use Rattle.list_laws.proofs.Places.{slice_get-more, slice_get_seam}
use Rattle.task_base.specs.Entries.{is_acting}
use Rattle.script_model.specs.Laws.Postings.{IsPostedOnce, times}
use Rattle.task_model.specs.Seats.{Running, running, running_after, acts_done, acts_after, steps_of, next_act}
use Rattle.task_model.proofs.Growth.{running_push, acts_done_push}
use Rattle.pool_laws.specs.Seats.{moves_running}
use Rattle.hist_model.specs.Views.{own_entries}
use Rattle.hist_model.specs.Script.{wants}
use Rattle.hist_model.specs.Allowed.{by_script, by_task, enters, may_come, IsAllowed}
use Rattle.hist_model.specs.Legal.{IsLegal}
use Rattle.hist_model.specs.Open.{IsClosed}
use Rattle.hist_model.specs.Laws.Consistent.{is_pump}
use Rattle.hist_model.specs.Laws.Places.{IsAt}
use Rattle.hist_model.specs.Laws.Postings.{kind_posts, posted_in}
use Rattle.hist_model.specs.Laws.Starts.{TasksStartAtMostOnce}
use Rattle.hist_model.proofs.Laws.AtPlaces.{in_past, of_past, take_at}
use Rattle.hist_model.proofs.Laws.Choice.{found}
use Rattle.hist_model.proofs.Laws.Legal.{legal_induction}
use Rattle.hist_model.proofs.Laws.OneThing.{legal_does_one_thing, wanted_by}
use Rattle.hist_model.proofs.Laws.Open.{closed_enters, closed_leaves, closed_main, closed_post}
use Rattle.hist_model.proofs.Laws.Postings.Counts.{posted_at_most_once}
use Rattle.hist_model.proofs.Laws.Since.{RunningSince, running_since, taking}
use Rattle.hist_model.proofs.Laws.Starts.{same_entry, tasks_start_at_most_once}
use Rattle.hist_model.proofs.Laws.Takes.{by_driver}
use Rattle.task_reply.specs.Laws.{IsByTask, PostsAt}
use Rattle.task_reply.proofs.OnePosting.{one_place}

-- ---- a task is posted at one place, and taken at one

-- two places that post one task are one
pub posts_once : (script : Plan) (log : List Entry) (i k seat other t : ℕ) → IsPostedOnce script → IsLegal script log → PostsAt log i seat t
    → PostsAt log k other t → i ≡ k
unfolding posted_in
posts_once script log i k seat other t once legal p q = one_place (λ (e : Entry). kind_posts e.kind) log i k _ _ t p.is q.is
    (omega (arith, ap (times t) p.posts, once_in_one t)) (omega (arith, ap (times t) q.posts, once_in_one t)) (posted_at_most_once script log t once legal)

-- the entry posts to a main queue
posts_main : Kind → Bool
posts_main (kinds.Main task queue delay ok) = true
posts_main kind = false

-- a task is not taken as one of the pool and as a main task
not_both : (script : Plan) (log : List Entry) (i k seat other t home found queue value : ℕ) → IsPostedOnce script → IsLegal script log
    → IsAt log i seat (kinds.Take t home found) → IsAt log k other (kinds.MainTake t queue value) → ⊥
unfolding posts_main
not_both script log i k seat other t home found queue value once legal at_i at_k =
    let law : TasksStartAtMostOnce log = tasks_start_at_most_once script log legal in
    let p = law.posted_before i seat t home found at_i in
    let q = law.main_posted_before k other t queue value at_k in
    let same = posts_once script log p.at q.at p.poster q.poster t once legal (record { kind = _; is = p.is; posts = refl })
    (record { kind = _; is = q.is; posts = refl }) in
    true≢false (sym (ap (λ (e : Entry). posts_main e.kind) (same_entry log p.at q.at _ _ same p.is q.is)))

-- two places that take one task are one, of one seat
one_taker : (script : Plan) (log : List Entry) (m n : Bool) (i k seat other t home found queue value : ℕ) → IsPostedOnce script → IsLegal script log
    → IsAt log i seat (taking m t home found) → IsAt log k other (taking n t queue value) → (i ≡ k) × (seat ≡ other)
one_taker script log false false i k seat other t home found queue value once legal at_i at_k =
    let same = (tasks_start_at_most_once script log legal).one_take i k seat other t home queue found value at_i at_k in (same.0, same.1)
one_taker script log true true i k seat other t home found queue value once legal at_i at_k =
    let same = (tasks_start_at_most_once script log legal).one_main_take i k seat other t home queue found value at_i at_k in (same.0, same.1)
one_taker script log false true i k seat other t home found queue value once legal at_i at_k =
    absurd (not_both script log i k seat other t home found queue value once legal at_i at_k)
one_taker script log true false i k seat other t home found queue value once legal at_i at_k =
    absurd (not_both script log k i other seat t queue value home found once legal at_k at_i)

-- ---- while a seat takes and ends nothing, its act steps are counted up

acts_after_more : (n : ℕ) (kind : Kind) → moves_running kind ≡ false → n ≤ acts_after n kind
acts_after_more n (kinds.Take task runner found) h = absurd cc
acts_after_more n (kinds.MainTake task queue found) h = absurd cc
acts_after_more n (kinds.Post task runner delay ok) h = omega arith
acts_after_more n (kinds.Main task queue delay ok) h = omega arith
acts_after_more n (kinds.Enter task scope) h = omega arith
acts_after_more n (kinds.Leave task) h = omega arith
acts_after_more n kind h = omega arith

acts_more : (past : List Entry) (e : Entry) (seat : ℕ) → (e.seat ≡ seat → moves_running e.kind ≡ false)
    → acts_done past seat ≤ acts_done (past ++ e ∷ []) seat
acts_more past e seat quiet = rw (acts_done_push past e seat) (at (eqb e.seat seat) refl)
  where
    at : (b : Bool) → eqb e.seat seat ≡ b → acts_done past seat ≤ cond b (acts_after (acts_done past seat) e.kind) (acts_done past seat)
    at true is = acts_after_more (acts_done past seat) e.kind (quiet (eqb-true e.seat seat is))
    at false is = omega arith

-- from place i on the seat takes and ends nothing before d more places
IsQuiet : List Entry → ℕ → ℕ → ℕ → Type 0
IsQuiet log seat i d = (k : ℕ) (e : Entry) → i ≤ k → k < i + d → slice_get log k ≡ Some e → e.seat ≡ seat → moves_running e.kind ≡ false

acts_rise : (log : List Entry) (seat i d : ℕ) → i + d ≤ length log → IsQuiet log seat i d
    → acts_done (take i log) seat ≤ acts_done (take (i + d) log) seat
unfolding IsQuiet
acts_rise log seat i zero within quiet = rw (add-zero i) (omega arith)
acts_rise log seat i (suc d) within quiet =
    let none : Entry = record { seat = 0; kind = kinds.Idle } in
    let here = slice_get-get_or log (i + d) none (omega (arith, within)) in
    let before = acts_rise log seat i d (omega (arith, within)) (λ k e from to. quiet k e from (omega (arith, to))) in
    let more = acts_more (take (i + d) log) (get_or log (i + d) none) seat (λ own. quiet (i + d) _ (omega arith) (omega arith) here own) in
    let next : i + suc d ≡ suc (i + d) = omega arith in
    rw (next, take_at log (i + d) _ here) (omega (arith, before, more))

-- two places where one task runs are of one seat, and the later one has no fewer act steps done
pub same_run : (script : Plan) (log : List Entry) (i k seat other t : ℕ) → IsPostedOnce script → IsLegal script log → i ≤ k → k < length log
    → IsByTask log i seat t → IsByTask log k other t → acts_done (take i log) seat ≤ acts_done (take k log) other
unfolding IsQuiet
same_run script log i k seat other t once legal up within a b =
    let since_a : RunningSince (take i log) seat a.now = running_since (take i log) seat a.now a.running_is in
    let since_b : RunningSince (take k log) other b.now = running_since (take k log) other b.now b.running_is in
    let at_a = of_past log since_a.place i _ since_a.is in
    let at_b = of_past log since_b.place k _ since_b.is in
    let take_a = subst (λ u. IsAt log since_a.place seat (taking a.now.is_main u a.now.home a.now.found)) a.task_is at_a.1 in
    let take_b = subst (λ u. IsAt log since_b.place other (taking b.now.is_main u b.now.home b.now.found)) b.task_is at_b.1 in
    let same = one_taker script log a.now.is_main b.now.is_main since_a.place since_b.place seat other t a.now.home a.now.found b.now.home b.now.found
    once legal take_a take_b in
    let reach : i + (k - i) ≡ k = omega arith in
    let risen = acts_rise log seat i (k - i) (omega (arith, within)) (λ j e from to is own.
    since_b.goes_on j e (omega (arith, from, at_a.0, same.0)) (in_past log j k (omega (arith, to, reach)) ∙ is) (own ∙ same.1)) in
    subst (λ s. acts_done (take i log) seat ≤ acts_done (take k log) s) same.1
    (subst (λ (n : ℕ). acts_done (take i log) seat ≤ acts_done (take n log) seat) reach risen)

-- ---- an entry of an act step

-- the act step of the task that the seat runs, which enters this
pub record ActStep (script : Plan) (past : List Entry) (seat : ℕ) (kind : Kind) : Type 0 where
  pub now : Running
  pub runs : running past seat ≡ Some now
  pub step : Step
  pub step_is : slice_get (filter is_act (steps_of script now.task)) (acts_done past seat) ≡ Some step
  pub enters_it : enters now.task step kind ≡ true

pub act_step : (script : Plan) (past : List Entry) (seat : ℕ) (kind : Kind) → by_task script past seat kind ≡ true → ActStep script past seat kind
unfolding by_task
act_step script past seat kind h =
    let w = found (λ (v : Running). holds_of (λ step. enters v.task step kind) (next_act script past seat)) (running past seat) h in
    let step = found (λ step. enters w.value.task step kind) (next_act script past seat) w.passes in
    record {
      now = w.value;
      runs = w.is;
      step = step.value;
      step_is = ap (option_and_then (λ (v : Running). slice_get (filter is_act (steps_of script v.task)) (acts_done past seat))) (sym w.is) ∙ step.is;
      enters_it = step.passes;
    }

-- such an entry of a closed plan is by the script, or by the task that the seat runs
pub by_either : (script : Plan) (past : List Entry) (seat : ℕ) (kind : Kind) → IsClosed script → may_come script past seat kind ≡ true → is_acting kind ≡ true
    → (by_script script past seat kind ≡ true) ⊎ (by_task script past seat kind ≡ true)
unfolding may_come
by_either script past seat (kinds.Post task runner delay ok) closed may acts =
    or_cases _ _ (and_parts _ _ (sym (closed_post script past seat task runner delay ok closed) ∙ may)).0
by_either script past seat (kinds.Main task queue delay ok) closed may acts =
    or_cases _ _ (and_parts _ _ (sym (closed_main script past seat task queue delay ok closed) ∙ may)).0
by_either script past seat (kinds.Enter task scope) closed may acts = inr (sym (closed_enters script past seat task scope closed) ∙ may)
by_either script past seat (kinds.Leave task) closed may acts = inr (sym (closed_leaves script past seat task closed) ∙ may)
by_either script past seat kind closed may acts = absurd cc

-- a pump wants no act step's entry
pump_wants_none : (own : List Entry) (action : Action) (made : List Entry) (kind : Kind) → is_pump action ≡ true → wants own action made kind ≡ true
    → is_acting kind ≡ false
pump_wants_none own (actions.Pump count) made (kinds.Post task runner delay ok) pump h = absurd cc
pump_wants_none own (actions.Pump count) made (kinds.Main task queue delay ok) pump h = absurd cc
pump_wants_none own (actions.Pump count) made (kinds.Enter task scope) pump h = absurd cc
pump_wants_none own (actions.Pump count) made (kinds.Leave task) pump h = absurd cc
pump_wants_none own (actions.Pump count) made kind pump h = refl
pump_wants_none own action made kind pump h = absurd cc

-- of a seat that runs a task it is by the task
pub by_running : (script : Plan) (past : List Entry) (seat : ℕ) (kind : Kind) (now : Running) → IsClosed script → IsLegal script past
    → running past seat ≡ Some now → may_come script past seat kind ≡ true → is_acting kind ≡ true → by_task script past seat kind ≡ true
by_running script past seat kind now closed legal runs may acts = at (by_either script past seat kind closed may acts)
  where
    at : (by_script script past seat kind ≡ true) ⊎ (by_task script past seat kind ≡ true) → by_task script past seat kind ≡ true
    at (inr task) = task
    at (inl by) =
        let driver : seat ≡ 0 = by_driver script past seat kind by in
        let (c, c_is, pump) = (legal_does_one_thing script past legal).pumps closed now (ap (running past) (sym driver) ∙ runs) in
        let w = wanted_by script past seat kind closed by in
        let same = same_Some c w.value (sym c_is ∙ w.is) in
        let none = pump_wants_none (own_entries 0 past) w.value.action w.value.made kind (ap (λ d. is_pump d.action) (sym same) ∙ pump) w.passes in
        absurd (true≢false (sym acts ∙ none))

-- ---- all act steps that are done were entered

-- the n-th act step of the task was entered in the past
pub record Entered (script : Plan) (past : List Entry) (seat task n : ℕ) : Type 0 where
  pub place : ℕ
  pub kind : Kind
  pub step : Step
  pub is : IsAt past place seat kind
  pub step_is : slice_get (filter is_act (steps_of script task)) n ≡ Some step
  pub enters_it : enters task step kind ≡ true

entered_more : (script : Plan) (past : List Entry) (e : Entry) (seat task n : ℕ) → Entered script past seat task n → Entered script (past ++ e ∷ []) seat task n
entered_more script past e seat task n was = record {
  place = was.place;
  kind = was.kind;
  step = was.step;
  is = slice_get-more past (e ∷ []) was.place _ was.is;
  step_is = was.step_is;
  enters_it = was.enters_it;
}

-- all act steps that the seat has done of what it runs were entered
AllEntered : Plan → List Entry → Type 0
AllEntered script past = (seat : ℕ) (w : Running) → running past seat ≡ Some w → (n : ℕ) → n < acts_done past seat → Entered script past seat w.task n

-- one more act step
one_entered : (script : Plan) (past : List Entry) (seat : ℕ) (kind : Kind) (w : Running) (n : ℕ) → IsClosed script → IsLegal script past
    → running past seat ≡ Some w → may_come script past seat kind ≡ true → is_acting kind ≡ true → (n < acts_done past seat → Entered script past seat w.task n)
    → n < acts_done past seat + 1 → Entered script (past ++ record { seat = seat; kind = kind } ∷ []) seat w.task n
one_entered script past seat kind w n closed legal runs may acts before less = elim (cases_lt n (acts_done past seat)) [
  | inl lt ↦ entered_more script past _ seat w.task n (before lt)
  | inr le ↦
      let a = act_step script past seat kind (by_running script past seat kind w closed legal runs may acts) in
      let same : a.now ≡ w = same_Some a.now w (sym a.runs ∙ runs) in
      let last : acts_done past seat ≡ n = omega (arith, le, less) in
      record {
        place = length past;
        kind = kind;
        step = a.step;
        is = slice_get_seam past _ [];
        step_is = subst (λ (v : Running). slice_get (filter is_act (steps_of script v.task)) n ≡ Some a.step) same
            (subst (λ m. slice_get (filter is_act (steps_of script a.now.task)) m ≡ Some a.step) last a.step_is);
        enters_it = subst (λ (v : Running). enters v.task a.step kind ≡ true) same a.enters_it;
      }
]

-- an entry of the seat's own
own_entered : (script : Plan) (past : List Entry) (seat : ℕ) (kind : Kind) (w : Running) (n : ℕ) → IsClosed script → IsLegal script past
    → may_come script past seat kind ≡ true
    → ((v : Running) → running past seat ≡ Some v → n < acts_done past seat → Entered script past seat v.task n)
    → running_after (running past seat) kind ≡ Some w → n < acts_after (acts_done past seat) kind
    → Entered script (past ++ record { seat = seat; kind = kind } ∷ []) seat w.task n
own_entered script past seat (kinds.Take task runner found) w n closed legal may before runs less = absurd (omega (arith, less))
own_entered script past seat (kinds.MainTake task queue found) w n closed legal may before runs less = absurd (omega (arith, less))
own_entered script past seat (kinds.End task left) w n closed legal may before runs less = absurd (none-some w runs)
own_entered script past seat (kinds.MainEnd task left) w n closed legal may before runs less = absurd (none-some w runs)
own_entered script past seat (kinds.Post task runner delay ok) w n closed legal may before runs less =
    one_entered script past seat (kinds.Post task runner delay ok) w n closed legal runs may refl (before w runs) less
own_entered script past seat (kinds.Main task queue delay ok) w n closed legal may before runs less =
    one_entered script past seat (kinds.Main task queue delay ok) w n closed legal runs may refl (before w runs) less
own_entered script past seat (kinds.Enter task scope) w n closed legal may before runs less =
    one_entered script past seat (kinds.Enter task scope) w n closed legal runs may refl (before w runs) less
own_entered script past seat (kinds.Leave task) w n closed legal may before runs less =
    one_entered script past seat (kinds.Leave task) w n closed legal runs may refl (before w runs) less
own_entered script past seat kind w n closed legal may before runs less = entered_more script past _ seat w.task n (before w runs less)

none_entered : (script : Plan) → AllEntered script []
unfolding AllEntered running
none_entered script seat w runs n less = absurd (none-some w runs)

more_entered : (script : Plan) → IsClosed script → (past : List Entry) (e : Entry) → IsLegal script past → IsAllowed script past e → AllEntered script past
    → AllEntered script (past ++ e ∷ [])
unfolding AllEntered
more_entered script closed past e legal allowed before seat w runs n less = at (eqb e.seat seat) refl
    (sym (running_push past e seat) ∙ runs) (subst (λ m. n < m) (acts_done_push past e seat) less)
  where
    may : may_come script past e.seat e.kind ≡ true
    may = (and_parts _ (may_come script past e.seat e.kind) allowed).1

    at : (b : Bool) → eqb e.seat seat ≡ b → cond b (running_after (running past seat) e.kind) (running past seat) ≡ Some w
        → n < cond b (acts_after (acts_done past seat) e.kind) (acts_done past seat) → Entered script (past ++ e ∷ []) seat w.task n
    at false is r l = entered_more script past e seat w.task n (before seat w r n l)
    at true is r l =
        let own : e.seat ≡ seat = eqb-true e.seat seat is in
        subst (λ s. Entered script (past ++ e ∷ []) s w.task n) own
        (own_entered script past e.seat e.kind w n closed legal may (λ v runs_v less_v. before e.seat v runs_v n less_v)
        (subst (λ s. running_after (running past s) e.kind ≡ Some w) (sym own) r)
        (subst (λ s. n < acts_after (acts_done past s) e.kind) (sym own) l))

pub acts_entered : (script : Plan) (past : List Entry) (seat : ℕ) (w : Running) (n : ℕ) → IsClosed script → IsLegal script past
    → running past seat ≡ Some w → n < acts_done past seat → Entered script past seat w.task n
unfolding AllEntered
acts_entered script past seat w n closed legal runs less =
    legal_induction script (AllEntered script) (none_entered script) (more_entered script closed) past legal seat w runs n less
