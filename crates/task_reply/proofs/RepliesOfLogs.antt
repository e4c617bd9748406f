-- Where a legal log has the posts of replies, and what stands before and behind them.
-- Cited by `laws.rt`.
use Rattle.hist_model.proofs.Laws.Postings.Once.{once_in_one}
use Rattle.std.proofs.Common.{◌≡◌, ℕ, ◌+◌, ◌<◌, ◌≤◌, Bool, true, false, eqb, List, [], ◌∷◌, ◌++◌, length}
use Rattle.std.proofs.Common.{take, refl, sym, ap, subst, ◌∙◌, ◌⊎◌, inl, inr, Some, arith}
use Rattle.std.specs.Prelude.{◌||◌, ◌&&◌, not, filter, flat_map, slice_get, Contains}
use Rattle.std.proofs.Math.Bool.{or-false}
use Rattle.std.proofs.lemmas.Bool.{and_parts, cases_lt, eqb-true}
use Rattle.std.proofs.lemmas.Option.{same_Some, slice_get_within}
use Rattle.task_base.specs.Plan.{Plan}
use Rattle.task_base.specs.Steps.{is_act}
use Rattle.task_base.specs.declared.step.Step.{Step}
use Rattle.task_base.specs.declared.step.Step.TheVariants as steps
use Rattle.task_base.specs.declared.entry.Entry.{Entry}
use Rattle.task_base.specs.declared.entry.Kind.{Kind}
use Rattle.task_base.specs.declared.entry.Kind.TheVariants as kinds
use Rattle.list_laws.proofs.Elements.{push_induction}
use Rattle.task_base.specs.Entries.{is_acting}
use Rattle.script_model.specs.Laws.Postings.{posts_of_action, posts_of_step, times}
use Rattle.script_model.specs.Laws.Sound.{IsSound}
use Rattle.task_model.specs.Posts.{takes, main_takes, ends}
use Rattle.pool_laws.specs.Posts.{main_ends}
use Rattle.task_model.specs.Seats.{Running, running, acts_done, steps_of}
use Rattle.hist_model.specs.Allowed.{by_script, by_task, enters, has_acted, has_done, may_come}
use Rattle.hist_model.specs.Legal.{IsLegal}
use Rattle.hist_model.specs.Open.{IsClosed}
use Rattle.hist_model.specs.Laws.Places.{IsAt, StandsBefore}
use Rattle.hist_model.specs.Laws.Postings.{kind_posts}
use Rattle.hist_model.proofs.Laws.AtPlaces.{may_come_at, of_past, past_is_legal}
use Rattle.hist_model.proofs.Laws.Choice.{found}
use Rattle.hist_model.proofs.Laws.Open.{closed_acts}
use Rattle.hist_model.proofs.Laws.Postings.Driver.{driver_begins, driver_has, driver_has_less, driver_posts}
use Rattle.hist_model.proofs.Laws.Starts.{same_entry, tasks_start_at_most_once}
use Rattle.task_reply.specs.declared.reply.Home.{Home}
use Rattle.task_reply.specs.declared.reply.Home.TheVariants.{Runner, Queue}
use Rattle.task_reply.specs.declared.reply.Reply.{Reply}
use Rattle.task_reply.specs.Elaborated.{IsElaborated, reply_posting, posting_to}
use Rattle.task_reply.specs.Laws.{ArePostedLast, EndAfterReplies, IsByTask, PostsAt, StartAfterPost, own_acts, post_by_reply, post_to}
use Rattle.task_reply.proofs.Growing.{posting_posts}
use Rattle.task_reply.proofs.OnePosting.{no_action_posts, one_posting, placed, posting_at, rank_at, rank_less}
use Rattle.task_reply.proofs.Runs.{ActStep, Entered, act_step, acts_entered, by_either, posts_once, same_run}

-- ---- what the script posts

-- the driver has no more postings left than its actions
driver_within : (script : Plan) (t : ℕ) (past : List Entry) → driver_has script t past ≤ times t (flat_map posts_of_action script.actions)
driver_within script t = push_induction (λ past. driver_has script t past ≤ times t (flat_map posts_of_action script.actions)) (driver_begins script t)
    (λ past e within. omega (arith, within, driver_has_less script t past e))

-- what no action posts is not posted by the script
not_by_script : (script : Plan) (t seat : ℕ) (past : List Entry) (kind : Kind) → IsClosed script
    → times t (flat_map posts_of_action script.actions) ≡ 0 → kind_posts kind ≡ t ∷ [] → by_script script past seat kind ≡ true → ⊥
not_by_script script t seat past kind closed none posts by =
    let e : Entry = record { seat = seat; kind = kind } in
    let used : driver_has script t (past ++ e ∷ []) + times t (kind_posts kind) ≤ driver_has script t past = driver_posts script t past e closed by in
    let one : times t (kind_posts kind) ≡ 1 = ap (times t) posts ∙ once_in_one t in
    omega (arith, used, driver_within script t past, one, none)

-- ---- the entry of a posting

-- an entry that posts is that of an act step
posts_act : (kind : Kind) (t : ℕ) → kind_posts kind ≡ t ∷ [] → is_acting kind ≡ true
posts_act (kinds.Post task runner delay ok) t posts = refl
posts_act (kinds.Main task queue delay ok) t posts = refl
posts_act kind t posts = absurd cc

-- it posts what its act step posts
entered_posts : (u t : ℕ) (step : Step) (kind : Kind) → enters u step kind ≡ true → kind_posts kind ≡ t ∷ [] → posts_of_step step ≡ t ∷ []
entered_posts u t (steps.Post v r d) (kinds.Post task runner delay ok) h posts =
    let same : task ≡ v = eqb-true task v (and_parts (eqb task v) (eqb runner r) (and_parts _ (eqb delay d) h).0).0 in
    ap (λ w. w ∷ []) (sym same) ∙ posts
entered_posts u t (steps.Main v q d) (kinds.Main task queue delay ok) h posts =
    let same : task ≡ v = eqb-true task v (and_parts (eqb task v) (eqb queue q) (and_parts _ (eqb delay d) h).0).0 in
    ap (λ w. w ∷ []) (sym same) ∙ posts
entered_posts u t step (kinds.Post task runner delay ok) h posts = absurd cc
entered_posts u t step (kinds.Main task queue delay ok) h posts = absurd cc
entered_posts u t step kind h posts = absurd cc

-- the entry of a reply's posting is the reply's post
posting_entered : (u t : ℕ) (home : Home) (kind : Kind) → enters u (posting_to t home) kind ≡ true → (ok : Bool) × (kind ≡ post_to t home ok)
posting_entered u t (Runner r) (kinds.Post task runner delay ok) h =
    let parts = and_parts _ (eqb delay 0) h in
    let first = and_parts (eqb task t) (eqb runner r) parts.0 in
    let task_is : task ≡ t = eqb-true task t first.0 in
    let home_is : runner ≡ r = eqb-true runner r first.1 in
    let delay_is : delay ≡ 0 = eqb-true delay 0 parts.1 in
    (ok, cc)
posting_entered u t (Queue q) (kinds.Main task queue delay ok) h =
    let parts = and_parts _ (eqb delay 0) h in
    let first = and_parts (eqb task t) (eqb queue q) parts.0 in
    let task_is : task ≡ t = eqb-true task t first.0 in
    let home_is : queue ≡ q = eqb-true queue q first.1 in
    let delay_is : delay ≡ 0 = eqb-true delay 0 parts.1 in
    (ok, cc)
posting_entered u t (Runner r) kind h = absurd cc
posting_entered u t (Queue q) kind h = absurd cc

-- ---- where a reply is posted

-- the post is the one that the reply's line says, by its task, when all own act steps of the task and the posts of its
-- earlier replies are done
record PostFacts (script : Plan) (replies : List Reply) (log : List Entry) (place seat m : ℕ) (reply : Reply) : Type 0 where
  ok : Bool
  is : IsAt log place seat (post_by_reply reply ok)
  by_task : IsByTask log place seat reply.task
  count : acts_done (take place log) seat ≡ own_acts script reply.task + rank_at replies m reply.task

post_facts : (script result : Plan) (replies : List Reply) (log : List Entry) (place seat m : ℕ) (reply : Reply) → IsElaborated script replies result
    → IsSound result → IsLegal result log → slice_get replies m ≡ Some reply → PostsAt log place seat reply.reply
    → PostFacts script replies log place seat m reply
post_facts script result replies log place seat m reply made sound legal is p =
    let acts = posts_act p.kind reply.reply p.posts in
    by_side (by_either result past seat p.kind sound.closed may acts)
  where
    past : List Entry
    past = take place log

    may : may_come result past seat p.kind ≡ true
    may = may_come_at result log place _ legal p.is

    at : ℕ
    at = own_acts script reply.task + rank_at replies m reply.task

    there : slice_get (filter is_act (steps_of result reply.task)) at ≡ Some (reply_posting reply)
    there = posting_at script result replies m reply made is

    posts : posts_of_step (reply_posting reply) ≡ reply.reply ∷ []
    posts = posting_posts reply.reply reply.home

    of_step : ActStep result past seat p.kind → PostFacts script replies log place seat m reply
    of_step a =
        let one = one_posting result reply.reply a.now.task reply.task (acts_done past seat) at a.step (reply_posting reply) sound.once.posted_once
        a.step_is there (entered_posts a.now.task reply.reply a.step p.kind a.enters_it p.posts) posts in
        let moved : slice_get (filter is_act (steps_of result reply.task)) at ≡ Some a.step = subst
        (λ n. slice_get (filter is_act (steps_of result reply.task)) n ≡ Some a.step) one.1
        (subst (λ u. slice_get (filter is_act (steps_of result u)) (acts_done past seat) ≡ Some a.step) one.0 a.step_is) in
        let step : a.step ≡ reply_posting reply = same_Some a.step (reply_posting reply) (sym moved ∙ there) in
        let (ok, kind_is) = posting_entered a.now.task reply.reply reply.home p.kind (subst (λ s. enters a.now.task s p.kind ≡ true) step a.enters_it) in
        record {
          ok = ok;
          is = subst (λ kind. IsAt log place seat kind) kind_is p.is;
          by_task = record { now = a.now; running_is = a.runs; task_is = one.0 };
          count = one.1;
        }

    by_side : (by_script result past seat p.kind ≡ true) ⊎ (by_task result past seat p.kind ≡ true) → PostFacts script replies log place seat m reply
    by_side (inl script_posts) = absurd (not_by_script result reply.reply seat past p.kind sound.closed
        (no_action_posts result reply.reply reply.task at (reply_posting reply) sound.once.posted_once there posts) p.posts script_posts)
    by_side (inr task) = of_step (act_step result past seat p.kind task)

-- ---- the laws

-- a reply is posted by its task alone, once, and behind all own act steps of the task
pub posted_last : (script result : Plan) (replies : List Reply) (log : List Entry) → IsElaborated script replies result → IsSound result
    → IsLegal result log → ArePostedLast script replies log
posted_last script result replies log made sound legal = record {
  by_its_task = λ reply place seat has p.
      let (m, is) = placed replies reply has in
      let f = post_facts script result replies log place seat m reply made sound legal is p in
      record { ok = f.ok; is = f.is; by_task = f.by_task; own_done = omega (arith, f.count) };
  one_post = λ reply i k seat other has p q. posts_once result log i k seat other reply.reply sound.once.posted_once legal p q;
  behind_own = λ reply i k seat other has own p.
      let (m, is) = placed replies reply has in
      let f = post_facts script result replies log k other m reply made sound legal is p in
      elim (cases_lt i k) [
        | inl lt ↦ lt
        | inr le ↦
            let more = same_run result log k i other seat reply.task sound.once.posted_once legal le (slice_get_within log i _ own.is) f.by_task own.by_task in
            absurd (omega (arith, more, f.count, own.is_own))
      ];
}

-- whether the entry says that it was accepted
accepts : Kind → Bool
accepts (kinds.Post task runner delay ok) = ok
accepts (kinds.Main task queue delay ok) = ok
accepts kind = false

post_accepts : (t : ℕ) (home : Home) (ok : Bool) → accepts (post_to t home ok) ≡ ok
unfolding accepts
post_accepts t (Runner runner) ok = refl
post_accepts t (Queue queue) ok = refl

-- a reply is taken only behind its post, which was accepted
pub start_after_post : (script result : Plan) (replies : List Reply) (log : List Entry) → IsElaborated script replies result → IsSound result
    → IsLegal result log → StartAfterPost replies log
unfolding accepts
start_after_post script result replies log made sound legal = record { posted_before = of_take }
  where
    of_post : (reply : Reply) (place at poster : ℕ) (kind : Kind) → Contains replies reply → at < place → IsAt log at poster kind
        → kind_posts kind ≡ reply.reply ∷ [] → accepts kind ≡ true → StandsBefore log place (post_by_reply reply true)
    of_post reply place at poster kind has earlier is posts ok =
        let (m, reply_is) = placed replies reply has in
        let f = post_facts script result replies log at poster m reply made sound legal reply_is (record { kind = kind; is = is; posts = posts }) in
        let same : kind ≡ post_by_reply reply f.ok = ap (λ (e : Entry). e.kind) (same_entry log at at _ _ refl is f.is) in
        let yes : f.ok ≡ true = sym (post_accepts reply.reply reply.home f.ok) ∙ ap accepts (sym same) ∙ ok in
        record { at = at; seat = poster; earlier = earlier; is = subst (λ b. IsAt log at poster (post_by_reply reply b)) yes f.is }

    of_take : (reply : Reply) (place seat : ℕ) (kind : Kind) → Contains replies reply → IsAt log place seat kind
        → (takes reply.reply kind || main_takes reply.reply kind) ≡ true → StandsBefore log place (post_by_reply reply true)
    of_take reply place seat (kinds.Take task runner found) has is h =
        let p = (tasks_start_at_most_once result log legal).posted_before place seat task runner found is in
        let task_is : task ≡ reply.reply = eqb-true task reply.reply (sym (or-false (eqb task reply.reply)) ∙ h) in
        of_post reply place p.at p.poster (kinds.Post task runner p.delay true) has p.earlier p.is (ap (λ t. t ∷ []) task_is) refl
    of_take reply place seat (kinds.MainTake task queue found) has is h =
        let p = (tasks_start_at_most_once result log legal).main_posted_before place seat task queue found is in
        let task_is : task ≡ reply.reply = eqb-true task reply.reply h in
        of_post reply place p.at p.poster (kinds.Main task queue p.delay true) has p.earlier p.is (ap (λ t. t ∷ []) task_is) refl
    of_take reply place seat kind has is h = absurd cc

-- at the end of a task the seat runs it, and all its act steps are done
record EndsDone (script : Plan) (past : List Entry) (seat task : ℕ) : Type 0 where
  now : Running
  runs : running past seat ≡ Some now
  task_is : now.task ≡ task
  done : acts_done past seat ≡ length (filter is_act (steps_of script now.task))

ends_done : (script : Plan) (past : List Entry) (seat task : ℕ) (kind : Kind) → IsClosed script → may_come script past seat kind ≡ true
    → (ends task kind || main_ends task kind) ≡ true → EndsDone script past seat task
unfolding may_come
ends_done script past seat t (kinds.End task left) closed may h =
    let w = found (λ (v : Running). not v.is_main && eqb v.task task && has_done script past seat left v) (running past seat) may in
    let parts = and_parts _ (has_done script past seat left w.value) w.passes in
    let done = and_parts (has_acted script past seat w.value) _ parts.1 in
    record {
      now = w.value;
      runs = w.is;
      task_is = eqb-true w.value.task task (and_parts _ (eqb w.value.task task) parts.0).1 ∙ eqb-true task t (sym (or-false (eqb task t)) ∙ h);
      done = eqb-true (acts_done past seat) _ (sym (closed_acts script past seat w.value closed) ∙ done.0);
    }
ends_done script past seat t (kinds.MainEnd task left) closed may h =
    let w = found (λ (v : Running). v.is_main && eqb v.task task && has_done script past seat left v) (running past seat) (and_parts (eqb seat 0) _ may).1 in
    let parts = and_parts _ (has_done script past seat left w.value) w.passes in
    let done = and_parts (has_acted script past seat w.value) _ parts.1 in
    record {
      now = w.value;
      runs = w.is;
      task_is = eqb-true w.value.task task (and_parts _ (eqb w.value.task task) parts.0).1 ∙ eqb-true task t h;
      done = eqb-true (acts_done past seat) _ (sym (closed_acts script past seat w.value closed) ∙ done.0);
    }
ends_done script past seat t kind closed may h = absurd cc

-- an act step of the past that posts the reply is the reply's post
entered_post : (script : Plan) (log : List Entry) (place seat task n : ℕ) (reply : Reply) → Entered script (take place log) seat task n
    → slice_get (filter is_act (steps_of script task)) n ≡ Some (reply_posting reply) → (ok : Bool) × StandsBefore log place (post_by_reply reply ok)
entered_post script log place seat task n reply entered there =
    let step : entered.step ≡ reply_posting reply = same_Some entered.step (reply_posting reply) (sym entered.step_is ∙ there) in
    let (ok, kind_is) = posting_entered task reply.reply reply.home entered.kind (subst (λ s. enters task s entered.kind ≡ true) step entered.enters_it) in
    let at = of_past log entered.place place _ entered.is in
    (ok, record { at = entered.place; seat = seat; earlier = at.0; is = subst (λ k. IsAt log entered.place seat k) kind_is at.1 })

-- the replies of a task that ends were posted, in the order of their lines
pub end_after_replies : (script result : Plan) (replies : List Reply) (log : List Entry) → IsElaborated script replies result → IsSound result
    → IsLegal result log → EndAfterReplies replies log
end_after_replies script result replies log made sound legal = record {
  all_posted = λ reply place seat kind has is h.
      let (m, reply_is) = placed replies reply has in
      let e = ends_done result (take place log) seat reply.task kind sound.closed (may_come_at result log place _ legal is) h in
      let n = own_acts script reply.task + rank_at replies m reply.task in
      let there = posting_at script result replies m reply made reply_is in
      let of_now = subst (λ u. slice_get (filter is_act (steps_of result u)) n ≡ Some (reply_posting reply)) (sym e.task_is) there in
      let within = slice_get_within (filter is_act (steps_of result e.now.task)) _ (reply_posting reply) of_now in
      entered_post result log place seat e.now.task _ reply
      (acts_entered result (take place log) seat e.now _ sound.closed (past_is_legal result log place _ legal is) e.runs
      (omega (arith, within, e.done))) of_now;
  in_order = λ first second i k seat other before p q.
      let f = post_facts script result replies log i seat before.m first made sound legal before.first_is p in
      let g = post_facts script result replies log k other before.n second made sound legal before.second_is q in
      let second_runs : IsByTask log k other first.task = subst (λ t. IsByTask log k other t) (sym before.one_task) g.by_task in
      let rank = rank_less replies before.m before.n first before.less before.first_is in
      let second_count : acts_done (take k log) other ≡ own_acts script first.task + rank_at replies before.n first.task =
      subst (λ t. acts_done (take k log) other ≡ own_acts script t + rank_at replies before.n t) (sym before.one_task) g.count in
      elim (cases_lt i k) [
        | inl lt ↦ lt
        | inr le ↦
            let more = same_run result log k i other seat first.task sound.once.posted_once legal le (slice_get_within log i _ p.is) second_runs f.by_task in
            absurd (omega (arith, more, f.count, second_count, rank))
      ];
}
