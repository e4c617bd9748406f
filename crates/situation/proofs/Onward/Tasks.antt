-- One more entry after two pasts in the same situation: the behaviours of the tasks that run, the block tasks that have not ended,
-- and the skip tasks that run.
-- Cited by `Onward/Whole`, `log_count`.
use Rattle.std.proofs.Common.{◌≡◌, ℕ, ◌+◌, Bool, true, false, cond, eqb, List, [], ◌∷◌, ◌++◌, refl, sym, ap, subst, ◌∙◌, Option, Some, None, inl, inr, arith}
use Rattle.std.specs.Prelude.{◌&&◌, ◌⊎◌, find, Contains}
use Rattle.std.specs.Option.{option_map, option_or}
use Rattle.std.proofs.lemmas.Bool.{and_parts, eqb-true, eq-eqb, ne_eqb}
use Rattle.std.proofs.lemmas.Option.{none-some, same_Some}
use Rattle.task_base.specs.Plan.{Plan}
use Rattle.task_base.specs.declared.entry.Entry.{Entry}
use Rattle.task_base.specs.declared.entry.JobReply.TheVariants.{Finished}
use Rattle.task_base.specs.declared.entry.Kind.{Kind}
use Rattle.task_base.specs.declared.entry.Kind.TheVariants as kinds
use Rattle.task_base.specs.declared.source.TaskSource.{TaskSource}
use Rattle.task_base.specs.declared.source.TaskSource.TheVariants.{Sequence, Job}
use Rattle.task_traits.specs.declared.traits.Behaviour.{Behaviour}
use Rattle.list_laws.specs.Lists.{holds_of}
use Rattle.list_laws.proofs.Elements.{AllByRecursion-contains}
use Rattle.list_laws.proofs.Made.{contains_cases, none_contained}
use Rattle.list_laws.proofs.Options.{option_map-or}
use Rattle.script_model.specs.Laws.Sound.{IsSound}
use Rattle.task_model.specs.Posts.{Posted, posts, posted_by, post_behind, is_taken, is_ended, takes}
use Rattle.task_model.specs.Keys.{Ready}
use Rattle.task_model.specs.Refusal.{effective_at}
use Rattle.task_model.specs.Seats.{Running, running, running_after}
use Rattle.task_model.specs.Sequences.{head_of}
use Rattle.task_model.specs.Cells.{cell_of}
use Rattle.task_model.specs.Sources.{Candidate, best_of}
use Rattle.task_model.specs.Blockers.{open_blocks, running_skips, is_block, is_skip}
use Rattle.task_model.proofs.Growth.{running_push}
use Rattle.pool_laws.specs.Posts.{Before, InOrder, post_of}
use Rattle.pool_laws.specs.Room.{share}
use Rattle.pool_laws.specs.Shutdown.{moves_open_blocks, moves_running_skips}
use Rattle.pool_laws.proofs.Choice.Least.{head_is}
use Rattle.pool_laws.proofs.Keys.Posts.{post_of_grows}
use Rattle.pool_laws.proofs.Seats.Runs.{singly_unended}
use Rattle.pool_laws.proofs.Shutdown.Tasks.{open_blocks_same, open_blocks_at_post, open_blocks_at_end, running_skips_same, running_skips_at_post}
use Rattle.pool_laws.proofs.Shutdown.Tasks.{running_skips_at_take, running_skips_at_end}
use Rattle.hist_model.specs.Allowed.{IsAllowed, is_head_of, is_ready_worker, may_come}
use Rattle.hist_model.specs.Legal.{IsLegal}
use Rattle.hist_model.specs.Laws.Postings.{IsNew, kind_posts}
use Rattle.hist_model.proofs.Laws.Choice.{found}
use Rattle.hist_model.proofs.Laws.Consistent.{legal_is_consistent}
use Rattle.hist_model.proofs.Laws.Postings.Once.{a_posted_task_is_new, each_is_accepted_once}
use Rattle.hist_model.proofs.Laws.Starts.{takes_fresh}
use Rattle.hist_model.proofs.Laws.Takes.{end_is}
use Rattle.situation.specs.Alike.{without_items}
use Rattle.situation.specs.Line.{waiter_of, TaskStands}
use Rattle.situation.specs.Situation.{behaviour_now, is_pool_script}
use Rattle.situation.specs.Same.{SameWork}
use Rattle.situation.proofs.Choice.{head_also}
use Rattle.situation.proofs.Onward.Folds.{runs_on}
use Rattle.situation.proofs.Onward.Scopes.{no_main_take}
use Rattle.situation.proofs.Told.{same_told, by_jobs}

-- ---- the post of a task

in_order_found : (ps : List Posted) (p : Posted) → InOrder ps → Contains ps p → find (λ q. eqb q.task p.task) ps ≡ Some p
in_order_found [] p order among = absurd (none_contained p among)
in_order_found (q ∷ qs) p order among = by_cases (contains_cases q qs p among) (in_order_found qs p order.1)
  where
    by_cases : (q ≡ p) ⊎ Contains qs p → (Contains qs p → find (λ r. eqb r.task p.task) qs ≡ Some p) → find (λ r. eqb r.task p.task) (q ∷ qs) ≡ Some p
    by_cases (inl same) rest = rw (same, eq-eqb p.task p.task refl) refl
    by_cases (inr there) rest =
        rw (ne_eqb q.task p.task (AllByRecursion-contains (Before q) qs p order.0 there).another) (rest there)

pub accepted_post : (script : Plan) (past : List Entry) → IsSound script → IsLegal script past → (p : Posted) → Contains (posts past) p
    → post_of past p.task ≡ Some p
accepted_post script past sound legal p among = in_order_found (posts past) p (each_is_accepted_once script past sound.once.posted_once legal).pool among

-- the behaviour in effect of an accepted task
abbrev pub effective_now : Plan → List Entry → ℕ → Option Behaviour
effective_now script past t = option_map (λ p. effective_at script p.home p.delay) (post_of past t)

abbrev pub effective_added : Plan → List Entry → ℕ → Kind → Option Behaviour
effective_added script past t kind = option_map (λ p. effective_at script p.home p.delay) (find (λ p. eqb p.task t) (posted_by past kind))

pub effective_push : (script : Plan) (past : List Entry) (e : Entry) (t : ℕ)
    → effective_now script (past ++ e ∷ []) t ≡ option_or (effective_now script past t) (effective_added script past t e.kind)
effective_push script past e t = ap (option_map (λ (p : Posted). effective_at script p.home p.delay)) (post_of_grows past e t)
    ∙ option_map-or (λ (p : Posted). effective_at script p.home p.delay) (post_of past t) (find (λ p. eqb p.task t) (posted_by past e.kind))

-- ---- kinds that are no entry of a job

post_like : (like : Kind) (task runner delay : ℕ) (ok : Bool) → kinds.Post task runner delay ok ≡ without_items like → like ≡ kinds.Post task runner delay ok
post_like (kinds.JobTake job id item) task runner delay ok is = absurd cc
post_like (kinds.JobStep job id item value next) task runner delay ok is = absurd cc
post_like (kinds.Joined job (Finished sum)) task runner delay ok is = absurd cc
post_like (kinds.Joined job reply) task runner delay ok is = absurd cc
post_like like task runner delay ok is = sym is

take_like : (like : Kind) (task runner value : ℕ) → kinds.Take task runner value ≡ without_items like → like ≡ kinds.Take task runner value
take_like (kinds.JobTake job id item) task runner value is = absurd cc
take_like (kinds.JobStep job id item value next) task runner other is = absurd cc
take_like (kinds.Joined job (Finished sum)) task runner value is = absurd cc
take_like (kinds.Joined job reply) task runner value is = absurd cc
take_like like task runner value is = sym is

end_like : (like : Kind) (task left : ℕ) → kinds.End task left ≡ without_items like → like ≡ kinds.End task left
end_like (kinds.JobTake job id item) task left is = absurd cc
end_like (kinds.JobStep job id item value next) task left is = absurd cc
end_like (kinds.Joined job (Finished sum)) task left is = absurd cc
end_like (kinds.Joined job reply) task left is = absurd cc
end_like like task left is = sym is

-- ---- the head that is taken, and the task that ends

-- the posts of a task in both pasts, to one runner with one delay
record SamePosts (script : Plan) (past other : List Entry) (t : ℕ) : Type 0 where
  here : Posted
  there : Posted
  here_is : post_of past t ≡ Some here
  there_is : post_of other t ≡ Some there
  effective : effective_at script here.home here.delay ≡ effective_at script there.home there.delay

module _ (script : Plan) (past other : List Entry) (sound : IsSound script) (legal : IsLegal script past) (legal_other : IsLegal script other)
    (same : SameWork script past other) where
  taken_posts : (seat task runner value : ℕ) → may_come script past seat (kinds.Take task runner value) ≡ true → SamePosts script past other task
  unfolding may_come
  taken_posts seat task runner value may =
      let parts = and_parts (is_ready_worker script past seat)
      (holds_of (λ (c : Candidate). is_head_of script past task runner value c.source) (best_of script past seat)) may in
      let c = found (λ (x : Candidate). is_head_of script past task runner value x.source) (best_of script past seat) parts.1 in
      by_source c.value.source c.passes
    where
      by_source : (source : TaskSource) → is_head_of script past task runner value source ≡ true → SamePosts script past other task
      by_source (Job j) h = absurd cc
      by_source (Sequence s) h =
          let parts = and_parts (holds_of (λ (r : Ready). eqb r.posted.task task && eqb r.posted.home runner) (head_of script past s))
          (eqb value (cell_of script past s)) h in
          let r = found (λ (x : Ready). eqb x.posted.task task && eqb x.posted.home runner) (head_of script past s) parts.0 in
          let q = head_also script past other same legal legal_other s r.value r.is in
          by_heads s r.value q.0 r.is q.1 q.2 (eqb-true r.value.posted.task task (and_parts (eqb r.value.posted.task task)
          (eqb r.value.posted.home runner) r.passes).0)
        where
          by_heads : (s : ℕ) (r q : Ready) → head_of script past s ≡ Some r → head_of script other s ≡ Some q
              → waiter_of (TaskStands r) ≡ waiter_of (TaskStands q)
              → r.posted.task ≡ task → SamePosts script past other task
          by_heads s r q is_r is_q alike is =
              let one : r.posted.task ≡ q.posted.task = cc in
              let home : r.posted.home ≡ q.posted.home = cc in
              let delay : r.posted.delay ≡ q.posted.delay = cc in
              record {
                here = r.posted;
                there = q.posted;
                here_is = ap (post_of past) (sym is) ∙ accepted_post script past sound legal r.posted (head_is script past s r is_r).accepted;
                there_is = ap (post_of other) (sym is ∙ one) ∙ accepted_post script other sound legal_other q.posted (head_is script other s q is_q).accepted;
                effective = rw (home, delay) refl;
              }

  ended_posts : (seat : ℕ) (w : Running) → running past seat ≡ Some w → w.is_main ≡ false → SamePosts script past other w.task
  ended_posts seat w runs pool =
      let one = (legal_is_consistent script past legal false).runs seat w runs pool in
      let two = (legal_is_consistent script other legal_other false).runs seat w (sym (same.runs seat) ∙ runs) pool in
      let here : post_of past w.task ≡ Some one.can.accepted = ap (post_of past) (sym one.can.task_is)
      ∙ accepted_post script past sound legal one.can.accepted one.can.posted in
      let there : post_of other w.task ≡ Some two.can.accepted = ap (post_of other) (sym two.can.task_is)
      ∙ accepted_post script other sound legal_other two.can.accepted two.can.posted in
      let both : behaviour_now script past seat ≡ behaviour_now script other seat = same.behaviours seat in
      record {
        here = one.can.accepted;
        there = two.can.accepted;
        here_is = here;
        there_is = there;
        effective = same_Some _ _ (rw (runs, sym (same.runs seat) ∙ runs, here, there) at both);
      }

module _ (script : Plan) (past other : List Entry) (sound : IsSound script) (pool : is_pool_script script ≡ true) (legal : IsLegal script past)
    (legal_other : IsLegal script other) (same : SameWork script past other) (e f : Entry) (seat : e.seat ≡ f.seat)
    (alike : without_items e.kind ≡ without_items f.kind) (allowed : IsAllowed script past e) (allowed_other : IsAllowed script other f)
    (may : may_come script past e.seat e.kind ≡ true) (may_other : may_come script other f.seat f.kind ≡ true) where
  -- ---- behaviours

  added_same : (t : ℕ) (kind : Kind) → effective_added script past t kind ≡ effective_added script other t kind
  added_same t (kinds.Post task runner delay true) = by_test (eqb task t)
    where
      by_test : (b : Bool) → option_map (λ (p : Posted). effective_at script p.home p.delay) (cond b (Some (post_behind past task runner delay)) None)
          ≡ option_map (λ (p : Posted). effective_at script p.home p.delay) (cond b (Some (post_behind other task runner delay)) None)
      by_test true = refl
      by_test false = refl
  added_same t kind = refl

  effective_on : (t : ℕ) → effective_now script past t ≡ effective_now script other t
      → effective_now script (past ++ e ∷ []) t ≡ effective_now script (other ++ f ∷ []) t
  effective_on t before = effective_push script past e t ∙ ap (λ o. option_or o (effective_added script past t e.kind)) before
      ∙ ap (option_or (effective_now script other t)) (added_same t e.kind
      ∙ same_told (effective_added script other t) (by_jobs (effective_added script other t) (λ j i n. refl) (λ j i n v k. refl)
      (λ j n. refl)) e.kind f.kind alike)
      ∙ sym (effective_push script other f t)

  effective_before : (s : ℕ) (w : Running) → running (past ++ e ∷ []) s ≡ Some w → effective_now script past w.task ≡ effective_now script other w.task
  effective_before s w runs = by_seat (eqb e.seat s) (sym (running_push past e s) ∙ runs)
    where
      runs_on_here : (v : Running) → running past s ≡ Some v → effective_now script past v.task ≡ effective_now script other v.task
      runs_on_here v is = let both : behaviour_now script past s ≡ behaviour_now script other s = same.behaviours s in rw (is, sym (same.runs s) ∙ is) at both

      by_kind : (kind : Kind) → e.kind ≡ kind → running_after (running past s) kind ≡ Some w
          → effective_now script past w.task ≡ effective_now script other w.task
      by_kind (kinds.Take task runner value) is after =
          let p = taken_posts script past other sound legal legal_other same e.seat task runner value (ap (may_come script past e.seat) (sym is) ∙ may) in
          subst (λ (v : Running). effective_now script past v.task ≡ effective_now script other v.task) (same_Some _ _ after)
          (rw (p.here_is, p.there_is) (ap Some p.effective))
      by_kind (kinds.MainTake task queue value) is after =
          absurd (no_main_take script past sound pool e.seat task queue value (ap (may_come script past e.seat) (sym is) ∙ may))
      by_kind (kinds.End task left) is after = absurd (none-some w after)
      by_kind (kinds.MainEnd task left) is after = absurd (none-some w after)
      by_kind kind is after = runs_on_here w after

      by_seat : (b : Bool) → cond b (running_after (running past s) e.kind) (running past s) ≡ Some w
          → effective_now script past w.task ≡ effective_now script other w.task
      by_seat true after = by_kind e.kind refl after
      by_seat false after = runs_on_here w after

  pub behaviours_on : (s : ℕ) → behaviour_now script (past ++ e ∷ []) s ≡ behaviour_now script (other ++ f ∷ []) s
  behaviours_on s = by_running (running (past ++ e ∷ []) s) refl
    where
      by_running : (o : Option Running) → running (past ++ e ∷ []) s ≡ o → behaviour_now script (past ++ e ∷ []) s ≡ behaviour_now script (other ++ f ∷ []) s
      by_running None is = rw (is, sym (runs_on script past other same e f seat alike s) ∙ is) refl
      by_running (Some w) is = rw (is, sym (runs_on script past other same e f seat alike s) ∙ is) (effective_on w.task (effective_before s w is))

  -- ---- block tasks that have not ended, and skip tasks that run

  order : InOrder (posts past)
  order = (each_is_accepted_once script past sound.once.posted_once legal).pool

  order_other : InOrder (posts other)
  order_other = (each_is_accepted_once script other sound.once.posted_once legal_other).pool

  pub new_here : (task runner delay : ℕ) (ok : Bool) → e.kind ≡ kinds.Post task runner delay ok → IsNew past task
  new_here task runner delay ok is = a_posted_task_is_new script past e task sound.once.posted_once legal allowed (ap kind_posts is)

  pub new_there : (task runner delay : ℕ) (ok : Bool) → f.kind ≡ kinds.Post task runner delay ok → IsNew other task
  new_there task runner delay ok is = a_posted_task_is_new script other f task sound.once.posted_once legal_other allowed_other (ap kind_posts is)

  runs_pool : (task left : ℕ) → e.kind ≡ kinds.End task left → (w : Running) × (running past e.seat ≡ Some w) × (w.is_main ≡ false) × (w.task ≡ task)
  runs_pool task left is = end_is script past e.seat task left (ap (may_come script past e.seat) (sym is) ∙ may)

  quiet_blocks : moves_open_blocks e.kind ≡ false → moves_open_blocks f.kind ≡ false
  quiet_blocks h = sym (same_told moves_open_blocks (by_jobs moves_open_blocks (λ j i n. refl) (λ j i n v k. refl) (λ j n. refl)) e.kind f.kind alike) ∙ h

  quiet_skips : moves_running_skips e.kind ≡ false → moves_running_skips f.kind ≡ false
  quiet_skips h = sym (same_told moves_running_skips (by_jobs moves_running_skips (λ j i n. refl) (λ j i n v k. refl) (λ j n. refl)) e.kind f.kind alike) ∙ h

  blocks_still : moves_open_blocks e.kind ≡ false → open_blocks script (past ++ e ∷ []) ≡ open_blocks script (other ++ f ∷ [])
  blocks_still h = open_blocks_same script past e h ∙ same.blocks ∙ sym (open_blocks_same script other f (quiet_blocks h))

  skips_still : moves_running_skips e.kind ≡ false → running_skips script (past ++ e ∷ []) ≡ running_skips script (other ++ f ∷ [])
  skips_still h = running_skips_same script past e h ∙ same.skips ∙ sym (running_skips_same script other f (quiet_skips h))

  like_of : (kind : Kind) → e.kind ≡ kind → without_items kind ≡ without_items f.kind
  like_of kind is = ap without_items (sym is) ∙ alike

  pub blocks_on : open_blocks script (past ++ e ∷ []) ≡ open_blocks script (other ++ f ∷ [])
  blocks_on = by_kind e.kind refl
    where
      by_kind : (kind : Kind) → e.kind ≡ kind → open_blocks script (past ++ e ∷ []) ≡ open_blocks script (other ++ f ∷ [])
      by_kind (kinds.Post task runner delay true) is =
          let is_f = post_like f.kind task runner delay true (like_of (kinds.Post task runner delay true) is) in
          open_blocks_at_post script past e task runner delay is (new_here task runner delay true is).not_ended
          ∙ ap (λ n. n + share (is_block (effective_at script runner delay))) same.blocks
          ∙ sym (open_blocks_at_post script other f task runner delay is_f (new_there task runner delay true is_f).not_ended)
      by_kind (kinds.End task left) is =
          let is_f = end_like f.kind task left (like_of (kinds.End task left) is) in
          let w = runs_pool task left is in
          let p = ended_posts script past other sound legal legal_other same e.seat w.0 w.1 w.2 in
          let one = (legal_is_consistent script past legal false).runs e.seat w.0 w.1 w.2 in
          let two = (legal_is_consistent script other legal_other false).runs e.seat w.0 (sym (same.runs e.seat) ∙ w.1) w.2 in
          omega (
            arith,
            same.blocks,
            ap (λ b. share (is_block b)) p.effective,
            open_blocks_at_end script past e p.here task left is order (ap (post_of past) (sym w.3) ∙ p.here_is) (ap (is_ended past) (sym w.3) ∙ one.not_ended),
            open_blocks_at_end script other f p.there task left is_f order_other (ap (post_of other) (sym w.3) ∙ p.there_is) (ap (is_ended other) (sym w.3)
                ∙ two.not_ended),
          )
      by_kind kind is = blocks_still (ap moves_open_blocks is)

  pub skips_on : running_skips script (past ++ e ∷ []) ≡ running_skips script (other ++ f ∷ [])
  skips_on = by_kind e.kind refl
    where
      by_kind : (kind : Kind) → e.kind ≡ kind → running_skips script (past ++ e ∷ []) ≡ running_skips script (other ++ f ∷ [])
      by_kind (kinds.Post task runner delay true) is =
          let is_f = post_like f.kind task runner delay true (like_of (kinds.Post task runner delay true) is) in
          running_skips_at_post script past e task runner delay is (new_here task runner delay true is).not_taken
          ∙ same.skips ∙ sym (running_skips_at_post script other f task runner delay is_f (new_there task runner delay true is_f).not_taken)
      by_kind (kinds.Take task runner value) is =
          let is_f = take_like f.kind task runner value (like_of (kinds.Take task runner value) is) in
          let p = taken_posts script past other sound legal legal_other same e.seat task runner value (ap (may_come script past e.seat) (sym is) ∙ may) in
          let one = takes_fresh script past e.seat e.kind false task may (ap (takes task) is ∙ eq-eqb task task refl) in
          let two = takes_fresh script other f.seat f.kind false task may_other (ap (takes task) is_f ∙ eq-eqb task task refl) in
          omega (
            arith,
            same.skips,
            ap (λ b. share (is_skip b)) p.effective,
            running_skips_at_take script past e p.here task runner value is order p.here_is one
                (singly_unended script past false task (legal_is_consistent script past legal false) one),
            running_skips_at_take script other f p.there task runner value is_f order_other p.there_is two
                (singly_unended script other false task (legal_is_consistent script other legal_other false) two),
          )
      by_kind (kinds.End task left) is =
          let is_f = end_like f.kind task left (like_of (kinds.End task left) is) in
          let w = runs_pool task left is in
          let p = ended_posts script past other sound legal legal_other same e.seat w.0 w.1 w.2 in
          let one = (legal_is_consistent script past legal false).runs e.seat w.0 w.1 w.2 in
          let two = (legal_is_consistent script other legal_other false).runs e.seat w.0 (sym (same.runs e.seat) ∙ w.1) w.2 in
          omega (
            arith,
            same.skips,
            ap (λ b. share (is_skip b)) p.effective,
            running_skips_at_end script past e p.here task left is order (ap (post_of past) (sym w.3) ∙ p.here_is)
                (ap (is_taken past) (sym w.3) ∙ one.taken) (ap (is_ended past) (sym w.3) ∙ one.not_ended),
            running_skips_at_end script other f p.there task left is_f order_other (ap (post_of other) (sym w.3) ∙ p.there_is)
                (ap (is_taken other) (sym w.3) ∙ two.taken) (ap (is_ended other) (sym w.3) ∙ two.not_ended),
          )
      by_kind kind is = skips_still (ap moves_running_skips is)
