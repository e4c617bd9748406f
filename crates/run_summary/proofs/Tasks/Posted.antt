-- The tasks that were accepted: each of them once the driver has no post left.
-- Cited by `Tasks/Ends`, `Tasks/Once`, `Tasks/Pumped`, `Tasks/Rest`.
use Rattle.std.proofs.Common.{◌≡◌, ℕ, zero, suc, ◌+◌, ◌<◌, ◌≤◌, Bool, true, false, cond, eqb, leb, List}
use Rattle.std.proofs.Common.{[], ◌∷◌, ◌++◌, length, refl, sym, ap, subst, ◌∙◌, inl, inr, arith}
use Rattle.std.specs.Prelude.{◌⊎◌, ◌&&◌, Contains, filter}
use Rattle.std.specs.List.{AllByRecursion}
use Rattle.std.proofs.lemmas.Bool.{and_parts, eqb-true}
use Rattle.task_base.specs.Plan.{Plan}
use Rattle.task_base.specs.declared.entry.Entry.{Entry}
use Rattle.task_base.specs.declared.entry.Kind.{Kind}
use Rattle.task_base.specs.declared.entry.Kind.TheVariants as kinds
use Rattle.task_base.specs.declared.script.Action.{Action}
use Rattle.task_base.specs.declared.script.Action.TheVariants as actions
use Rattle.list_laws.specs.Lists.{count}
use Rattle.list_laws.proofs.Counts.{count-append}
use Rattle.list_laws.proofs.Made.{filter_contains}
use Rattle.list_laws.proofs.Elements.{AllByRecursion-append, AllByRecursion-back}
use Rattle.script_model.specs.Laws.Postings.{posts_of_action, times}
use Rattle.task_model.specs.Past.{fold_past}
use Rattle.task_model.specs.Posts.{Posted, post_behind, posts, posted_by, main_posts, main_posted_by}
use Rattle.task_model.proofs.Growth.{posts_push, main_posts_push}
use Rattle.hist_model.specs.Views.{own_entries}
use Rattle.hist_model.specs.Script.{wants}
use Rattle.hist_model.specs.Allowed.{by_script, may_come}
use Rattle.hist_model.specs.Legal.{IsLegal}
use Rattle.hist_model.specs.Laws.Agenda.{Agenda, completes, next_agenda, agenda_after}
use Rattle.hist_model.specs.Laws.Consistent.{is_pump, is_join}
use Rattle.pool_laws.specs.Runs.{posts_as, posted_as}
use Rattle.pool_laws.proofs.Seats.Runs.{posts_as_push}
use Rattle.hist_model.proofs.Laws.Postings.Driver.{actions_post, one_more}
use Rattle.hist_model.proofs.Laws.Legal.{is_legal_push, entry_induction, legal_induction}
use Rattle.hist_model.proofs.Laws.Postings.Counts.{of_task, one_post, accepted_of}
use Rattle.run_summary.proofs.Calm.{is_accepting, calm_logs}
use Rattle.run_summary.proofs.Tasks.Driver.{IsPlain, ArePlain, plan_of, plan_push, plan_begins, plain_left, next_plan, next_is}
use Rattle.run_summary.proofs.Tasks.Comes.{post_comes, main_comes, WantedAt, wanted_at, driver_does}
use Rattle.run_summary.proofs.Tasks.Adding.{AddsUp}

-- ---- what is accepted is one of the script's tasks

-- an accepted task is one of so many, of one of four runners or of the first main queue, and was posted without a delay
pub record IsPlainPost (main : Bool) (size : ℕ) (p : Posted) : Type 0 where
  pub task_is : p.task < size
  pub home_is : p.home < cond main 1 4
  pub delay_is : p.delay ≡ 0

-- the parts of a post that is wanted
same_post : (t h d task home delay : ℕ) → (eqb task t && eqb home h && eqb delay d) ≡ true → (task ≡ t) × (home ≡ h) × (delay ≡ d)
same_post t h d task home delay is =
    let last = and_parts (eqb task t && eqb home h) (eqb delay d) is in
    let first = and_parts (eqb task t) (eqb home h) last.0 in
    (eqb-true task t first.0, eqb-true home h first.1, eqb-true delay d last.1)

-- what a plain action wants is accepted as such a task
wanted_post : (main : Bool) (size : ℕ) (own past : List Entry) (x : Action) (rest : List Action) (made : List Entry) (kind : Kind) → IsPlain size x rest
    → wants own x made kind ≡ true → AllByRecursion (IsPlainPost main size) (posted_as main past kind)
wanted_post false size own past (actions.Post t r d) rest made (kinds.Post task runner delay true) plain h =
    let same = same_post t r d task runner delay h in
    (record { task_is = omega (arith, same.0, plain.0); home_is = omega (arith, same.1, plain.1); delay_is = same.2 ∙ plain.2 }, tt)
wanted_post true size own past (actions.Main t q d) rest made (kinds.Main task queue delay true) plain h =
    let same = same_post t q d task queue delay h in
    (record { task_is = omega (arith, same.0, plain.0); home_is = omega (arith, same.1, plain.1); delay_is = same.2 ∙ plain.2 }, tt)
wanted_post false size own past (actions.Post t r d) rest made (kinds.Post task runner delay false) plain h = tt
wanted_post true size own past (actions.Main t q d) rest made (kinds.Main task queue delay false) plain h = tt
wanted_post false size own past x rest made (kinds.Post task runner delay ok) plain h = absurd cc
wanted_post true size own past x rest made (kinds.Main task queue delay ok) plain h = absurd cc
wanted_post false size own past x rest made kind plain h = tt
wanted_post true size own past x rest made kind plain h = tt

-- the action that the driver is at is plain, and so are those behind it
pub plain_at : (script : Plan) (size : ℕ) (amount : ℕ → ℕ) (past : List Entry) (x : Action) (rest : List Action) (made : List Entry)
    → AddsUp script size amount → plan_of script past ≡ record { actions = x ∷ rest; made = made } → IsPlain size x rest × ArePlain size rest
plain_at script size amount past x rest made a is = subst (λ (p : Agenda). ArePlain size p.actions) is (plain_left script size a.plain past)

-- what comes by the script is accepted as one of its tasks
wanted_is_plain : (main : Bool) (script : Plan) (size : ℕ) (amount : ℕ → ℕ) (past : List Entry) (seat : ℕ) (kind : Kind) → AddsUp script size amount
    → by_script script past seat kind ≡ true → AllByRecursion (IsPlainPost main size) (posted_as main past kind)
wanted_is_plain main script size amount past seat kind a by =
    let w : WantedAt script past kind = (wanted_at script past seat kind a.calm.closed by).1 in
    wanted_post main size (own_entries 0 past) past w.action w.rest w.made kind
    (plain_at script size amount past w.action w.rest w.made a w.plan_is).0 w.wants_it

-- so is what may come
plain_posted : (main : Bool) (script : Plan) (size : ℕ) (amount : ℕ → ℕ) (past : List Entry) (seat : ℕ) (kind : Kind) → AddsUp script size amount
    → may_come script past seat kind ≡ true → AllByRecursion (IsPlainPost main size) (posted_as main past kind)
plain_posted false script size amount past seat (kinds.Post task runner delay ok) a may = wanted_is_plain false script size amount past seat
    (kinds.Post task runner delay ok) a (post_comes script past seat task runner delay ok a.calm may)
plain_posted true script size amount past seat (kinds.Main task queue delay ok) a may = wanted_is_plain true script size amount past seat
    (kinds.Main task queue delay ok) a (main_comes script past seat task queue delay ok a.calm may)
plain_posted false script size amount past seat kind a may = tt
plain_posted true script size amount past seat kind a may = tt

-- at first nothing is accepted
none_posted : (main : Bool) (size : ℕ) → AllByRecursion (IsPlainPost main size) (posts_as main [])
unfolding posts main_posts fold_past
none_posted false size = tt
none_posted true size = tt

-- each accepted task is one of the script's
pub plain_posts : (main : Bool) (script : Plan) (size : ℕ) (amount : ℕ → ℕ) → AddsUp script size amount → (past : List Entry) → IsLegal script past
    → AllByRecursion (IsPlainPost main size) (posts_as main past)
plain_posts main script size amount a = entry_induction script (λ past. AllByRecursion (IsPlainPost main size) (posts_as main past)) (none_posted main size)
    (λ past e known may before. subst (AllByRecursion (IsPlainPost main size)) (sym (posts_as_push main past e))
    (AllByRecursion-append (IsPlainPost main size) (posts_as main past) (posted_as main past e.kind) before
    (plain_posted main script size amount past e.seat e.kind a may)))

-- ---- each task is accepted once no post is left

-- those that an entry adds
abbrev accepted_by : ℕ → List Entry → Kind → ℕ
accepted_by t past kind = of_task t (posted_by past kind) + of_task t (main_posted_by past kind)

-- one more entry adds its own
accepted_push : (t : ℕ) (past : List Entry) (e : Entry) → accepted_of t (past ++ e ∷ []) ≡ accepted_of t past + accepted_by t past e.kind
accepted_push t past e = rw (posts_push past e, main_posts_push past e) (omega (
  arith,
  count-append (λ (p : Posted). eqb p.task t) (posts past) (posted_by past e.kind),
  count-append (λ (p : Posted). eqb p.task t) (main_posts past) (main_posted_by past e.kind),
))

-- what an action posts is accepted by the entry that it makes, where the entry is no refusal
posts_it : (t : ℕ) (own past : List Entry) (x : Action) (made : List Entry) (kind : Kind)
    → (wants own x made kind ≡ true) ⊎ ((is_pump x ≡ true) ⊎ (is_join x ≡ true)) → is_accepting kind ≡ true
    → times t (posts_of_action x) ≤ accepted_by t past kind
posts_it t own past (actions.Post u r d) made (kinds.Post task runner delay true) (inl h) accepts =
    omega (arith, one_post t (post_behind past task runner delay), ap (λ w. times t (w ∷ [])) (same_post u r d task runner delay h).0)
posts_it t own past (actions.Main u q d) made (kinds.Main task queue delay true) (inl h) accepts =
    omega (arith, one_post t (post_behind past task queue delay), ap (λ w. times t (w ∷ [])) (same_post u q d task queue delay h).0)
posts_it t own past (actions.Post u r d) made kind (inl h) accepts = absurd cc
posts_it t own past (actions.Main u q d) made kind (inl h) accepts = absurd cc
posts_it t own past (actions.Post u r d) made kind (inr (inl h)) accepts = absurd cc
posts_it t own past (actions.Main u q d) made kind (inr (inl h)) accepts = absurd cc
posts_it t own past (actions.Post u r d) made kind (inr (inr h)) accepts = absurd cc
posts_it t own past (actions.Main u q d) made kind (inr (inr h)) accepts = absurd cc
posts_it t own past x made kind how accepts = omega arith

-- what the script posts is left to be posted, or is accepted
abbrev AreAccepted : Plan → ℕ → List Entry → Type 0
AreAccepted script t past = actions_post t script.actions ≤ actions_post t (plan_of script past).actions + accepted_of t past

-- it stays so behind one more entry: a post that the driver completes is accepted
accepted_next : (script : Plan) (size : ℕ) (amount : ℕ → ℕ) (t : ℕ) → AddsUp script size amount → (past : List Entry) (e : Entry) → IsLegal script past
    → is_accepting e.kind ≡ true → may_come script past e.seat e.kind ≡ true → AreAccepted script t past → AreAccepted script t (past ++ e ∷ [])
accepted_next script size amount t a past e legal accepts may before =
    subst (λ (p : Agenda). actions_post t script.actions ≤ actions_post t p.actions + accepted_of t (past ++ e ∷ [])) (sym (plan_push script past e))
    (at (eqb e.seat 0) refl)
  where
    own : (xs : List Action) (made : List Entry) → e.seat ≡ 0 → plan_of script past ≡ record { actions = xs; made = made }
        → actions_post t xs ≤ actions_post t (next_agenda xs made e).actions + accepted_by t past e.kind
    own [] made driver is = omega arith
    own (x ∷ rest) made driver is = subst (λ (p : Agenda). actions_post t (x ∷ rest) ≤ actions_post t p.actions + accepted_by t past e.kind)
        (sym (next_is size x rest made e (plain_at script size amount past x rest made a is).1)) (by_completes (completes x made e.kind))
      where
        posts : times t (posts_of_action x) ≤ accepted_by t past e.kind
        posts = posts_it t (own_entries 0 past) past x made e.kind
            (driver_does script past e.kind x rest made a.calm legal (subst (λ seat. may_come script past seat e.kind ≡ true) driver may) is) accepts

        by_completes : (b : Bool) → actions_post t (x ∷ rest) ≤ actions_post t (next_plan b x rest made e).actions + accepted_by t past e.kind
        by_completes true = omega (arith, one_more t x rest, posts)
        by_completes false = omega arith

    at : (b : Bool) → eqb e.seat 0 ≡ b → actions_post t script.actions
        ≤ actions_post t (cond b (agenda_after (plan_of script past) e) (plan_of script past)).actions + accepted_of t (past ++ e ∷ [])
    at true driver = omega (arith, before, accepted_push t past e, own (plan_of script past).actions (plan_of script past).made (eqb-true e.seat 0 driver) refl)
    at false other = omega (arith, before, accepted_push t past e)

-- so it is behind every legal past
are_accepted : (script : Plan) (size : ℕ) (amount : ℕ → ℕ) (t : ℕ) → AddsUp script size amount → (past : List Entry) → IsLegal script past
    → AreAccepted script t past
are_accepted script size amount t a = legal_induction script (AreAccepted script t)
    (subst (λ (p : Agenda). actions_post t script.actions ≤ actions_post t p.actions + accepted_of t []) (sym (plan_begins script size a.plain)) (omega arith))
    (λ past e legal allowed before.
    let longer : IsLegal script (past ++ e ∷ []) = is_legal_push script past e ∙ rw (legal, allowed) refl in
    let accepts : is_accepting e.kind ≡ true = (AllByRecursion-back (λ (x : Entry). is_accepting x.kind ≡ true) past (e ∷ [])
    (calm_logs script a.calm (past ++ e ∷ []) longer).accepted).0 in
    accepted_next script size amount t a past e legal accepts (and_parts (leb e.seat script.workers) (may_come script past e.seat e.kind) allowed).1 before)

-- where the actions that are left post nothing of a task, it is accepted
pub is_accepted : (script : Plan) (size : ℕ) (amount : ℕ → ℕ) (t : ℕ) → AddsUp script size amount → (past : List Entry) → IsLegal script past
    → t < size → actions_post t (plan_of script past).actions ≡ 0 → 1 ≤ accepted_of t past
is_accepted script size amount t a past legal below none =
    omega (arith, are_accepted script size amount t a past legal, a.posts_each t below)

-- what is counted is there
counted_one : {A : Type 0} (test : A → Bool) (xs : List A) → 1 ≤ count test xs → (x : A) × Contains xs x × (test x ≡ true)
counted_one test xs h = at (filter test xs) refl h
  where
    at : (ys : List _) → filter test xs ≡ ys → 1 ≤ length ys → (x : _) × Contains xs x × (test x ≡ true)
    at [] is none = absurd (omega (arith, none))
    at (y ∷ ys) is some =
        let there = filter_contains test xs y (subst (λ l. Contains l y) (sym is) (0, omega arith, refl)) in
        (y, there.0, there.1)

-- one of the posts is of the task
abbrev pub HasPost : List Posted → ℕ → Type 0
HasPost ps t = (p : Posted) × Contains ps p × (p.task ≡ t)

-- an accepted task has its accepted post, on the pool or on the main queue
pub accepted_post : (t : ℕ) (past : List Entry) → 1 ≤ accepted_of t past → HasPost (posts past) t ⊎ HasPost (main_posts past) t
accepted_post t past some = at (of_task t (posts past)) refl
  where
    of : (ps : List Posted) → 1 ≤ of_task t ps → HasPost ps t
    of ps h = let (p, among, is) = counted_one (λ (q : Posted). eqb q.task t) ps h in (p, among, eqb-true p.task t is)

    at : (n : ℕ) → of_task t (posts past) ≡ n → HasPost (posts past) t ⊎ HasPost (main_posts past) t
    at zero is = inr (of (main_posts past) (omega (arith, some, is)))
    at (suc n) is = inl (of (posts past) (omega (arith, is)))
