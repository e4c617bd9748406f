-- The postings that the driver's actions have left.
-- Cited by `Laws/Entries/Bound`, `Laws/Postings/Counts`, `Laws/Postings/Tasks`, `run_summary`, `task_reply`.
use Rattle.std.proofs.Common.{◌≡◌, ℕ, ◌+◌, ◌≤◌, Bool, true, false, cond, eqb, List, [], ◌∷◌, ◌++◌, refl, sym}
use Rattle.std.proofs.Common.{ap, ◌∙◌, Option, Some, None, arith, append-nil, ◌⊎◌, inl, inr, ⊎_elim}
use Rattle.std.specs.Prelude.{flat_map}
use Rattle.std.specs.Option.{option_map_or}
use Rattle.std.proofs.lemmas.List.Elements.{filter-append}
use Rattle.std.proofs.lemmas.Bool.{eqb-true, and_parts}
use Rattle.task_base.specs.Plan.{Plan}
use Rattle.task_base.specs.declared.entry.Entry.{Entry}
use Rattle.task_base.specs.declared.entry.Kind.{Kind}
use Rattle.task_base.specs.declared.entry.Kind.TheVariants as kinds
use Rattle.task_base.specs.declared.script.Action.{Action}
use Rattle.task_base.specs.declared.script.Action.TheVariants as actions
use Rattle.list_laws.specs.Lists.{holds_of}
use Rattle.list_laws.proofs.Counts.{count-append}
use Rattle.hist_model.specs.Views.{own_entries}
use Rattle.hist_model.specs.Open.{IsClosed}
use Rattle.hist_model.specs.Script.{behind_action, wants, is_wanted}
use Rattle.hist_model.specs.Laws.Agenda.{agenda_from, agenda, first_of, completes, next_agenda}
use Rattle.hist_model.specs.Allowed.{by_script}
use Rattle.hist_model.specs.Laws.Postings.{kind_posts}
use Rattle.script_model.specs.Laws.Postings.{posts_of_action, times}
use Rattle.hist_model.proofs.Laws.Open.{closed_wanted}
use Rattle.hist_model.proofs.Laws.Agenda.{current_is_first, agenda_push}

pub times-append : (t : ℕ) (xs ys : List ℕ) → times t (xs ++ ys) ≡ times t xs + times t ys
times-append t xs ys = count-append (λ u. eqb u t) xs ys

-- how often actions post a task
abbrev pub actions_post : ℕ → List Action → ℕ
actions_post t xs = times t (flat_map posts_of_action xs)

-- an action posts before those behind it
pub one_more : (t : ℕ) (x : Action) (xs : List Action) → actions_post t (x ∷ xs) ≡ times t (posts_of_action x) + actions_post t xs
one_more t x xs = times-append t (posts_of_action x) (flat_map posts_of_action xs)

agenda_from_within : (t : ℕ) (xs : List Action) (own : List Entry) → actions_post t (agenda_from xs own).actions ≤ actions_post t xs
agenda_from_within t [] own = omega arith
agenda_from_within t (x ∷ xs) own = at (behind_action x own) (agenda_from_within t xs)
  where
    at : (o : Option (List Entry)) → ((left : List Entry) → actions_post t (agenda_from xs left).actions ≤ actions_post t xs)
        → actions_post t (option_map_or (λ left. agenda_from xs left) o (record { actions = x ∷ xs; made = own })).actions ≤ actions_post t (x ∷ xs)
    at None next = omega arith
    at (Some left) next = omega (arith, next left, one_more t x xs)

next_agenda_within : (t : ℕ) (xs : List Action) (made : List Entry) (e : Entry) → actions_post t (next_agenda xs made e).actions ≤ actions_post t xs
next_agenda_within t [] made e = omega arith
next_agenda_within t (x ∷ xs) made e = at (completes x made e.kind)
  where
    at : (b : Bool) → actions_post t (cond b (agenda_from xs []) (record { actions = x ∷ xs; made = made ++ e ∷ [] })).actions ≤ actions_post t (x ∷ xs)
    at true = omega (arith, agenda_from_within t xs [], one_more t x xs)
    at false = omega arith

-- an entry that an action wants posts nothing, or completes the action and posts what it posts
wanted : (t : ℕ) (own : List Entry) (x : Action) (made : List Entry) (kind : Kind) → wants own x made kind ≡ true
    → (times t (kind_posts kind) ≡ 0) ⊎ ((completes x made kind ≡ true) × (times t (kind_posts kind) ≤ times t (posts_of_action x)))
wanted t own (actions.Post u r d) made (kinds.Post task runner delay ok) h =
    inr (refl, rw (eqb-true task u (and_parts (eqb task u) (eqb runner r) (and_parts _ (eqb delay d) h).0).0) (omega arith))
wanted t own (actions.Main u q d) made (kinds.Main task queue delay ok) h =
    inr (refl, rw (eqb-true task u (and_parts (eqb task u) (eqb queue q) (and_parts _ (eqb delay d) h).0).0) (omega arith))
wanted t own x made (kinds.Post task runner delay ok) h = absurd cc
wanted t own x made (kinds.Main task queue delay ok) h = absurd cc
wanted t own x made kind h = inl refl

wanted_next : (t : ℕ) (own : List Entry) (xs : List Action) (made : List Entry) (e : Entry)
    → holds_of (λ c. wants own c.action c.made e.kind) (first_of xs made) ≡ true
    → actions_post t (next_agenda xs made e).actions + times t (kind_posts e.kind) ≤ actions_post t xs
wanted_next t own [] made e h = absurd cc
wanted_next t own (x ∷ xs) made e h = ⊎_elim (λ none. omega (arith, none, next_agenda_within t (x ∷ xs) made e))
    (λ k. rw k.0 (omega (arith, k.1, one_more t x xs, agenda_from_within t xs []))) (wanted t own x made e.kind h)

-- how often the actions that the driver has left post a task
abbrev pub driver_has : Plan → ℕ → List Entry → ℕ
driver_has script t past = actions_post t (agenda script (own_entries 0 past)).actions

-- the driver's own entries, by one more entry
own_push : (past : List Entry) (e : Entry) → own_entries 0 (past ++ e ∷ []) ≡ own_entries 0 past ++ cond (eqb e.seat 0) (e ∷ []) []
own_push past e = filter-append (λ x. eqb x.seat 0) past (e ∷ [])

pub driver_has_less : (script : Plan) (t : ℕ) (past : List Entry) (e : Entry) → driver_has script t (past ++ e ∷ []) ≤ driver_has script t past
driver_has_less script t past e = rw (own_push past e) (at (eqb e.seat 0))
  where
    own : List Entry
    own = own_entries 0 past

    at : (b : Bool) → actions_post t (agenda script (own ++ cond b (e ∷ []) [])).actions ≤ actions_post t (agenda script own).actions
    at true = rw (agenda_push script own e) (next_agenda_within t (agenda script own).actions (agenda script own).made e)
    at false = rw (append-nil own) (omega arith)

pub driver_begins : (script : Plan) (t : ℕ) → driver_has script t [] ≤ actions_post t script.actions
unfolding agenda
driver_begins script t = agenda_from_within t script.actions []

-- an entry that a closed plan wants next is its posting that goes
script_wants : (script : Plan) (own : List Entry) (kind : Kind) → IsClosed script → is_wanted script own kind ≡ true
    → holds_of (λ c. wants own c.action c.made kind) (first_of (agenda script own).actions (agenda script own).made) ≡ true
script_wants script own kind closed h =
    ap (holds_of (λ c. wants own c.action c.made kind)) (sym (current_is_first script own)) ∙ (sym (closed_wanted script own kind closed) ∙ h)

posts_of_wanted : (script : Plan) (t : ℕ) (own : List Entry) (e : Entry) → IsClosed script → is_wanted script own e.kind ≡ true
    → actions_post t (agenda script (own ++ e ∷ [])).actions + times t (kind_posts e.kind) ≤ actions_post t (agenda script own).actions
posts_of_wanted script t own e closed h = rw (agenda_push script own e)
    (wanted_next t own (agenda script own).actions (agenda script own).made e (script_wants script own e.kind closed h))

pub driver_posts : (script : Plan) (t : ℕ) (past : List Entry) (e : Entry) → IsClosed script → by_script script past e.seat e.kind ≡ true
    → driver_has script t (past ++ e ∷ []) + times t (kind_posts e.kind) ≤ driver_has script t past
unfolding by_script
driver_posts script t past e closed h = rw (own_push past e, (and_parts (eqb e.seat 0) (is_wanted script (own_entries 0 past) e.kind) h).0)
    (posts_of_wanted script t (own_entries 0 past) e closed (and_parts (eqb e.seat 0) (is_wanted script (own_entries 0 past) e.kind) h).1)
