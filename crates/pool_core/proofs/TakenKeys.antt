-- A task that was taken has a key, as the past grows.
-- Cited by `LineGrowth`, `Lines`, `Pasts`.
use Rattle.list_laws.proofs.Finds.{find_contains}
use Rattle.list_laws.proofs.Elements.{AllByRecursion-contains, AllByRecursion-contains_itself, AllByRecursion-through}
use Rattle.list_laws.proofs.Values.{some-injective}
use Rattle.list_laws.specs.Sorts.{SameMembers}
use Rattle.pool_core.specs.Calls.{after_post}
use Rattle.pool_core.specs.Pasts.{TakenHaveKeys}
use Rattle.pool_laws.proofs.Keys.Arrivals.{head_is_first_arrival}
use Rattle.pool_laws.proofs.Keys.Posts.{posts_same}
use Rattle.pool_laws.proofs.Keys.Ready.{AllByRecursion-filter_map, key_of_stays}
use Rattle.pool_laws.specs.Keys.{moves_posts, arrivals}
use Rattle.std.proofs.Common.{List, None, Option, Some, [], ap, false, inl, inr, refl, subst, sym, true, true≢false, ℕ, ◌++◌, ◌∙◌, ◌∷◌, ◌≡◌}
use Rattle.std.proofs.lemmas.Bool.{eqb-true, or_cases}
use Rattle.std.proofs.lemmas.List.Elements.{Contains-push_cases}
use Rattle.std.proofs.lemmas.Option.{none-some}
use Rattle.std.specs.List.{AllByRecursion}
use Rattle.std.specs.Option.{option_map}
use Rattle.std.specs.Prelude.{Contains, is_some, ◌&&◌, ◌==◌, ◌⊎◌}
use Rattle.task_base.specs.Plan.{Plan}
use Rattle.task_base.specs.declared.entry.Entry.{Entry}
use Rattle.task_base.specs.declared.source.Key.{Key}
use Rattle.task_model.proofs.Growth.{is_taken_push, posts_push}
use Rattle.task_model.specs.Keys.{Ready, key_of, ready}
use Rattle.task_model.specs.Posts.{Posted, is_taken, post_behind, posts, takes}
use Rattle.pool_laws.specs.Posts.{post_of}
use Rattle.task_model.specs.Sequences.{head_of, is_of, may_start}
use Rattle.task_base.specs.declared.entry.Kind.TheVariants as kinds
use Rattle.task_base.specs.Entries.{next}

-- it was accepted, and its key is the one that it has in the past
abbrev pub HasKey : List Entry → Ready → Type 0
HasKey past r = Contains (posts past) r.posted × (key_of past r.posted ≡ Some r.key)

-- each task that has a key was accepted
pub ready_posted : (past : List Entry) → AllByRecursion (HasKey past) (ready past)
unfolding ready
ready_posted past = AllByRecursion-filter_map (Contains (posts past)) (HasKey past)
    (λ p. option_map (λ key. record { posted = p; key = key }) (key_of past p)) (posts past)
    (λ p r among made. by_posted p r among (key_of past p) refl made) (AllByRecursion-contains_itself (posts past))
  where
    by_posted : (p : Posted) (r : Ready) → Contains (posts past) p → (o : Option Key) → key_of past p ≡ o
        → option_map (λ key. record { posted = p; key = key }) o ≡ Some r → HasKey past r
    by_posted p r among None is made = absurd (none-some r made)
    by_posted p r among (Some key) is made = subst (HasKey past) (some-injective made) (among, is)

pub arrivals_posted : (past : List Entry) → SameMembers (arrivals past) (ready past)
    → AllByRecursion (HasKey past) (arrivals past)
arrivals_posted past same = AllByRecursion-through (HasKey past) (arrivals past) (ready past)
    same.forth (ready_posted past)

-- the key of a head is its key in the past
pub head_key : (script : Plan) (past : List Entry) (s : ℕ) (head : Ready) → SameMembers (arrivals past) (ready past) → head_of script past s ≡ Some head
    → HasKey past head
head_key script past s head same is_head = AllByRecursion-contains (HasKey past) (arrivals past) head (arrivals_posted past same)
    (find_contains (λ r. is_of script s r.posted && may_start script past r.posted) (arrivals past) head
    (sym (head_is_first_arrival script past s same) ∙ is_head))

pub keys_at_start : TakenHaveKeys []
unfolding is_taken
keys_at_start p among taken = absurd (true≢false (sym taken))

-- a key stays
some_key_stays : (past : List Entry) (e : Entry) (p : Posted) → is_some (key_of past p) ≡ true → is_some (key_of (past ++ e ∷ []) p) ≡ true
some_key_stays past e p some = by_key (key_of past p) refl some
  where
    by_key : (o : Option Key) → key_of past p ≡ o → is_some o ≡ true → is_some (key_of (past ++ e ∷ []) p) ≡ true
    by_key None is h = absurd (true≢false (sym h))
    by_key (Some key) is h = ap is_some (key_of_stays past (e ∷ []) p key is)

-- what is taken behind an entry was taken before it, or at it
taken_cases : (past : List Entry) (e : Entry) (t : ℕ) → is_taken (past ++ e ∷ []) t ≡ true → (is_taken past t ≡ true) ⊎ (takes t e.kind ≡ true)
taken_cases past e t taken = or_cases (is_taken past t) (takes t e.kind) (sym (is_taken_push past e t) ∙ taken)

-- an entry that neither posts to the pool nor takes
pub keys_kept : (past : List Entry) (e : Entry) → moves_posts e.kind ≡ false → ((t : ℕ) → takes t e.kind ≡ false) → TakenHaveKeys past
    → TakenHaveKeys (past ++ e ∷ [])
keys_kept past e still none have p among taken = by_taken (taken_cases past e p.task taken)
  where
    by_taken : (is_taken past p.task ≡ true) ⊎ (takes p.task e.kind ≡ true) → is_some (key_of (past ++ e ∷ []) p) ≡ true
    by_taken (inl before) = some_key_stays past e p (have p (subst (λ ps. Contains ps p) (posts_same past e still) among) before)
    by_taken (inr now) = absurd (true≢false (sym now ∙ none p.task))

-- an accepted post of a task that was not taken
pub keys_at_post : (past : List Entry) (seat task runner delay : ℕ) → is_taken past task ≡ false → TakenHaveKeys past
    → TakenHaveKeys (after_post past seat task runner delay true)
keys_at_post past seat task runner delay untaken have p among taken =
    by_side (Contains-push_cases (posts past) (post_behind past task runner delay) p (subst (λ ps. Contains ps p) (posts_push past e) among))
    (taken_cases past e p.task taken)
  where
    e : Entry
    e = record { seat = seat; kind = kinds.Post task runner delay true }

    by_side : Contains (posts past) p ⊎ (post_behind past task runner delay ≡ p) → (is_taken past p.task ≡ true) ⊎ (false ≡ true)
        → is_some (key_of (past ++ e ∷ []) p) ≡ true
    by_side (inl old) (inl before) = some_key_stays past e p (have p old before)
    by_side (inr new) (inl before) = absurd (true≢false (sym before ∙ ap (λ q. is_taken past q.task) (sym new) ∙ untaken))
    by_side either (inr now) = absurd (true≢false (sym now))

-- a take of a head, where each task was posted once
pub keys_at_take : (script : Plan) (past : List Entry) (seat s found : ℕ) (head : Ready) → SameMembers (arrivals past) (ready past)
    → ((p : Posted) → Contains (posts past) p → post_of past p.task ≡ Some p) → head_of script past s ≡ Some head → TakenHaveKeys past
    → TakenHaveKeys (next past seat (kinds.Take head.posted.task head.posted.home found))
keys_at_take script past seat s found head same one is_head have p among taken =
    some_key_stays past e p (by_taken (taken_cases past e p.task taken))
  where
    e : Entry
    e = record { seat = seat; kind = kinds.Take head.posted.task head.posted.home found }

    old : Contains (posts past) p
    old = subst (λ ps. Contains ps p) (posts_same past e refl) among

    key : HasKey past head
    key = head_key script past s head same is_head

    by_taken : (is_taken past p.task ≡ true) ⊎ ((head.posted.task == p.task) ≡ true) → is_some (key_of past p) ≡ true
    by_taken (inl before) = have p old before
    by_taken (inr now) =
        let is : head.posted ≡ p = some-injective (sym (one head.posted key.0) ∙ ap (post_of past) (eqb-true head.posted.task p.task now) ∙ one p old) in
        ap (λ q. is_some (key_of past q)) (sym is) ∙ ap is_some key.1
