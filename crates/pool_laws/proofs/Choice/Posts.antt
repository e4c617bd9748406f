-- What the key of an accepted task names: the place of its post, at which that task stands.
-- Cited by `Choice/Sources`.
use Rattle.std.proofs.Common.{◌≡◌, ℕ, Bool, true, false, cond, List, [], ◌∷◌, ◌++◌, length, refl, ap, ◌∙◌, Option, Some, None, ◌<◌, arith}
use Rattle.std.specs.Prelude.{◌&&◌, slice_get, option_and_then, Contains, take}
use Rattle.std.specs.Option.{option_map, IfSome}
use Rattle.std.specs.List.{AllByRecursion}
use Rattle.std.proofs.lemmas.Bool.{and_parts}
use Rattle.std.proofs.lemmas.Option.{none-some, slice_get_within}
use Rattle.std.proofs.lemmas.List.Elements.{All-contains, All-from_recursion}
use Rattle.task_base.specs.Plan.{Plan}
use Rattle.task_base.specs.declared.entry.Entry.{Entry}
use Rattle.task_base.specs.declared.entry.Kind.{Kind}
use Rattle.task_base.specs.declared.entry.Kind.TheVariants.{Post}
use Rattle.task_model.specs.Past.{fold_past}
use Rattle.task_model.specs.Time.{tick_from}
use Rattle.task_model.specs.Posts.{Posted, is_delayed, post_behind, posted_by, posts}
use Rattle.task_model.specs.Keys.{Ready, key_at, key_of, ready}
use Rattle.task_model.specs.Sequences.{is_of, may_start, eligible}
use Rattle.pool_laws.specs.Choice.{post_by, post_at}
use Rattle.list_laws.proofs.Elements.{AllByRecursion-append, AllByRecursion-map, AllByRecursion-filter_map, slice_get-end, push_induction}
use Rattle.list_laws.proofs.Made.{filter_contains}
use Rattle.list_laws.proofs.Places.{slice_get-more}
use Rattle.task_model.proofs.Growth.{posts_push}
use Rattle.std.proofs.lemmas.List.{take-append-le}
use Rattle.std.proofs.Math.Seq.{take-append_seam}

no_posts : posts [] ≡ []
unfolding posts fold_past
no_posts = refl

-- what holds of each accepted task from its post on
pub AllByRecursion-posts : (P : List Entry → Posted → Type 0) → ((past : List Entry) (e : Entry) (p : Posted) → P past p → P (past ++ e ∷ []) p)
    → ((past : List Entry) (e : Entry) (task runner delay : ℕ) → e.kind ≡ Post task runner delay true
    → P (past ++ e ∷ []) (post_behind past task runner delay)) → (past : List Entry) → AllByRecursion (P past) (posts past)
AllByRecursion-posts P more new = push_induction (λ past. AllByRecursion (P past) (posts past)) (rw no_posts tt)
    (λ past e all. rw (posts_push past e) (AllByRecursion-append (P (past ++ e ∷ [])) (posts past) (posted_by past e.kind)
    (AllByRecursion-map (P past) (P (past ++ e ∷ [])) (posts past) (λ p h. more past e p h) all) (added past e e.kind refl)))
  where
    added : (past : List Entry) (e : Entry) (kind : Kind) → e.kind ≡ kind → AllByRecursion (P (past ++ e ∷ [])) (posted_by past kind)
    added past e (Post task runner delay true) is = (new past e task runner delay is, tt)
    added past e kind is = tt

-- The accepted task of a place.

post_more : (past : List Entry) (e : Entry) (place : ℕ) (p : Posted) → post_at past place ≡ Some p → post_at (past ++ e ∷ []) place ≡ Some p
post_more past e place p h = by_entry (slice_get past place) refl h
  where
    by_entry : (o : Option Entry) → slice_get past place ≡ o → option_and_then (λ x. post_by (take place past) x.kind) o ≡ Some p
        → post_at (past ++ e ∷ []) place ≡ Some p
    by_entry None is none = absurd (none-some p none)
    by_entry (Some y) is some =
        let less : place < length past = slice_get_within past place y is in
        rw (slice_get-more past (e ∷ []) place y is, take-append-le place past (e ∷ []) (omega arith)) some

post_here : (past : List Entry) (e : Entry) → post_at (past ++ e ∷ []) (length past) ≡ post_by past e.kind
post_here past e = rw (slice_get-end past e, take-append_seam past (e ∷ [])) refl

posts_at : (past : List Entry) → AllByRecursion (λ p. post_at past p.place ≡ Some p) (posts past)
posts_at past = AllByRecursion-posts (λ before p. post_at before p.place ≡ Some p)
    (λ before e p h. post_more before e p.place p h)
    (λ before e task runner delay is. post_here before e ∙ ap (post_by before) is)
    past

abbrev placed : List Entry → Ready → Type 0
placed past r = post_at past r.key.post ≡ Some r.posted

ready_at : (past : List Entry) → AllByRecursion (placed past) (ready past)
unfolding ready
ready_at past =
    AllByRecursion-filter_map (placed past) (λ p. option_map (λ key. record { posted = p; key = key }) (key_of past p)) (posts past)
    (AllByRecursion-map (λ p. post_at past p.place ≡ Some p) (λ p. IfSome (option_map (λ key. record { posted = p; key = key }) (key_of past p)) (placed past))
    (posts past) (λ p h. made p h (is_delayed p) (tick_from past p.ripe)) (posts_at past))
  where
    made : (p : Posted) → post_at past p.place ≡ Some p → (b : Bool) (o : Option ℕ)
        → IfSome (option_map (λ key. record { posted = p; key = key })
        (cond b (option_map (λ place. record { place = place; ripe = p.ripe; post = p.place }) o) (Some (key_at p.place)))) (placed past)
    made p h false o = h
    made p h true None = tt
    made p h true (Some n) = h

-- the key of an eligible task of a sequence names the post of that task, which is of the sequence
pub eligible_names_post : (script : Plan) (past : List Entry) (s : ℕ) (r : Ready) → Contains (eligible script past s) r
    → (post_at past r.key.post ≡ Some r.posted) × (is_of script s r.posted ≡ true)
unfolding eligible
eligible_names_post script past s r is =
    let parts : Contains (ready past) r × ((is_of script s r.posted && may_start script past r.posted) ≡ true) =
    filter_contains (λ x. is_of script s x.posted && may_start script past x.posted) (ready past) r is in (
      All-contains (placed past) (ready past) r (All-from_recursion (placed past) (ready past) (ready_at past)) parts.0,
      (and_parts (is_of script s r.posted) (may_start script past r.posted) parts.1).0,
    )
