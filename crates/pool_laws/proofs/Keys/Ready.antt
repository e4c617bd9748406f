-- What one more entry does to the moments, the keys, and the tasks that have keys.
--
-- The first tick at or past a moment stays the first; where there was none, it is the new entry, if that is such a tick.
-- So a task that has a key keeps it, and a delayed task gets its key at the first tick at or past its ripe moment. Each
-- key has its place in the past.
--
-- An accepted immediate post adds its task at the end of those that have keys; a delayed post adds none, as long as no
-- tick has come to its ripe moment; at a tick the tasks keep their keys, and those get one that are ripe by then; no other
-- kind changes them.
--
-- As long as the moments of the ticks never fall, no tick has come to a moment ahead. So a delayed task has no key at
-- its post.
-- Cited by `Keys/Arrivals`, `Keys/Posts`, `Keys/Sequences`, `hist_model`, `pool_core`, `queue_laws`, `sequence_manager`, `situation`.
use Rattle.std.proofs.Common.{◌≡◌, ℕ, suc, ◌+◌, ◌<◌, ◌≤◌, subst, Bool, true, false, cond, List, [], ◌∷◌, ◌++◌, length, refl, ap, ◌∙◌, Option, Some, None, arith}
use Rattle.std.specs.Option.{option_map, option_or}
use Rattle.std.specs.Prelude.{nat_lt}
use Rattle.std.specs.List.{filter_map, cons_option, AllByRecursion}
use Rattle.std.proofs.lemmas.Option.{none-some}
use Rattle.std.proofs.lemmas.Bool.{ltb-true, lt-ltb, lt-leb}
use Rattle.std.proofs.Math.Nat.{zero-add}
use Rattle.std.proofs.lemmas.List.{append-nil, length-append}
use Rattle.std.proofs.lemmas.List.Elements.{filter_map-append}
use Rattle.task_base.specs.declared.entry.Entry.{Entry}
use Rattle.task_base.specs.declared.entry.Kind.{Kind}
use Rattle.task_base.specs.declared.entry.Kind.TheVariants.{Post, Main, Tick}
use Rattle.task_base.specs.declared.source.Key.{Key}
use Rattle.task_model.specs.Time.{now_of, now_after, is_tick_from, tick_from}
use Rattle.task_model.specs.Past.{fold_past, fold_past_from}
use Rattle.task_model.specs.Posts.{Posted, is_delayed, posted_by, posts, main_posted_by, main_posts}
use Rattle.task_model.specs.Keys.{Ready, key_at, key_of, ready}
use Rattle.pool_laws.specs.Keys.{ready_behind, tick_by, key_by, moves_ready, NoTickAhead, ready_at_tick_of, ready_parts}
use Rattle.task_model.proofs.Growth.{now_of_push, posts_push}
use Rattle.list_laws.proofs.Options.{option_or-none, option_map-or, position-append, position-within}
use Rattle.list_laws.proofs.Values.{some-injective}
use Rattle.list_laws.proofs.Filters.{filter_map_congr}
use Rattle.list_laws.proofs.Elements.{AllByRecursion-map, AllByRecursion-append}
use Rattle.pool_laws.proofs.Moves.{no_posted, no_tick}

pub tick_from_push : (past : List Entry) (e : Entry) (moment : ℕ)
    → tick_from (past ++ e ∷ []) moment ≡ option_or (tick_from past moment) (tick_by past moment e.kind)
unfolding tick_from
tick_from_push past e moment = rw (position-append (λ x. is_tick_from moment x.kind) 0 past (e ∷ []), zero-add (length past)) refl

pub tick_from_stays : (past rest : List Entry) (moment place : ℕ) → tick_from past moment ≡ Some place → tick_from (past ++ rest) moment ≡ Some place
unfolding tick_from
tick_from_stays past rest moment place is = rw (position-append (λ x. is_tick_from moment x.kind) 0 past rest, is) refl

-- the key of a delayed task at a tick
abbrev pub ticked : Posted → ℕ → Key
ticked p place = record { place = place; ripe = p.ripe; post = p.place }

pub key_of_push : (past : List Entry) (e : Entry) (p : Posted) → key_of (past ++ e ∷ []) p ≡ option_or (key_of past p) (key_by past p e.kind)
key_of_push past e p = by_delayed (is_delayed p)
  where
    by_delayed : (b : Bool) → cond b (option_map (ticked p) (tick_from (past ++ e ∷ []) p.ripe)) (Some (key_at p.place))
        ≡ option_or (cond b (option_map (ticked p) (tick_from past p.ripe)) (Some (key_at p.place)))
        (cond b (option_map (ticked p) (tick_by past p.ripe e.kind)) None)
    by_delayed true = rw (tick_from_push past e p.ripe) (option_map-or (ticked p) (tick_from past p.ripe) (tick_by past p.ripe e.kind))
    by_delayed false = refl

pub key_of_stays : (past rest : List Entry) (p : Posted) (key : Key) → key_of past p ≡ Some key → key_of (past ++ rest) p ≡ Some key
key_of_stays past rest p key is = by_delayed (is_delayed p) is
  where
    kept : (o : Option ℕ) → ((place : ℕ) → o ≡ Some place → tick_from (past ++ rest) p.ripe ≡ Some place) → option_map (ticked p) o ≡ Some key
        → option_map (ticked p) (tick_from (past ++ rest) p.ripe) ≡ Some key
    kept None f none = absurd (none-some key none)
    kept (Some place) f some = rw (f place refl) some

    by_delayed : (b : Bool) → cond b (option_map (ticked p) (tick_from past p.ripe)) (Some (key_at p.place)) ≡ Some key
        → cond b (option_map (ticked p) (tick_from (past ++ rest) p.ripe)) (Some (key_at p.place)) ≡ Some key
    by_delayed true h = kept (tick_from past p.ripe) (λ place some. tick_from_stays past rest p.ripe place some) h
    by_delayed false h = h

-- an accepted task with its key, if it has one
abbrev pub with_key : (Posted → Option Key) → Posted → Option Ready
with_key key p = option_map (λ k. record { posted = p; key = k }) (key p)

-- the key of an accepted task behind an entry of the kind
abbrev pub later_key : List Entry → Kind → Posted → Option Key
later_key past kind p = option_or (key_of past p) (key_by past p kind)

-- what one more entry does to the tasks that have keys, all kinds at once
grown : (past : List Entry) (e : Entry) (kind : Kind) → e.kind ≡ kind
    → ready (past ++ e ∷ []) ≡ filter_map (with_key (later_key past kind)) (posts past) ++ filter_map (with_key (key_of (past ++ e ∷ []))) (posted_by past kind)
unfolding ready
grown past e kind is =
    ap (filter_map (with_key (key_of (past ++ e ∷ [])))) grows
    ∙ filter_map-append _ (posts past) _
    ∙ rw (filter_map_congr _ _ _ same) refl
  where
    grows : posts (past ++ e ∷ []) ≡ posts past ++ posted_by past kind
    grows = rw (posts_push past e, is) refl

    later : (p : Posted) → key_of (past ++ e ∷ []) p ≡ later_key past kind p
    later p = key_of_push past e p ∙ rw is refl

    same : (p : Posted) → with_key (key_of (past ++ e ∷ [])) p ≡ with_key (later_key past kind) p
    same p = rw (later p) refl

-- an entry that is no tick leaves the tasks that had keys
added : (past : List Entry) (e : Entry) (kind : Kind) → e.kind ≡ kind → ((moment : ℕ) → is_tick_from moment kind ≡ false)
    → ready (past ++ e ∷ []) ≡ ready past ++ filter_map (with_key (key_of (past ++ e ∷ []))) (posted_by past kind)
unfolding ready
added past e kind is no_tick = grown past e kind is
    ∙ rw (filter_map_congr (with_key (later_key past kind)) (with_key (key_of past)) _ (λ p. rw (same p) refl)) refl
  where
    no_key : Option Key
    no_key = None

    by_posted : (p : Posted) (b : Bool) → cond b (option_map (ticked p) (tick_by past p.ripe kind)) no_key ≡ no_key
    by_posted p true = rw (no_tick p.ripe) refl
    by_posted p false = refl

    same : (p : Posted) → later_key past kind p ≡ key_of past p
    same p = rw (by_posted p (is_delayed p)) (option_or-none (key_of past p))

pub ready_same : (past : List Entry) (e : Entry) → moves_ready e.kind ≡ false → ready (past ++ e ∷ []) ≡ ready past
ready_same past e quiet = added past e e.kind refl (no_tick ready_parts e.kind refl quiet)
    ∙ rw (no_posted ready_parts past e.kind refl quiet) (append-nil _)

pub ready_at_post : (past : List Entry) (e : Entry) (task runner delay : ℕ) → e.kind ≡ Post task runner delay true → nat_lt 0 delay ≡ false
    → ready (past ++ e ∷ []) ≡ ready past ++ ready_behind past task runner delay ∷ []
ready_at_post past e task runner delay is immediate = added past e (Post task runner delay true) is (λ moment. refl) ∙ rw immediate refl

pub ready_at_delayed_post : (past : List Entry) (e : Entry) (task runner delay : ℕ) → e.kind ≡ Post task runner delay true → nat_lt 0 delay ≡ true
    → tick_from past (now_of past + delay) ≡ None → ready (past ++ e ∷ []) ≡ ready past
ready_at_delayed_post past e task runner delay is delayed unripe =
    added past e (Post task runner delay true) is (λ moment. refl) ∙ rw (delayed, still) (append-nil _)
  where
    still : tick_from (past ++ e ∷ []) (now_of past + delay) ≡ None
    still = rw (tick_from_push past e (now_of past + delay), unripe, is) refl

pub ready_at_tick : (past : List Entry) (e : Entry) (moment : ℕ) → e.kind ≡ Tick moment → ready (past ++ e ∷ []) ≡ ready_at_tick_of past moment
ready_at_tick past e moment is = grown past e (Tick moment) is ∙ append-nil _

-- what holds of each element of a list holds of what is made of them
pub AllByRecursion-filter_map : {A B : Type 0} (P : A → Type 0) (Q : B → Type 0) (f : A → Option B) (xs : List A)
    → ((x : A) (y : B) → P x → f x ≡ Some y → Q y) → AllByRecursion P xs → AllByRecursion Q (filter_map f xs)
AllByRecursion-filter_map P Q f [] h all = tt
AllByRecursion-filter_map {B = B} P Q f (x ∷ xs) h all = made (f x) (λ y is. h x y all.0 is) (AllByRecursion-filter_map P Q f xs h all.1)
  where
    made : (o : Option B) → ((y : B) → o ≡ Some y → Q y) → AllByRecursion Q (filter_map f xs) → AllByRecursion Q (cons_option o (filter_map f xs))
    made None g rest = rest
    made (Some y) g rest = (g y refl, rest)

-- a place of a joined list
abbrev within : ℕ → Posted → Type 0
within n p = nat_lt p.place n ≡ true

within_more : (n m : ℕ) (p : Posted) → n ≤ m → within n p → within m p
within_more n m p more is = let lt : p.place < n = ltb-true p.place n is in lt-ltb p.place m (omega arith)

-- each accepted task has its place in the past
pub places_from : (added : List Entry → Kind → List Posted) → ((before : List Entry) (kind : Kind)
    → AllByRecursion (λ p. p.place ≡ length before) (added before kind)) → (before : List Entry) (known : List Posted) (rest : List Entry)
    → AllByRecursion (within (length before)) known → AllByRecursion (within (length before + length rest))
    (fold_past_from (λ b k x. k ++ added b x.kind) before known rest)
places_from added at before known [] all = AllByRecursion-map _ _ _ (λ p. within_more (length before) (length before + 0) p (omega arith)) all
places_from added at before known (x ∷ rest) all =
    subst (λ n. AllByRecursion (within n) (fold_past_from (λ b k y. k ++ added b y.kind) (before ++ x ∷ []) (known ++ added before x.kind) rest)) longer
    (places_from added at (before ++ x ∷ []) (known ++ added before x.kind) rest
    (AllByRecursion-append _ _ _
    (AllByRecursion-map _ _ _ (λ p. within_more (length before) (length (before ++ x ∷ [])) p (omega (arith, one))) all)
    (AllByRecursion-map _ _ _ (λ p is. lt-ltb p.place (length (before ++ x ∷ [])) (omega (arith, one, is))) (at before x.kind))))
  where
    one : length (before ++ x ∷ []) ≡ length before + 1
    one = length-append before (x ∷ [])

    longer : length (before ++ x ∷ []) + length rest ≡ length before + suc (length rest)
    longer = omega (arith, one)

pub posts_within : (past : List Entry) → AllByRecursion (within (length past)) (posts past)
unfolding posts fold_past
posts_within past = subst (λ n. AllByRecursion (within n) (posts past)) (omega arith) (places_from posted_by at [] [] past tt)
  where
    at : (before : List Entry) (kind : Kind) → AllByRecursion (λ p. p.place ≡ length before) (posted_by before kind)
    at before (Post task runner delay true) = (refl, tt)
    at before kind = tt

pub main_posts_within : (past : List Entry) → AllByRecursion (within (length past)) (main_posts past)
unfolding main_posts fold_past
main_posts_within past = subst (λ n. AllByRecursion (within n) (main_posts past)) (omega arith) (places_from main_posted_by at [] [] past tt)
  where
    at : (before : List Entry) (kind : Kind) → AllByRecursion (λ p. p.place ≡ length before) (main_posted_by before kind)
    at before (Main task queue delay true) = (refl, tt)
    at before kind = tt

pub tick_within : (past : List Entry) (moment place : ℕ) → tick_from past moment ≡ Some place → place < length past
unfolding tick_from
tick_within past moment place is = omega (arith, position-within (λ x. is_tick_from moment x.kind) 0 past place is)

pub key_within : (past : List Entry) (p : Posted) (key : Key) → within (length past) p → key_of past p ≡ Some key → nat_lt key.place (length past) ≡ true
key_within past p key in_past is = by_delayed (is_delayed p) is
  where
    late : (o : Option ℕ) → ((place : ℕ) → o ≡ Some place → place < length past) → option_map (ticked p) o ≡ Some key
        → nat_lt key.place (length past) ≡ true
    late None f none = absurd (none-some key none)
    late (Some place) f some = rw (← some-injective some) (lt-ltb place (length past) (f place refl))

    by_delayed : (b : Bool) → cond b (option_map (ticked p) (tick_from past p.ripe)) (Some (key_at p.place)) ≡ Some key → nat_lt key.place (length past) ≡ true
    by_delayed true h = late (tick_from past p.ripe) (λ place some. tick_within past p.ripe place some) h
    by_delayed false h = rw (← some-injective h) in_past

pub no_tick_ahead_at_start : NoTickAhead []
unfolding tick_from
no_tick_ahead_at_start moment ahead = refl

pub no_tick_ahead_grows : (past : List Entry) (e : Entry) → now_of past ≤ now_after (now_of past) e.kind → NoTickAhead past → NoTickAhead (past ++ e ∷ [])
no_tick_ahead_grows past e rising none moment ahead = rw (tick_from_push past e moment, none moment (omega (arith, rising, later))) (by_kind e.kind later)
  where
    later : now_after (now_of past) e.kind < moment
    later = rw (now_of_push past e) at ahead

    by_kind : (kind : Kind) → now_after (now_of past) kind < moment → tick_by past moment kind ≡ None
    by_kind (Tick now) lt = rw (lt-leb moment now lt) refl
    by_kind kind lt = refl
