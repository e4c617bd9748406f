-- What one more entry does to the orders of main tasks. An order that was drawn stays; an immediate task draws at its post,
-- and a delayed one at the first tick at or past its ripe moment, where its queue is not closed.
-- Cited by `Arrivals`, `Distinct`, `hist_model`, `sequence_manager`.
use Rattle.std.proofs.Common.{◌≡◌, ℕ, ◌+◌, ◌<◌, Bool, true, false, cond, eqb, List, [], ◌∷◌, ◌++◌, length, take, refl, sym, ap, ◌∙◌, Option, Some, None, arith}
use Rattle.std.specs.Prelude.{not, ◌&&◌, ◌||◌, nat_lt, nat_le, filter, option_and_then, is_none}
use Rattle.std.specs.Option.{option_or}
use Rattle.std.specs.List.{AllByRecursion}
use Rattle.std.proofs.lemmas.Bool.{ltb-true}
use Rattle.std.proofs.lemmas.Option.{none-some}
use Rattle.std.proofs.lemmas.List.{take-append-le}
use Rattle.std.proofs.Math.Seq.{take-append_seam}
use Rattle.task_base.specs.declared.entry.Entry.{Entry}
use Rattle.task_base.specs.declared.entry.Kind.TheVariants as kinds
use Rattle.task_model.specs.Time.{now_of, tick_from}
use Rattle.task_model.specs.Posts.{Posted, is_delayed, post_behind, main_posts}
use Rattle.task_model.specs.Refusal.{is_closed}
use Rattle.task_model.specs.Orders.{ripening, next_draw, drawn_at, moment_of, moment_at, order_of}
use Rattle.pool_laws.specs.Keys.{tick_by}
use Rattle.pool_laws.proofs.Moves.{no_tick}
use Rattle.pool_laws.specs.Moves.{Moment}
use Rattle.queue_laws.specs.Orders.{moves_orders, order_at_tick_of}
use Rattle.list_laws.proofs.Options.{option_or-none}
use Rattle.list_laws.proofs.Elements.{slice_get-front, slice_get-end, AllByRecursion-map}
use Rattle.pool_laws.proofs.Keys.Ready.{main_posts_within, tick_from_push, tick_from_stays, tick_within}

-- each accepted main task has its place in the past
pub main_places : (past : List Entry) → AllByRecursion (λ p. p.place < length past) (main_posts past)
main_places past = AllByRecursion-map (λ p. nat_lt p.place (length past) ≡ true) (λ p. p.place < length past) (main_posts past)
    (λ p is. ltb-true p.place (length past) is) (main_posts_within past)

-- what a delayed task drew at the tick at a place
abbrev pub drawn : List Entry → Posted → ℕ → Option ℕ
drawn past p place = option_and_then (λ moment. drawn_at (take place past) moment p) (moment_at past place)

pub drawn_front : (past rest : List Entry) (p : Posted) (place : ℕ) → place < length past → drawn (past ++ rest) p place ≡ drawn past p place
drawn_front past rest p place lt =
    ap (λ before. option_and_then (λ moment. drawn_at before moment p) (moment_at (past ++ rest) place)) (take-append-le place past rest (omega (arith, lt)))
    ∙ ap (λ o. option_and_then (λ moment. drawn_at (take place past) moment p) (option_and_then (λ x. moment_of x.kind) o)) (slice_get-front past rest place lt)

-- an order, by the first tick at or past the ripe moment
abbrev order_from : List Entry → Posted → Option ℕ → Option ℕ
order_from past p tick = cond (is_delayed p) (option_and_then (drawn past p) tick) (Some (next_draw (take p.place past)))

pub order_is : (past : List Entry) (p : Posted) → order_of past p ≡ order_from past p (tick_from past p.ripe)
unfolding order_of
order_is past p = refl

-- the order of a task of the past, by a tick of the past
order_front : (past rest : List Entry) (p : Posted) (tick : Option ℕ) → p.place < length past → ((place : ℕ) → tick ≡ Some place → place < length past)
    → order_from (past ++ rest) p tick ≡ order_from past p tick
order_front past rest p tick lt within = by_delayed (is_delayed p)
  where
    ticked : (o : Option ℕ) → ((place : ℕ) → o ≡ Some place → place < length past)
        → option_and_then (drawn (past ++ rest) p) o ≡ option_and_then (drawn past p) o
    ticked None f = refl
    ticked (Some place) f = drawn_front past rest p place (f place refl)

    by_delayed : (b : Bool) → cond b (option_and_then (drawn (past ++ rest) p) tick) (Some (next_draw (take p.place (past ++ rest))))
        ≡ cond b (option_and_then (drawn past p) tick) (Some (next_draw (take p.place past)))
    by_delayed true = ticked tick within
    by_delayed false = ap (λ before. Some (next_draw before)) (take-append-le p.place past rest (omega (arith, lt)))

-- an order that was drawn stays
pub order_of_stays : (past rest : List Entry) (p : Posted) (n : ℕ) → p.place < length past → order_of past p ≡ Some n → order_of (past ++ rest) p ≡ Some n
order_of_stays past rest p n lt is = order_is (past ++ rest) p ∙ by_delayed (is_delayed p) refl (sym (order_is past p) ∙ is)
  where
    drawn_then : (o : Option ℕ) → o ≡ tick_from past p.ripe → option_and_then (drawn past p) o ≡ Some n
        → option_and_then (drawn (past ++ rest) p) (tick_from (past ++ rest) p.ripe) ≡ Some n
    drawn_then None was h = absurd (none-some n h)
    drawn_then (Some place) was h =
        ap (option_and_then (drawn (past ++ rest) p)) (tick_from_stays past rest p.ripe place (sym was))
        ∙ drawn_front past rest p place (tick_within past p.ripe place (sym was))
        ∙ h

    by_delayed : (b : Bool) → is_delayed p ≡ b → cond b (option_and_then (drawn past p) (tick_from past p.ripe)) (Some (next_draw (take p.place past))) ≡ Some n
        → cond b (option_and_then (drawn (past ++ rest) p) (tick_from (past ++ rest) p.ripe)) (Some (next_draw (take p.place (past ++ rest)))) ≡ Some n
    by_delayed true delayed h = drawn_then (tick_from past p.ripe) refl h
    by_delayed false immediate h = ap (λ before. Some (next_draw before)) (take-append-le p.place past rest (omega (arith, lt))) ∙ h

-- an entry that is no tick leaves the first ticks
pub tick_same : (past : List Entry) (e : Entry) → moves_orders e.kind ≡ false → (moment : ℕ) → tick_from (past ++ e ∷ []) moment ≡ tick_from past moment
tick_same past e quiet moment = tick_from_push past e moment
    ∙ ap (λ (b : Bool). option_or (tick_from past moment) (cond b (Some (length past)) None)) (no_tick (Moment ∷ []) e.kind refl quiet moment)
    ∙ option_or-none (tick_from past moment)

pub order_of_same : (past : List Entry) (e : Entry) (p : Posted) → p.place < length past → moves_orders e.kind ≡ false
    → order_of (past ++ e ∷ []) p ≡ order_of past p
order_of_same past e p lt quiet =
    order_is (past ++ e ∷ []) p
    ∙ ap (order_from (past ++ e ∷ []) p) (tick_same past e quiet p.ripe)
    ∙ order_front past (e ∷ []) p (tick_from past p.ripe) lt (λ place is. tick_within past p.ripe place is)
    ∙ sym (order_is past p)

-- a delayed task draws at the first tick at or past its ripe moment, or never
pub order_at_tick : (past : List Entry) (e : Entry) (p : Posted) (moment : ℕ) → e.kind ≡ kinds.Tick moment → is_delayed p ≡ true → tick_from past p.ripe ≡ None
    → order_of (past ++ e ∷ []) p ≡ drawn_at past moment p
order_at_tick past e p moment is delayed none =
    order_is (past ++ e ∷ []) p
    ∙ ap (λ (b : Bool). cond b (option_and_then (drawn (past ++ e ∷ []) p) (tick_from (past ++ e ∷ []) p.ripe))
    (Some (next_draw (take p.place (past ++ e ∷ []))))) delayed
    ∙ ap (option_and_then (drawn (past ++ e ∷ []) p)) (tick_from_push past e p.ripe ∙ ap (λ o. option_or o (tick_by past p.ripe e.kind)) none
    ∙ ap (tick_by past p.ripe) is)
    ∙ by_order (nat_le p.ripe moment) refl
  where
    here : drawn (past ++ e ∷ []) p (length past) ≡ drawn_at past moment p
    here =
        ap (λ before. option_and_then (λ m. drawn_at before m p) (moment_at (past ++ e ∷ []) (length past))) (take-append_seam past (e ∷ []))
        ∙ ap (λ o. option_and_then (λ m. drawn_at past m p) (option_and_then (λ x. moment_of x.kind) o)) (slice_get-end past e)
        ∙ ap (λ kind. option_and_then (λ m. drawn_at past m p) (moment_of kind)) is

    neither : (a b c : Bool) → (a && b && c && false) ≡ false
    neither true true true = refl
    neither true true false = refl
    neither true false c = refl
    neither false b c = refl

    early : nat_le p.ripe moment ≡ false → None ≡ drawn_at past moment p
    early h = sym (ap (λ (b : Bool). cond b (Some (next_draw past + drawn_before)) None)
        (ap (λ b. is_delayed p && not (is_closed past p.home) && nat_lt (now_of past) p.ripe && b) h
        ∙ neither (is_delayed p) (not (is_closed past p.home)) (nat_lt (now_of past) p.ripe)))
      where
        drawn_before : ℕ
        drawn_before = length (filter (λ q. nat_lt q.ripe p.ripe || (eqb q.ripe p.ripe && nat_lt q.place p.place)) (ripening past moment))

    by_order : (b : Bool) → nat_le p.ripe moment ≡ b → option_and_then (drawn (past ++ e ∷ []) p) (cond b (Some (length past)) None) ≡ drawn_at past moment p
    by_order true h = here
    by_order false h = early h

-- an immediate task draws at its post
pub order_at_post : (past : List Entry) (e : Entry) (task queue delay : ℕ) → nat_lt 0 delay ≡ false
    → order_of (past ++ e ∷ []) (post_behind past task queue delay) ≡ Some (next_draw past)
order_at_post past e task queue delay immediate =
    rw (order_is (past ++ e ∷ []) (post_behind past task queue delay), immediate, take-append_seam past (e ∷ [])) refl

-- a delayed task has no order at its post
pub unordered : (past : List Entry) (e : Entry) (p : Posted) → moves_orders e.kind ≡ false → is_delayed p ≡ true → tick_from past p.ripe ≡ None
    → order_of (past ++ e ∷ []) p ≡ None
unordered past e p quiet delayed unripe = rw (order_is (past ++ e ∷ []) p, delayed, tick_same past e quiet p.ripe ∙ unripe) refl

-- an immediate task, and one whose tick has come, keeps its order
order_same_immediate : (past rest : List Entry) (p : Posted) → p.place < length past → is_delayed p ≡ false → order_of (past ++ rest) p ≡ order_of past p
order_same_immediate past rest p lt immediate =
    rw (order_is (past ++ rest) p, order_is past p, immediate, take-append-le p.place past rest (omega (arith, lt))) refl

order_same_ticked : (past rest : List Entry) (p : Posted) (place : ℕ) → p.place < length past → tick_from past p.ripe ≡ Some place
    → order_of (past ++ rest) p ≡ order_of past p
order_same_ticked past rest p place lt ticked =
    order_is (past ++ rest) p
    ∙ ap (order_from (past ++ rest) p) (tick_from_stays past rest p.ripe place ticked)
    ∙ order_front past rest p (Some place) lt (λ other same. tick_within past p.ripe other (ticked ∙ same))
    ∙ sym (order_is past p ∙ ap (order_from past p) ticked)

-- the order of a task of the past after a tick
pub order_tick : (past : List Entry) (e : Entry) (p : Posted) (moment : ℕ) → e.kind ≡ kinds.Tick moment → p.place < length past
    → order_of (past ++ e ∷ []) p ≡ order_at_tick_of past moment p
order_tick past e p moment is lt = by_delayed (is_delayed p) refl (tick_from past p.ripe) refl
  where
    by_delayed : (b : Bool) → is_delayed p ≡ b → (o : Option ℕ) → tick_from past p.ripe ≡ o
        → order_of (past ++ e ∷ []) p ≡ cond (b && is_none o) (drawn_at past moment p) (order_of past p)
    by_delayed false immediate o was = order_same_immediate past (e ∷ []) p lt immediate
    by_delayed true delayed None was = order_at_tick past e p moment is delayed was
    by_delayed true delayed (Some place) was = order_same_ticked past (e ∷ []) p place lt was
