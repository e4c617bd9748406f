-- Pasts in the same situation have as many futures.
-- Cited by `moves.rt`, `log_count`.
use Rattle.std.proofs.Common.{◌≡◌, ℕ, zero, suc, ◌+◌, Bool, true, false, cond, leb, List, [], ◌∷◌, ◌++◌, length, refl, sym, ap, ◌∙◌, Option, Some, None}
use Rattle.std.specs.Prelude.{flat_map}
use Rattle.std.specs.Option.{option_map}
use Rattle.std.specs.List.{AllByRecursion}
use Rattle.std.proofs.lemmas.Bool.{and_parts, and_from, leb-true, true≢false}
use Rattle.std.proofs.lemmas.Option.{none-some, same_Some}
use Rattle.std.proofs.lemmas.List.{length-append, length-map}
use Rattle.task_base.specs.Plan.{Plan}
use Rattle.task_base.specs.declared.entry.Entry.{Entry}
use Rattle.task_base.specs.declared.entry.JobReply.TheVariants.{Finished}
use Rattle.task_base.specs.declared.entry.Kind.{Kind}
use Rattle.task_base.specs.declared.entry.Kind.TheVariants as kinds
use Rattle.list_laws.proofs.Ranges.{AllByRecursion-range}
use Rattle.script_model.specs.Laws.Sound.{IsSound}
use Rattle.task_model.specs.Seats.{all_seats}
use Rattle.hist_model.specs.Allowed.{is_allowed, IsAllowed, may_come}
use Rattle.hist_model.specs.Legal.{IsLegal}
use Rattle.hist_model.specs.Laws.Ways.{but_moment, way_on}
use Rattle.hist_model.proofs.Laws.Legal.{legal_next}
use Rattle.hist_model.proofs.Laws.Ways.{way_is}
use Rattle.situation.specs.Alike.{without_items}
use Rattle.situation.specs.Counts.{at_moment, beginning_with, futures, next_of}
use Rattle.situation.specs.Situation.{Situation, is_pool_script, situation_of}
use Rattle.situation.proofs.Choice.{both_true}
use Rattle.situation.proofs.Coming.{decides_coming, decides_way, decides_whole}
use Rattle.situation.proofs.Onward.Whole.{goes_on}

-- ---- lists as long

as_long : {A B : Type 0} (f g : A → List B) (xs : List A) → AllByRecursion (λ x. length (f x) ≡ length (g x)) xs
    → length (flat_map f xs) ≡ length (flat_map g xs)
as_long f g [] all = refl
as_long f g (x ∷ xs) all = length-append (f x) (flat_map f xs) ∙ ap (λ n. n + length (flat_map f xs)) all.0
    ∙ ap (λ n. length (g x) + n) (as_long f g xs all.1) ∙ sym (length-append (g x) (flat_map g xs))

-- ---- kinds at a moment

pub told_at : (moment : ℕ) (kind : Kind) → without_items (at_moment moment kind) ≡ at_moment moment (without_items kind)
told_at moment (kinds.Joined job (Finished sum)) = refl
told_at moment (kinds.Joined job reply) = refl
told_at moment kind = refl

-- what is like a kind at a moment is at it
back_at : (moment : ℕ) (kind like : Kind) → without_items (at_moment moment kind) ≡ without_items like → at_moment moment (but_moment like) ≡ like
back_at moment kind (kinds.Tick now) is = of_kind kind is
  where
    of_kind : (k : Kind) → without_items (at_moment moment k) ≡ kinds.Tick now → kinds.Tick moment ≡ kinds.Tick now
    of_kind (kinds.Tick other) same = same
    of_kind (kinds.Joined job (Finished sum)) same = absurd cc
    of_kind (kinds.Joined job reply) same = absurd cc
    of_kind k same = absurd cc
back_at moment kind like is = refl

-- ---- what is allowed

abbrev at_moment_of : Plan → (Situation → ℕ) → List Entry → ℕ → Kind → Entry
at_moment_of script tick past seat way = record { seat = seat; kind = at_moment (tick (situation_of script past)) way }

allowed_like : (script : Plan) (tick : Situation → ℕ) (past other : List Entry) → IsSound script → is_pool_script script ≡ true → IsLegal script past
    → IsLegal script other → situation_of script past ≡ situation_of script other → (seat : ℕ) (a b : Kind) → way_on script other seat ≡ Some b
    → is_allowed script past (at_moment_of script tick past seat a) ≡ true → is_allowed script other (at_moment_of script tick other seat b) ≡ true
allowed_like script tick past other sound pool legal legal_other same seat a b is_b allowed =
    let parts = and_parts (leb seat script.workers) (may_come script past seat (at_moment (tick (situation_of script past)) a)) allowed in
    let like = decides_coming script past other sound pool legal legal_other same seat (at_moment (tick (situation_of script past)) a)
    (leb-true seat script.workers parts.0) parts.1 in
    let way : b ≡ but_moment like.0 = same_Some b (but_moment like.0) (sym is_b ∙ way_is script other seat like.0 sound.closed legal_other like.2) in
    let kind : at_moment (tick (situation_of script other)) b ≡ like.0 = ap (λ z. at_moment (tick z) b) (sym same)
    ∙ ap (at_moment (tick (situation_of script past))) way
    ∙ back_at (tick (situation_of script past)) a like.0 like.1 in
    and_from _ _ parts.0 (ap (may_come script other seat) kind ∙ like.2)

-- ---- as many

-- what goes on from a past by nothing
abbrev at_end : Bool → List (List Entry)
at_end b = cond b ([] ∷ []) []

pub as_many : (script : Plan) (tick : Situation → ℕ) (n : ℕ) (past other : List Entry) → IsSound script → is_pool_script script ≡ true → IsLegal script past
    → IsLegal script other → situation_of script past ≡ situation_of script other → length (futures script tick n past) ≡ length (futures script tick n other)
as_many script tick zero past other sound pool legal legal_other same =
    ap (λ b. length (at_end b)) (decides_whole script past other sound pool legal legal_other same)
as_many script tick (suc n) past other sound pool legal legal_other same =
    as_long (λ seat. beginning_with (next_of script tick past seat) (λ e. futures script tick n (past ++ e ∷ [])))
    (λ seat. beginning_with (next_of script tick other seat) (λ e. futures script tick n (other ++ e ∷ []))) (all_seats script)
    (AllByRecursion-range (λ seat. length (beginning_with (next_of script tick past seat) (λ e. futures script tick n (past ++ e ∷ [])))
    ≡ length (beginning_with (next_of script tick other seat) (λ e. futures script tick n (other ++ e ∷ [])))) 0 (script.workers + 1)
    (λ seat from to. at_seat (λ e f alike seats one two.
    as_many script tick n (past ++ e ∷ []) (other ++ f ∷ []) sound pool (legal_next script past e legal one) (legal_next script other f legal_other two)
    (goes_on script past other e f sound pool legal legal_other same seats alike one two)) seat))
  where
    at_seat : ((e f : Entry) → without_items e.kind ≡ without_items f.kind → e.seat ≡ f.seat → IsAllowed script past e → IsAllowed script other f
        → length (futures script tick n (past ++ e ∷ [])) ≡ length (futures script tick n (other ++ f ∷ []))) → (seat : ℕ)
        → length (beginning_with (next_of script tick past seat) (λ e. futures script tick n (past ++ e ∷ [])))
        ≡ length (beginning_with (next_of script tick other seat) (λ e. futures script tick n (other ++ e ∷ [])))
    at_seat later seat = by_ways (way_on script past seat) (way_on script other seat) refl refl
        (decides_way script past other sound pool legal legal_other same seat)
      where
        by_allowed : (a b : Kind)
            → without_items (at_moment (tick (situation_of script past)) a) ≡ without_items (at_moment (tick (situation_of script other)) b) → (p q : Bool)
            → is_allowed script past (at_moment_of script tick past seat a) ≡ p → is_allowed script other (at_moment_of script tick other seat b) ≡ q → p ≡ q
            → length (beginning_with (cond p (Some (at_moment_of script tick past seat a)) None) (λ e. futures script tick n (past ++ e ∷ [])))
            ≡ length (beginning_with (cond q (Some (at_moment_of script tick other seat b)) None) (λ e. futures script tick n (other ++ e ∷ [])))
        by_allowed a b alike true true is_p is_q both =
            length-map (futures script tick n (past ++ at_moment_of script tick past seat a ∷ [])) (λ rest. at_moment_of script tick past seat a ∷ rest)
            ∙ later (at_moment_of script tick past seat a) (at_moment_of script tick other seat b) alike refl is_p is_q
            ∙ sym (length-map (futures script tick n (other ++ at_moment_of script tick other seat b ∷ []))
            (λ rest. at_moment_of script tick other seat b ∷ rest))
        by_allowed a b alike false false is_p is_q both = refl
        by_allowed a b alike true false is_p is_q both = absurd (true≢false both)
        by_allowed a b alike false true is_p is_q both = absurd (true≢false (sym both))

        by_ways : (x y : Option Kind) → way_on script past seat ≡ x → way_on script other seat ≡ y
            → option_map without_items (way_on script past seat) ≡ option_map without_items (way_on script other seat)
            → length (beginning_with (next_of script tick past seat) (λ e. futures script tick n (past ++ e ∷ [])))
            ≡ length (beginning_with (next_of script tick other seat) (λ e. futures script tick n (other ++ e ∷ [])))
        by_ways None None is_x is_y alike = rw (is_x, is_y) refl
        by_ways None (Some b) is_x is_y alike = absurd (none-some _ (sym (ap (option_map without_items) is_x) ∙ alike ∙ ap (option_map without_items) is_y))
        by_ways (Some a) None is_x is_y alike = absurd (none-some _ (sym (ap (option_map without_items) is_y) ∙ sym alike ∙ ap (option_map without_items) is_x))
        by_ways (Some a) (Some b) is_x is_y alike =
            let told : without_items a ≡ without_items b =
            same_Some _ _ (sym (ap (option_map without_items) is_x) ∙ alike ∙ ap (option_map without_items) is_y) in
            rw (is_x, is_y) (by_allowed a b
            (told_at (tick (situation_of script past)) a ∙ ap (at_moment (tick (situation_of script past))) told
            ∙ ap (λ z. at_moment (tick z) (without_items b)) same
            ∙ sym (told_at (tick (situation_of script other)) b))
            (is_allowed script past (at_moment_of script tick past seat a)) (is_allowed script other (at_moment_of script tick other seat b)) refl refl
            (both_true _ _ (allowed_like script tick past other sound pool legal legal_other same seat a b is_y)
            (allowed_like script tick other past sound pool legal_other legal (sym same) seat b a is_x)))
