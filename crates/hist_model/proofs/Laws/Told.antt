-- A legal log is told by the order of its seats and the moments of its ticks.
-- Cited by `Laws/Due`, `ways.rt`.
use Rattle.std.proofs.Common.{◌≡◌, ℕ, true, false, leb, List, [], ◌∷◌, ◌++◌, refl, sym, ap, subst, ◌∙◌, Option, Some, None}
use Rattle.std.specs.Prelude.{is_some}
use Rattle.std.specs.List.{cons_option}
use Rattle.std.proofs.lemmas.Bool.{and_parts}
use Rattle.task_base.specs.Plan.{Plan}
use Rattle.task_base.specs.declared.entry.Entry.{Entry}
use Rattle.task_base.specs.declared.entry.Kind.{Kind}
use Rattle.task_base.specs.declared.entry.Kind.TheVariants as kinds
use Rattle.task_model.specs.Orders.{moment_of}
use Rattle.hist_model.specs.Allowed.{is_allowed, may_come}
use Rattle.hist_model.specs.Legal.{legal_from, is_legal, IsLegal}
use Rattle.hist_model.specs.Moments.{ticks_of}
use Rattle.hist_model.specs.Open.{IsClosed, is_tick}
use Rattle.hist_model.specs.Laws.Ways.{but_moment, seats_of}
use Rattle.hist_model.proofs.Laws.Legal.{nothing_is_legal, legal_next}
use Rattle.hist_model.proofs.Laws.Ways.{one_way}

-- the kind at a moment, where it is a tick
pub at_moment : Kind → Option ℕ → Kind
at_moment (kinds.Tick now) (Some other) = kinds.Tick other
at_moment kind moment = kind

pub moment_back : (kind : Kind) → at_moment (but_moment kind) (moment_of kind) ≡ kind
unfolding at_moment
moment_back (kinds.Tick now) = refl
moment_back kind = refl

-- a kind that is no tick has no moment to leave out
pub untimed : (kind other : Kind) → is_tick other ≡ false → but_moment kind ≡ other → kind ≡ other
unfolding at_moment
untimed kind other no_tick same = sym (moment_back kind) ∙ ap (λ k. at_moment k (moment_of kind)) same ∙ unmoved other (moment_of kind) no_tick
  where
    unmoved : (k : Kind) (o : Option ℕ) → is_tick k ≡ false → at_moment k o ≡ k
    unmoved (kinds.Tick now) o is = absurd cc
    unmoved k o is = refl

has_moment : (kind : Kind) → is_some (moment_of kind) ≡ is_tick (but_moment kind)
has_moment (kinds.Tick now) = refl
has_moment kind = refl

parted : (a b : Option ℕ) (xs ys : List ℕ) → is_some a ≡ is_some b → cons_option a xs ≡ cons_option b ys → (a ≡ b) × (xs ≡ ys)
parted None None xs ys alike same = (refl, same)
parted (Some x) (Some y) xs ys alike same = (cc, cc)
parted None (Some y) xs ys alike same = absurd cc
parted (Some x) None xs ys alike same = absurd cc

entry_is : (x y : Entry) → x.seat ≡ y.seat → x.kind ≡ y.kind → x ≡ y
entry_is x y seat kind = ap (λ s. record { seat = s; kind = x.kind }) seat ∙ ap (λ k. record { seat = y.seat; kind = k }) kind

both : (x y : Entry) (xs ys : List Entry) → x ≡ y → xs ≡ ys → x ∷ xs ≡ y ∷ ys
both x y xs ys one rest = cc

-- two legal logs of one closed plan whose seats and ticks are alike are equal
pub told : (script : Plan) (a b : List Entry) → IsClosed script → IsLegal script a → IsLegal script b → seats_of a ≡ seats_of b → ticks_of a ≡ ticks_of b
    → a ≡ b
unfolding is_legal
told script a b closed first second seats ticks = walk [] a b (nothing_is_legal script) first second seats ticks
  where
    walk : (past xs ys : List Entry) → IsLegal script past → legal_from script past xs ≡ true → legal_from script past ys ≡ true
        → seats_of xs ≡ seats_of ys → ticks_of xs ≡ ticks_of ys → xs ≡ ys
    walk past [] [] legal first second seats ticks = refl
    walk past [] (y ∷ ys) legal first second seats ticks = absurd cc
    walk past (x ∷ xs) [] legal first second seats ticks = absurd cc
    walk past (x ∷ xs) (y ∷ ys) legal first second seats ticks =
        let p = and_parts (is_allowed script past x) (legal_from script (past ++ x ∷ []) xs) first in
        let q = and_parts (is_allowed script past y) (legal_from script (past ++ y ∷ []) ys) second in
        let may = (and_parts (leb x.seat script.workers) (may_come script past x.seat x.kind) p.0).1 in
        let also = (and_parts (leb y.seat script.workers) (may_come script past y.seat y.kind) q.0).1 in
        let seat : x.seat ≡ y.seat = cc in
        let here : may_come script past x.seat y.kind ≡ true = rw seat also in
        let kind : but_moment x.kind ≡ but_moment y.kind = one_way script past x.seat x.kind y.kind closed legal may here in
        let parts = parted (moment_of x.kind) (moment_of y.kind) (ticks_of xs) (ticks_of ys)
        (has_moment x.kind ∙ ap is_tick kind ∙ sym (has_moment y.kind)) ticks in
        let same : x.kind ≡ y.kind = sym (moment_back x.kind) ∙ ap (λ k. at_moment k (moment_of x.kind)) kind
        ∙ ap (at_moment (but_moment y.kind)) parts.0 ∙ moment_back y.kind in
        let entry : x ≡ y = entry_is x y seat same in
        let later : seats_of xs ≡ seats_of ys = cc in
        let rest : xs ≡ ys = walk (past ++ x ∷ []) xs ys (legal_next script past x legal p.0) p.1
        (subst (λ e. legal_from script (past ++ e ∷ []) ys ≡ true) (sym entry) q.1) later parts.1 in
        both x y xs ys entry rest
