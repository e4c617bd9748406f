-- What is kept while seats are drawn, and what one more draw does to it.
-- Cited by `draw_entry`, `Made`.
use Rattle.std.proofs.Common.{◌≡◌, ◌≤◌, ◌<◌, ℕ, zero, suc, ◌+◌, Bool, true, false, cond, leb, List, [], ◌∷◌, length, refl, sym, ap, subst, ◌∙◌, Option, Some, None, arith}
use Rattle.std.specs.Prelude.{◌&&◌, not, remove, slice_index, Ok, option_and_then}
use Rattle.std.specs.List.{AllByRecursion}
use Rattle.std.specs.Option.{option_map_or}
use Rattle.std.proofs.lemmas.List.Edits.{length-remove}
use Rattle.std.proofs.lemmas.Option.{none-some, same_Some}
use Rattle.std.proofs.Math.Bool.{and-false}
use Rattle.task_base.specs.Plan.{Plan}
use Rattle.task_base.specs.declared.entry.Entry.{Entry}
use Rattle.task_base.specs.declared.entry.Kind.{Kind}
use Rattle.task_base.specs.declared.entry.Kind.TheVariants as kinds
use Rattle.hist_model.specs.Allowed.{may_come}
use Rattle.hist_model.specs.Legal.{IsLegal}
use Rattle.hist_model.specs.Open.{IsClosed}
use Rattle.hist_model.specs.Laws.Ways.{way_on}
use Rattle.env_core.specs.Views.{EnvView}
use Rattle.env_step.specs.Hands.{AreInHand}
use Rattle.env_step.specs.Steps.{IsOfReading, MayEnterNothing, Steps}
use Rattle.env_step.specs.declared.hand.Hand.{Hand}
use Rattle.simulation.specs.Draw.{Drawing, Draws, draws_driver, drawn_place, drawn_seat, left_of, struck}
use Rattle.simulation.specs.Schedule.{if_allowed, made_by, timed}
use Rattle.simulation.specs.Simulated.{drawn_in}
use Rattle.simulation.specs.Turns.{AreKnown, NobodyMay}
use Rattle.simulation.proofs.Turns.{allowed_is_made}

-- ---- one element less

pub all_but : {A : Type 0} (P : A → Type 0) (xs : List A) (i : ℕ) → AllByRecursion P xs → AllByRecursion P (remove xs i)
all_but P [] zero all = tt
all_but P [] (suc i) all = tt
all_but P (x ∷ xs) zero all = all.1
all_but P (x ∷ xs) (suc i) all = (all.0, all_but P xs i all.1)

-- with the element that is left out they are all
pub all_again : (P : ℕ → Type 0) (xs : List ℕ) (i : ℕ) → i < length xs → AllByRecursion P (remove xs i) → P (slice_index xs i) → AllByRecursion P xs
all_again P [] i within all one = absurd (omega (arith, within))
all_again P (x ∷ xs) zero within all one = (one, all)
all_again P (x ∷ xs) (suc i) within all one = (all.0, all_again P xs i (omega (arith, within)) all.1 one)

-- one of them
pub one_of : (P : ℕ → Type 0) (xs : List ℕ) (i : ℕ) → AllByRecursion P xs → i < length xs → P (slice_index xs i)
one_of P [] i all within = absurd (omega (arith, within))
one_of P (x ∷ xs) zero all within = all.0
one_of P (x ∷ xs) (suc i) all within = one_of P xs i all.1 (omega (arith, within))

-- ---- one draw

worker_less : (b : Bool) (all rest : ℕ) → rest + 1 ≡ all → cond b 1 0 + all ≡ suc (cond (b && true) 1 0 + rest)
worker_less true all rest less = omega (arith, less)
worker_less false all rest less = omega (arith, less)

-- one is left less
pub one_less : (before after : Drawing) (drawn : Option ℕ) → Draws before after drawn → left_of before ≡ suc (left_of after)
one_less before after drawn draws = by_driver (draws_driver before) refl ∙ ap (λ d. suc (left_of d)) (sym draws.struck_out)
  where
    by_driver : (b : Bool) → draws_driver before ≡ b → left_of before ≡ suc (left_of (struck before))
    by_driver true is = rw (is, draws.driver_is_left is) (omega arith)
    by_driver false is = rw is (worker_less before.driver (length before.workers) (length (remove before.workers (drawn_place before)))
        (length-remove before.workers (drawn_place before) (draws.worker_is_left is)))

-- the workers that are left stay the plan's
pub still_known : (script : Plan) (before after : Drawing) (drawn : Option ℕ) → Draws before after drawn → AreKnown script before → AreKnown script after
still_known script before after drawn draws known = subst (AreKnown script) (sym draws.struck_out) (by_driver (draws_driver before))
  where
    by_driver : (b : Bool) → AllByRecursion (λ seat. seat ≤ script.workers) (cond b before.workers (remove before.workers (drawn_place before)))
    by_driver true = known
    by_driver false = all_but (λ seat. seat ≤ script.workers) before.workers (drawn_place before) known

nobody_by : (P : ℕ → Type 0) (b driver : Bool) (workers : List ℕ) (place : ℕ) → (b ≡ false → place < length workers) → P (cond b 0 (slice_index workers place))
    → ((driver && not b) ≡ true → P 0) → AllByRecursion P (cond b workers (remove workers place)) → (driver ≡ true → P 0) × AllByRecursion P workers
nobody_by P true driver workers place within one first rest = (λ is. one, rest)
nobody_by P false driver workers place within one first rest = (λ is. first (rw is refl), all_again P workers place (within refl) rest one)

-- where the drawn seat may make no entry, nobody may where nobody else may
pub nobody_with : (view : EnvView) (reading : ℕ) (before after : Drawing) (drawn : Option ℕ) → Draws before after drawn
    → made_by view.script view.history reading (drawn_seat before) ≡ None → NobodyMay view reading after → NobodyMay view reading before
nobody_with view reading before after drawn draws none rest =
    let others = subst (NobodyMay view reading) draws.struck_out rest in
    let all = nobody_by (λ seat. made_by view.script view.history reading seat ≡ None) (draws_driver before) before.driver before.workers
    (drawn_place before) draws.worker_is_left none others.driver others.workers in
    record { driver = all.0; workers = all.1 }

-- ---- steps

-- a seat that may enter nothing makes nothing
pub nothing_is_made : (view : EnvView) (reading seat : ℕ) → MayEnterNothing view seat → made_by view.script view.history reading seat ≡ None
unfolding made_by
nothing_is_made view reading seat nothing = by_way (way_on view.script view.history seat)
  where
    barred : (e : Entry) → e.seat ≡ seat → if_allowed view.script view.history e ≡ None
    barred e is = ap (λ b. cond b (Some e) None) (ap (λ b. leb e.seat view.script.workers && b) (ap (λ s. may_come view.script view.history s e.kind) is ∙ nothing e.kind)
        ∙ and-false (leb e.seat view.script.workers))

    by_way : (way : Option Kind) → option_and_then (λ kind. if_allowed view.script view.history (timed view.history reading seat kind)) way ≡ None
    by_way None = refl
    by_way (Some kind) = barred (timed view.history reading seat kind) (seat_of kind)
      where
        seat_of : (kind : Kind) → (timed view.history reading seat kind).seat ≡ seat
        seat_of (kinds.Tick now) = refl
        seat_of kind = refl

-- what a step makes is what its seat makes
pub step_is_made : (before after : EnvView) (reading seat : ℕ) (kind : Kind) → IsClosed before.script → IsLegal before.script before.history
    → Steps before after seat reading (Ok kind) → made_by before.script before.history reading seat ≡ Some (record { seat = seat; kind = kind })
step_is_made before after reading seat kind closed legal steps = allowed_is_made before.script before.history reading seat kind closed legal steps.0.allowed
    (λ now is. sym (subst (IsOfReading before.history reading) is steps.1))

-- ---- the draws of one entry

-- while seats are drawn the environment stays, and what the draws bring is what those of the rest bring
pub record Going (env_at : EnvView) (drawing_at : Drawing) (reading : ℕ) (env : EnvView) (held : List Hand) (d : Drawing) : Type 0 where
  pub same : env ≡ env_at
  pub hands : AreInHand env held
  pub left : drawn_in (left_of drawing_at) env_at.script env_at.history reading drawing_at ≡ drawn_in (left_of d) env_at.script env_at.history reading d
  pub known : AreKnown env_at.script d
  pub rest : NobodyMay env_at reading d → NobodyMay env_at reading drawing_at

-- who was drawn was left
pub drew : (before after : Drawing) (drawn : Option ℕ) (seat : ℕ) → (left_of before ≡ 0 → (drawn ≡ None) × (after ≡ before))
    → (1 ≤ left_of before → Draws before after drawn) → drawn ≡ Some seat → Draws before after drawn
drew before after drawn seat nobody somebody is = by_left (left_of before) refl
  where
    by_left : (n : ℕ) → left_of before ≡ n → Draws before after drawn
    by_left zero none = absurd (none-some seat (sym (nobody none).0 ∙ is))
    by_left (suc n) some = somebody (omega (arith, some))

pub seat_is : (before after : Drawing) (drawn : Option ℕ) (seat : ℕ) → Draws before after drawn → drawn ≡ Some seat → drawn_seat before ≡ seat
seat_is before after drawn seat draws is = same_Some (drawn_seat before) seat (sym draws.seat ∙ is)

-- the seat that is drawn makes its entry
pub draw_brings : (view : EnvView) (reading : ℕ) (before after : Drawing) (drawn : Option ℕ) (e : Entry) → Draws before after drawn
    → made_by view.script view.history reading (drawn_seat before) ≡ Some e
    → record { entry = Some e; drawing = after } ≡ drawn_in (left_of before) view.script view.history reading before
draw_brings view reading before after drawn e draws made = rw (one_less before after drawn draws, made, draws.struck_out) refl

-- the seat that is drawn makes nothing
pub draw_passes : (view : EnvView) (reading : ℕ) (before after : Drawing) (drawn : Option ℕ) → Draws before after drawn
    → made_by view.script view.history reading (drawn_seat before) ≡ None
    → drawn_in (left_of before) view.script view.history reading before ≡ drawn_in (left_of after) view.script view.history reading after
draw_passes view reading before after drawn draws none =
    ap (λ n. drawn_in n view.script view.history reading before) (one_less before after drawn draws)
    ∙ ap (λ m. option_map_or (λ e. record { entry = Some e; drawing = struck before }) m (drawn_in (left_of after) view.script view.history reading (struck before))) none
    ∙ ap (drawn_in (left_of after) view.script view.history reading) (sym draws.struck_out)
