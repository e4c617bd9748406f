-- How many ticks there are after one more entry.
-- Cited by `TurnClock::note`.
use Rattle.std.proofs.Common.{◌≡◌, ℕ, ◌+◌, cond, List, [], ◌∷◌, ◌++◌, length, refl, ap, arith, Option, Some, None}
use Rattle.std.specs.Prelude.{is_some}
use Rattle.std.specs.List.{filter_map}
use Rattle.std.proofs.lemmas.List.{length-append}
use Rattle.std.proofs.lemmas.List.Elements.{filter_map-append}
use Rattle.task_base.specs.declared.entry.Entry.{Entry}
use Rattle.task_model.specs.Orders.{moment_of}
use Rattle.hist_model.specs.Moments.{ticks_of}

pub one_tick_more : (past : List Entry) (e : Entry) → length (ticks_of (past ++ e ∷ [])) + 1 ≡ length (ticks_of past) + 1 + cond (is_some (moment_of e.kind)) 1 0
one_tick_more past e = omega (
  arith,
  by_moment (moment_of e.kind) refl,
  ap length (filter_map-append (λ x. moment_of x.kind) past (e ∷ [])),
  length-append (ticks_of past) (filter_map (λ x. moment_of x.kind) (e ∷ [])),
)
  where
    by_moment : (m : Option ℕ) → moment_of e.kind ≡ m → length (filter_map (λ x. moment_of x.kind) (e ∷ [])) ≡ cond (is_some (moment_of e.kind)) 1 0
    by_moment None is = rw is refl
    by_moment (Some now) is = rw is refl
