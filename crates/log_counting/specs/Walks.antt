-- What counting asks of the situations of a script.
use Rattle.std.specs.Prelude.{◌≡◌, ℕ, ◌+◌, ◌≤◌, All, List, [], ◌∷◌, Option, Some, None}
use Rattle.std.specs.List.{AllByRecursion, cons_option, filter_map}
use Rattle.std.specs.Option.{option_map}
use Rattle.std.proofs.Common.{refl, subst, arith}
use Rattle.std.proofs.lemmas.List.Elements.{All-from_recursion}
use Rattle.std.proofs.lemmas.Option.{none-some, same_Some}
use Rattle.task_base.specs.Plan.{Plan}
use Rattle.task_base.specs.declared.entry.Kind.{Kind}
use Rattle.list_laws.proofs.Ranges.{AllByRecursion-range}
use Rattle.task_model.specs.Seats.{all_seats}
use Rattle.situation.specs.Situation.{Situation}
use Rattle.log_count.specs.After.{after_in}
use Rattle.log_count.specs.Layers.{onward}
use Rattle.log_count.specs.Ways.{next_in}
use Rattle.situation_steps.specs.Reached.{IsReached}
use Rattle.situation_after.proofs.Comes.{the_next_is_reached, what_is_next_comes}

all_found : (f : ℕ → Option Situation) (Holds : Situation → Type 0) (seats : List ℕ)
    → AllByRecursion (λ seat. (s : Situation) → f seat ≡ Some s → Holds s) seats → AllByRecursion Holds (filter_map f seats)
all_found f Holds [] all = tt
all_found f Holds (seat ∷ seats) all = by_found (f seat) refl (all_found f Holds seats all.1)
  where
    by_found : (o : Option Situation) → f seat ≡ o → AllByRecursion Holds (filter_map f seats) → AllByRecursion Holds (cons_option o (filter_map f seats))
    by_found None is rest = rest
    by_found (Some s) is rest = (all.0 s is, rest)

-- where the entries lead that seats may make next is reached
pub reached_onward : (script : Plan) (tick : Situation → ℕ) (s : Situation) → IsReached script s → All (IsReached script) (onward script tick s)
unfolding onward
reached_onward script tick s reached =
    All-from_recursion (IsReached script) (filter_map leads (all_seats script))
    (all_found leads (IsReached script) (all_seats script)
    (AllByRecursion-range (λ seat. (t : Situation) → leads seat ≡ Some t → IsReached script t) 0 (script.workers + 1)
    (λ seat from below t is. by_next seat (omega arith) t (next_in script tick s seat) refl is)))
  where
    leads : ℕ → Option Situation
    leads seat = option_map (after_in script s seat) (next_in script tick s seat)

    by_next : (seat : ℕ) → seat ≤ script.workers → (t : Situation) (o : Option Kind) → next_in script tick s seat ≡ o
        → option_map (after_in script s seat) o ≡ Some t → IsReached script t
    by_next seat known t None next is = absurd (none-some t is)
    by_next seat known t (Some kind) next is =
        subst (IsReached script) (same_Some (after_in script s seat kind) t is)
        (the_next_is_reached script s seat kind (what_is_next_comes script tick s seat kind reached known next))
