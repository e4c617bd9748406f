-- Each entry that a fact shows stands in the log at its place.
-- Cited by `open_facts_there`, `facts_there`, `known_at`.
use Rattle.std.proofs.Common.{◌≡◌, ℕ, ◌+◌, zero, suc, List, [], ◌∷◌, ◌++◌, Option, Some, None, IfSome, get_or, refl, take, ◌∙◌}
use Rattle.std.proofs.lemmas.List.Elements.{All-append, All-cons, All-nil}
use Rattle.std.proofs.lemmas.Option.{none-some}
use Rattle.std.specs.Option.{option_map, option_to_list}
use Rattle.std.specs.Prelude.{All, slice_get}
use Rattle.task_base.specs.declared.entry.Entry.{Entry}
use Rattle.log_context.specs.Context.{StandsIn}
use Rattle.log_context.specs.declared.fact.Fact.{Fact}
use Rattle.log_context.specs.declared.fact.Fact.TheVariants as facts
use Rattle.log_context.specs.declared.fact.Role.{Role}
use Rattle.log_context.specs.declared.fact.Role.TheVariants as roles
use Rattle.told_context.specs.Told.{earlier, later, may_take, standing}

-- what stands in the log up to an entry, that among it, stands in the whole log
stands_on : (log : List Entry) (place p : ℕ) (e x : Entry) → slice_get log place ≡ Some e → slice_get (take place log ++ e ∷ []) p ≡ Some x
    → slice_get log p ≡ Some x
stands_on [] place p e x there stands = absurd (none-some e there)
stands_on (y ∷ ys) zero zero e x there stands = there ∙ stands
stands_on (y ∷ ys) zero (suc p) e x there stands = absurd (none-some x stands)
stands_on (y ∷ ys) (suc place) zero e x there stands = stands
stands_on (y ∷ ys) (suc place) (suc p) e x there stands = stands_on ys place p e x there stands

fact_stands_on : (log : List Entry) (place : ℕ) (e : Entry) → slice_get log place ≡ Some e
    → (fact : Fact) → StandsIn (take place log ++ e ∷ []) fact → StandsIn log fact
fact_stands_on log place e there (facts.Stands role p x) stands = stands_on log place p e x there stands
fact_stands_on log place e there fact stands = tt

-- an entry that stands at a place
standing_stands : (role : Role) (log : List Entry) (place : ℕ) → IfSome (standing role log place) (StandsIn log)
standing_stands role log place = by_entry (slice_get log place) refl
  where
    by_entry : (o : Option Entry) → slice_get log place ≡ o → IfSome (option_map (λ (e : Entry). facts.Stands role place e) o) (StandsIn log)
    by_entry None is = tt
    by_entry (Some e) is = is

pub earlier_stands : (log : List Entry) (place : Option ℕ) → IfSome (earlier log place) (StandsIn log)
earlier_stands log None = tt
earlier_stands log (Some place) = standing_stands roles.Before log place

pub later_stands : (log : List Entry) (place : ℕ) (count : Option ℕ) → IfSome (later log place count) (StandsIn log)
later_stands log place None = tt
later_stands log place (Some n) = standing_stands roles.After log (place + 1 + n)

-- one fact more, if there is one
pub all_with : (log : List Entry) (known : List Fact) (o : Option Fact) → All (StandsIn log) known → IfSome o (StandsIn log)
    → All (StandsIn log) (known ++ option_to_list o)
all_with log known None all is = All-append (StandsIn log) known [] all (All-nil (StandsIn log))
all_with log known (Some fact) all is = All-append (StandsIn log) known (fact ∷ []) all (All-cons (StandsIn log) fact [] is (All-nil (StandsIn log)))

-- all that stands in the log up to an entry, that among it, stands in the whole log
pub all_stand_on : (log : List Entry) (place : ℕ) (e : Entry) (known : List Fact) → slice_get log place ≡ Some e
    → All (StandsIn (take place log ++ e ∷ [])) known → All (StandsIn log) known
all_stand_on log place e known there all = λ k d below. fact_stands_on log place e there (get_or known k d) (all k d below)

-- of what may be taken nothing is said to stand in the log
pub may_take_stand : (log : List Entry) (place : ℕ) (takers : List Entry) → All (StandsIn log) (may_take place takers)
may_take_stand log place [] = All-nil (StandsIn log)
may_take_stand log place (e ∷ takers) = All-cons (StandsIn log) (facts.MayTake place e) (may_take place takers) tt (may_take_stand log place takers)
