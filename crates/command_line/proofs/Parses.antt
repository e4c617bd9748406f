-- What clap's answers say of the command that the words are.
-- Cited by `command_of`.
use Rattle.std.proofs.Common.{◌≡◌, ℕ, true, List, [], ◌∷◌, codes, refl, sym, ap, ap₂, subst, ◌∙◌, inl, inr, Option, None}
use Rattle.clap.specs.Walk.{Row, first_of, rows_of}
use Rattle.clap.specs.Simple.{App, HasMatchesOf, is_simple, matches_of}
use Rattle.clap.specs.Kinds.{Kinds, HasKind, IsAmong}
use Rattle.clap.specs.Faults.{fault_of, is_simple_and_free}
use Rattle.clap.specs.Matches.{found_of, first_value}
use Rattle.clap.specs.Values.{kind_of}
use Rattle.clap.specs.declared.error.Error.{Error}
use Rattle.clap.specs.declared.error.kind.ErrorKind.{ErrorKind}
use Rattle.clap.specs.declared.error.kind.ErrorKind.TheVariants.{OutOfMemory}
use Rattle.clap.specs.declared.parser.matches.ArgMatches.{ArgMatches}
use Rattle.clap.proofs.OnLiterals.{clap_on_literals}
use Rattle.clap.proofs.WalkLemmas.{first_value-rows}
use Rattle.command_line.specs.Options.{Options, options_by}
use Rattle.command_line.specs.CommandLine.{taskenv, command_by, command_unless, command_of}

-- the command is one of those of which clap says exactly what it makes of words
simple : is_simple taskenv ≡ true
unfolding clap_on_literals
simple = refl

simple_and_free : is_simple_and_free taskenv ≡ true
unfolding clap_on_literals
simple_and_free = refl

refused_for : (k : ErrorKind) (kinds : Kinds) (rows : List Row) → IsAmong k kinds → command_unless kinds rows ≡ None
refused_for k [] rows among = absurd among
refused_for k (kind ∷ kinds) rows among = refl

-- words that clap refuses, where there is memory, are no command
pub refused : (app : App) (words : List (List ℕ)) (e : Error) → app ≡ taskenv → (is_simple_and_free app ≡ true → HasKind (fault_of app words) e)
    → (kind_of e ≡ OutOfMemory → ⊥) → None ≡ command_of words
unfolding command_of
refused app words e is fails found =
    elim (fails (ap is_simple_and_free is ∙ simple_and_free)) [
      | inl memory ↦ absurd (found memory)
      | inr among ↦ sym (refused_for (kind_of e) (fault_of taskenv words) (matches_of taskenv words)
          (subst (λ (a : App). IsAmong (kind_of e) (fault_of a words)) is among))
    ]

-- the words under two namings are the same where each name has the same word
options_same : (f g : List ℕ → Option (List ℕ)) → ((name : List ℕ) → f name ≡ g name) → options_by f ≡ options_by g
options_same f g same =
    rw (
      same (codes "step"),
      same (codes "json"),
      same (codes "prefix"),
      same (codes "number"),
      same (codes "size"),
      same (codes "replies"),
      same (codes "nest"),
      same (codes "full"),
      same (codes "seed"),
      same (codes "favour"),
      same (codes "jump"),
      same (codes "shake"),
      same (codes "work"),
      same (codes "wide"),
      same (codes "no-jobs"),
      same (codes "no-main"),
      same (codes "no-delays"),
      same (codes "no-scopes"),
      same (codes "no-shutdown"),
      same (codes "most"),
      same (codes "open"),
    ) refl

-- words that it takes are the command that its matches make
pub taken : (app : App) (words : List (List ℕ)) (m : ArgMatches) (mode : Option (List ℕ)) (options : Options) → app ≡ taskenv
    → (is_simple_and_free app ≡ true → fault_of app words ≡ []) → HasMatchesOf app words m
    → mode ≡ first_value (found_of m) (codes "MODE") → options ≡ options_by (first_value (found_of m)) → command_by mode options ≡ command_of words
unfolding command_of
taken app words m mode options is free matches mode_is options_is =
    let rows : rows_of (found_of m) ≡ matches_of taskenv words = (matches (ap is_simple is ∙ simple)).0 ∙ ap (λ (a : App). matches_of a words) is in
    let none : fault_of taskenv words ≡ [] = ap (λ (a : App). fault_of a words) (sym is) ∙ free (ap is_simple_and_free is ∙ simple_and_free) in
    let in_rows = λ (name : List ℕ). first_value-rows (found_of m) name in
    ap₂ command_by (mode_is ∙ in_rows (codes "MODE")) (options_is ∙ options_same _ (λ name. first_of name (rows_of (found_of m))) in_rows)
    ∙ ap₂ command_unless (sym none) rows
