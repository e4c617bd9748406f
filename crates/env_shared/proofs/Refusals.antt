-- What is refused behind a shutdown.
-- Cited by `SharedDesk::shut_to`.
use Rattle.std.proofs.Common.{◌≡◌, ◌≢◌, ℕ, suc, true, List, [], ◌∷◌, ◌++◌, take, drop, refl, sym, ap, subst, ◌∙◌, append_assoc}
use Rattle.task_base.specs.declared.entry.Entry.{Entry}
use Rattle.task_base.specs.declared.entry.Kind.{Kind}
use Rattle.task_base.specs.declared.entry.Kind.TheVariants as kinds
use Rattle.task_traits.specs.Behaviour.{forbids}
use Rattle.task_traits.specs.declared.phase.Phase.{Phase}
use Rattle.task_traits.specs.declared.phase.Phase.TheVariants as phases
use Rattle.task_traits.specs.declared.traits.Behaviour.{Behaviour}
use Rattle.task_traits.specs.declared.traits.Behaviour.TheVariants as behaviours
use Rattle.task_base.specs.Entries.{starts_shutdown}
use Rattle.task_model.specs.Phase.{phase_of, phase_after, started_from}
use Rattle.task_model.proofs.Growth.{phase_of_push}
use Rattle.hist_model.specs.Views.{IsPrefix}
use Rattle.hist_model.proofs.Laws.AtPlaces.{parted_at}
use Rattle.hist_model.proofs.Laws.Phases.{forbids_on}
use Rattle.turn_table.specs.Shutdowns.{IsShutdownAt}

-- once shutdown was started, all but block work is forbidden
forbids_started : (now : Phase) (b : Behaviour) → b ≢ behaviours.BlockShutdown → forbids (started_from now) b ≡ true
forbids_started phases.Running behaviours.ContinueOnShutdown ne = refl
forbids_started phases.Running behaviours.SkipOnShutdown ne = refl
forbids_started phases.Running behaviours.BlockShutdown ne = absurd (ne refl)
forbids_started phases.Started behaviours.ContinueOnShutdown ne = refl
forbids_started phases.Started behaviours.SkipOnShutdown ne = refl
forbids_started phases.Started behaviours.BlockShutdown ne = absurd (ne refl)
forbids_started phases.Done b ne = refl

-- so it is behind the entry by which shutdown starts
forbids_behind : (now : Phase) (kind : Kind) (b : Behaviour) → starts_shutdown kind ≡ true → b ≢ behaviours.BlockShutdown → forbids (phase_after now kind) b ≡ true
forbids_behind now kinds.Shutdown b is ne = forbids_started now b ne
forbids_behind now kind b is ne = absurd cc

-- and ever after
pub refuses : (seen later : List Entry) (place : ℕ) (b : Behaviour) → IsShutdownAt seen place → b ≢ behaviours.BlockShutdown → IsPrefix seen later
    → forbids (phase_of later) b ≡ true
refuses seen later place b at ne longer =
    let front = take place seen in let rest = drop (suc place) seen in
    let here : forbids (phase_of (front ++ at.entry ∷ [])) b ≡ true
    = ap (λ phase. forbids phase b) (phase_of_push front at.entry) ∙ forbids_behind (phase_of front) at.entry.kind b at.is ne in
    let parted : later ≡ (front ++ at.entry ∷ []) ++ (rest ++ longer.0)
    = longer.1 ∙ ap (λ l. l ++ longer.0) (sym (parted_at seen place at.entry at.stands)) ∙ append_assoc front (at.entry ∷ rest) longer.0
    ∙ sym (append_assoc front (at.entry ∷ []) (rest ++ longer.0)) in
    subst (λ l. forbids (phase_of l) b ≡ true) (sym parted) (forbids_on (front ++ at.entry ∷ []) (rest ++ longer.0) b here)
