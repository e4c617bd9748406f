-- A phase never goes back: what it forbids stays forbidden.
-- Cited by `Laws/Order/Keys`, `Laws/Shutdown/Places`, `phases.rt`, `env_shared`.
use Rattle.std.proofs.Common.{◌≡◌, ℕ, true, List, [], ◌∷◌, ◌++◌, refl, sym, ap, subst, ◌∙◌}
use Rattle.std.specs.Prelude.{fold}
use Rattle.std.proofs.lemmas.Bool.{true≢false}
use Rattle.std.proofs.lemmas.List.Sums.{fold-append}
use Rattle.task_base.specs.Plan.{Plan}
use Rattle.task_base.specs.declared.entry.Entry.{Entry}
use Rattle.task_base.specs.declared.entry.Kind.{Kind}
use Rattle.task_base.specs.declared.entry.Kind.TheVariants as kinds
use Rattle.task_traits.specs.Behaviour.{forbids}
use Rattle.task_traits.specs.declared.phase.Phase.{Phase}
use Rattle.task_traits.specs.declared.phase.Phase.TheVariants as phases
use Rattle.task_traits.specs.declared.traits.Behaviour.{Behaviour}
use Rattle.task_traits.specs.declared.traits.Behaviour.TheVariants as behaviours
use Rattle.task_model.specs.Phase.{phase_of, phase_after, started_from}
use Rattle.task_model.specs.Posts.{Posted}
use Rattle.task_model.specs.Refusal.{effective_at, is_refused, is_forbidden, behaviour_of_job, is_job_forbidden}

-- what holds of a phase, and of the next one where it holds of the one before, holds of the phase of each longer history
phase_keeps : (P : Phase → Type 0) → ((phase : Phase) (kind : Kind) → P phase → P (phase_after phase kind)) → (past rest : List Entry) → P (phase_of past)
    → P (phase_of (past ++ rest))
unfolding phase_of
phase_keeps P next past rest h = subst P (sym (fold-append (λ now x. phase_after now x.kind) phases.Running past rest)) (walk (phase_of past) rest h)
  where
    walk : (phase : Phase) (rest : List Entry) → P phase → P (fold (λ now x. phase_after now x.kind) phase rest)
    walk phase [] k = k
    walk phase (e ∷ rest) k = walk (phase_after phase e.kind) rest (next phase e.kind k)

-- what the phase of a past forbids, the phase of each longer history forbids
pub forbids_on : (past rest : List Entry) (b : Behaviour) → forbids (phase_of past) b ≡ true → forbids (phase_of (past ++ rest)) b ≡ true
forbids_on past rest b = phase_keeps (λ phase. forbids phase b ≡ true) next past rest
  where
    started : (phase : Phase) (c : Behaviour) → forbids phase c ≡ true → forbids (started_from phase) c ≡ true
    started phases.Running c h = absurd (true≢false (sym h))
    started phases.Started c h = h
    started phases.Done c h = h

    next : (phase : Phase) (kind : Kind) → forbids phase b ≡ true → forbids (phase_after phase kind) b ≡ true
    next phase kinds.Shutdown h = started phase b h
    next phase kinds.Done h = refl
    next phase kind h = h

-- only a running phase comes of a running one: once started, it never runs again
pub runs_only_from_running : (past rest : List Entry) → phase_of (past ++ rest) ≡ phases.Running → phase_of past ≡ phases.Running
runs_only_from_running past rest h = at (phase_of past) refl
  where
    allows : phase_of (past ++ rest) ≡ phases.Running → forbids (phase_of past) behaviours.SkipOnShutdown ≡ true → ⊥
    allows k forbidden = true≢false (sym (forbids_on past rest behaviours.SkipOnShutdown forbidden) ∙ ap (λ p. forbids p behaviours.SkipOnShutdown) k)

    at : (phase : Phase) → phase_of past ≡ phase → phase ≡ phases.Running
    at phases.Running is = refl
    at phases.Started is = absurd (allows h (ap (λ p. forbids p behaviours.SkipOnShutdown) is))
    at phases.Done is = absurd (allows h (ap (λ p. forbids p behaviours.SkipOnShutdown) is))

-- once done, it is done for ever
pub done_for_ever : (past rest : List Entry) → phase_of past ≡ phases.Done → phase_of (past ++ rest) ≡ phases.Done
done_for_ever = phase_keeps (λ phase. phase ≡ phases.Done) next
  where
    next : (phase : Phase) (kind : Kind) → phase ≡ phases.Done → phase_after phase kind ≡ phases.Done
    next phase kinds.Shutdown h = ap started_from h
    next phase kinds.Done h = refl
    next phase kind h = h

-- a task that is refused at one place would be refused at each later one
pub refused_on : (script : Plan) (past rest : List Entry) (runner delay : ℕ) → is_refused script past runner delay ≡ true
    → is_refused script (past ++ rest) runner delay ≡ true
refused_on script past rest runner delay = forbids_on past rest (effective_at script runner delay)

-- an accepted task that may not start may not start later
pub forbidden_on : (script : Plan) (past rest : List Entry) (p : Posted) → is_forbidden script past p ≡ true → is_forbidden script (past ++ rest) p ≡ true
forbidden_on script past rest p = refused_on script past rest p.home p.delay

-- a job that is forbidden at one place is forbidden at each later one
pub job_forbidden_on : (script : Plan) (past rest : List Entry) (j : ℕ) → is_job_forbidden script past j ≡ true
    → is_job_forbidden script (past ++ rest) j ≡ true
job_forbidden_on script past rest j = forbids_on past rest (behaviour_of_job script j)
