-- What judges an entry: what its seat entered in its place, or that nothing of the seat may come.
-- Cited by `Replay::follow`.
use Rattle.std.proofs.Common.{◌≡◌, ℕ, Bool, true, false, [], ◌∷◌, ◌++◌, refl, sym, ap, subst, ◌∙◌}
use Rattle.std.proofs.lemmas.Bool.{and_parts, false_from_ne_true, true≢false}
use Rattle.std.specs.Prelude.{◌↔◌, nat_le, Ok}
use Rattle.task_base.specs.declared.entry.Entry.{Entry}
use Rattle.task_base.specs.declared.entry.Kind.{Kind}
use Rattle.task_base.specs.declared.entry.Kind.TheVariants as kinds
use Rattle.task_model.specs.Time.{now_of}
use Rattle.hist_model.specs.Allowed.{is_allowed, may_come}
use Rattle.hist_model.specs.Legal.{IsLegal}
use Rattle.hist_model.specs.Moments.{moment_behind}
use Rattle.hist_model.specs.Open.{IsClosed}
use Rattle.hist_model.proofs.Laws.Due.{judged}
use Rattle.env_core.specs.Views.{EnvView}
use Rattle.env_step.specs.Steps.{IsOfReading, Steps}
use Rattle.log_replay.specs.Follows.{Follows}

-- an entry whose kind may not come is refused
pub may_not : (before after : EnvView) (entry : Entry) → may_come before.script before.history entry.seat entry.kind ≡ false
    → Follows before after entry false
may_not before after entry barred = record {
  judged = sym (false_from_ne_true (is_allowed before.script before.history entry)
      (λ allowed. true≢false (sym (and_parts (nat_le entry.seat before.script.workers)
      (may_come before.script before.history entry.seat entry.kind) allowed).1 ∙ barred)));
  goes_on = λ yes. absurd cc;
}

module _ {before after : EnvView} (entry : Entry) (given : Kind) (reading : ℕ) (closed : IsClosed before.script)
    (legal : IsLegal before.script before.history) (made : Steps before after entry.seat reading (Ok given))
    (reads : (now : ℕ) → entry.kind ≡ kinds.Tick now → reading ≡ now) where
  -- the entry may come exactly where its seat made it
  is_judged : (may_come before.script before.history entry.seat entry.kind ≡ true) ↔ (given ≡ entry.kind)
  is_judged = judged before.script before.history entry.seat given entry.kind closed legal
      (and_parts (nat_le entry.seat before.script.workers) (may_come before.script before.history entry.seat given) made.0.allowed).1
      (λ other now given_is asked_is.
      subst (IsOfReading before.history reading) given_is made.1 ∙ ap (moment_behind (now_of before.history)) (reads now asked_is))

  -- so the answer of a comparison is the answer
  pub compared : (same : Bool) → (same ≡ true) ↔ (given ≡ entry.kind) → Follows before after entry same
  compared true is =
      let e = is.0 refl in
      record {
        judged = sym (ap (λ k. is_allowed before.script before.history (record entry { kind = k })) (sym e) ∙ made.0.allowed);
        goes_on = λ yes. made.0.entered ∙ ap (λ k. record before { history = before.history ++ (record entry { kind = k }) ∷ [] }) e;
      }
  compared false is = may_not before after entry (false_from_ne_true (may_come before.script before.history entry.seat entry.kind)
      (λ may. true≢false (sym (is.1 (is_judged.0 may)))))
