use Rattle.std.proofs.Common.{◌≡◌, ap, eqb, false, refl, sym, ◌∙◌}
use Rattle.std.specs.Prelude.{is_some}
use Rattle.std.proofs.lemmas.Bool.{eqb-false, ne_eqb}
use Rattle.std.proofs.lemmas.Option.{cond_some}
use Rattle.task_model.specs.Seats.{running}
use Rattle.hist_model.specs.Open.{is_guest}
use Rattle.live_core.specs.Books.{work_of}
use Rattle.live_core.specs.declared.books.Books.{Books}
use Rattle.live_core.specs.declared.books.Seat.{Seat}
use Rattle.live_core.proofs.Fitting.{mapped_is_some, not_there}
use Rattle.live_core.proofs.books.Books.is_posting.Goals as goal
use Rattle.live_core.proofs.books.Books.is_posting.Goals.{then-seat-eq0, else-seat-eq0}

pub returns-else-seat-self : goal.returns-else-seat-self
returns-else-seat-self c = λ plan past stand.
    let found = cond_some _ _ _ (sym (c.seat.ensures plan past stand) ∙ c.in-Some.is) in
    let runs : c.is_some.result ≡ is_some (running past c.args.seat) =
    c.is_some.ensures ∙ ap (λ (s : Seat). is_some s.runs) (sym found.1) ∙ mapped_is_some work_of (running past c.args.seat) in
    elim c.if-seat-eq0.branch [
      | then-seat-eq0 w ↦ absurd (eqb-false c.args.seat 0 (sym w.value-is ∙ c.if-seat-self.false) w.if-seat-eq0.true)
      | else-seat-eq0 w ↦
          let guest : is_guest plan c.args.seat ≡ false =
          rw stand.plan_is (ap (λ (b : Books). eqb c.args.seat b.script.workers) (sym c.self.view_is) ∙ sym w.value-is ∙ c.if-seat-self.false) in
          rw (found.0, ne_eqb c.args.seat 0 w.if-seat-eq0.false, guest) runs
    ]

pub returns-in-None : goal.returns-in-None
returns-in-None c = λ plan past stand. rw (not_there _ _ (sym (c.seat.ensures plan past stand) ∙ c.in-None.is)) refl
