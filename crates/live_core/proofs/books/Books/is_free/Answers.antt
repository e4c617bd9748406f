use Rattle.std.proofs.Common.{refl, sym, ◌∙◌}
use Rattle.std.proofs.lemmas.Option.{cond_some}
use Rattle.live_core.proofs.Fitting.{free_there, not_there}
use Rattle.live_core.proofs.books.Books.is_free.Goals as goal

pub returns-in-Some : goal.returns-in-Some
returns-in-Some c = λ plan past stand.
    let found = cond_some _ _ _ (sym (c.seat.ensures plan past stand) ∙ c.in-Some.is) in
    rw found.0 (c.is_idle.ensures ∙ free_there past c.args.seat c.in-Some.at found.1)

pub returns-in-None : goal.returns-in-None
returns-in-None c = λ plan past stand. rw (not_there _ _ (sym (c.seat.ensures plan past stand) ∙ c.in-None.is)) refl
