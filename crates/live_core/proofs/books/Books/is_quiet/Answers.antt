use Rattle.std.proofs.Common.{ap, ◌∙◌}
use Rattle.std.specs.List.{list_all}
use Rattle.live_core.specs.Books.{is_idle}
use Rattle.live_core.proofs.Fitting.{all_quiet}
use Rattle.live_core.proofs.books.Books.is_quiet.Goals as goal

pub returns : goal.returns
returns c = λ plan past stand. c.are_idle.ensures ∙ ap (list_all is_idle) c.as_slice.ensures.value
    ∙ all_quiet plan past c.args.self.now.seats.items stand.seats
