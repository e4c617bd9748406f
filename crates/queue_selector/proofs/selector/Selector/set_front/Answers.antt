use Rattle.std.proofs.Common.{ap, ◌∙◌, List}
use Rattle.queue_selector.specs.declared.row.Row.{Row}
use Rattle.queue_selector.specs.Selecting.{Selecting, with_front}
use Rattle.queue_selector.proofs.Parts.{put_put}
use Rattle.queue_selector.proofs.selector.Selector.set_front.Goals as goal

pub returns : goal.returns
returns c =
    c.open.ensures
    ∙ ap (λ (s : Selecting). with_front s c.args.queue c.args.lane c.args.order) c.close.ensures
    ∙ ap (λ (rows : List Row). record c.args.self.now { rows = rows })
    (put_put c.args.self.now.rows c.args.queue c.args.lane c.args.order c.requires.queue)
