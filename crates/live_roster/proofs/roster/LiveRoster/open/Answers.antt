use Rattle.std.proofs.Common.{ap, sym}
use Rattle.live_roster.proofs.Rousing.{stands_at_open}
use Rattle.live_roster.proofs.roster.LiveRoster.open.Goals as goal

pub returns-in-Ok-clause-stands : goal.returns-in-Ok-clause-stands
returns-in-Ok-clause-stands c =
    stands_at_open c.script.inside.workers (rw c.in-Ok.ensures.core c.in_ok-core.ensures.stands) (sym (ap (λ s. s.workers) c.script.view_is))
    c.in-Ok.ensures.awake c.in-Ok.ensures.few
