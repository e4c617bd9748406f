use Rattle.env_roster.proofs.Resting.{all_awake}
use Rattle.env_roster.proofs.roster.Roster.new.Goals as goal

pub invariant_of-result : goal.invariant_of-result
invariant_of-result g c = all_awake c.in_ok-env.env.value c.in_ok-notes.notes c.args.workers c.in_ok-notes.ensures (rw c.in_ok-env.ensures.ok c.requires)
