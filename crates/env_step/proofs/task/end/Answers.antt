use Rattle.std.proofs.Common.{refl}
use Rattle.env_step.proofs.Behind.{free_behind_end}
use Rattle.env_step.proofs.task.end.Goals as goal

pub returns-then-seat-eq0-clause-free : goal.returns-then-seat-eq0-clause-free
returns-then-seat-eq0-clause-free c nothing = free_behind_end c.main_end.ensures (λ now. refl) (λ now. refl) nothing

pub returns-else-seat-eq0-clause-free : goal.returns-else-seat-eq0-clause-free
returns-else-seat-eq0-clause-free c nothing = free_behind_end c.end.ensures (λ now. refl) (λ now. refl) nothing

pub returns-then-seat-eq0-clause-reading : goal.returns-then-seat-eq0-clause-reading
returns-then-seat-eq0-clause-reading c reading = tt

pub returns-else-seat-eq0-clause-reading : goal.returns-else-seat-eq0-clause-reading
returns-else-seat-eq0-clause-reading c reading = tt
