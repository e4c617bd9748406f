use Rattle.pool_core.proofs.Sources.Places.{have_job_places, have_places, job_place_kept}
use Rattle.pool_core.proofs.Calls.Shutdown.{stands_at_shutdown}
use Rattle.std.proofs.Common.{ap, length, refl, ◌∙◌}
use Rattle.std.proofs.lemmas.List.{length-map}
use Rattle.pool_core.proofs.pool.Pool.start_shutdown.Goals as goal

pub refresh_all-requires : goal.refresh_all-requires
refresh_all-requires c = have_places c.requires.0 c.requires.1 c.args.self.now c.args.self.now.priorities c.start_shutdown.new.self c.purge.new.self
    c.requires.2.stands refl (ap (λ held. length held.sequences) c.purge.ensures.left ∙ length-map c.args.self.now.sequences.sequences _)

pub refresh_jobs-requires-clause-places : goal.refresh_jobs-requires-clause-places
refresh_jobs-requires-clause-places c j there = rw c.refresh_all.ensures (job_place_kept _ _ j
    (have_job_places c.requires.0 c.requires.1 c.args.self.now _ _ c.requires.2.stands j (rw c.refresh_all.ensures at there)))

pub returns : goal.returns
returns c script past seat in_phase = rw (c.refresh_jobs.ensures, c.refresh_all.ensures, c.purge.ensures.left, c.start_shutdown.ensures)
    (stands_at_shutdown script past c.args.self.now seat c.purge.result in_phase)
