-- The entries bound of a valid script, and its parts, fit a counter.
-- Cited by `bound.rt`.
use Rattle.std.proofs.Common.{◌<◌, ◌^◌, arith}
use Rattle.task_base.specs.Plan.{Plan}
use Rattle.script_model.specs.Bound.{events_bound_of}
use Rattle.script_model.specs.Canonical.{IsValid, canonical}
use Rattle.script_model.proofs.Laws.Sound.{reads_sound}

-- the bound of a valid script fits a counter
pub bound_fits : (script : Plan) → IsValid script → events_bound_of script < 2 ^ 32
bound_fits script valid = let few = (reads_sound (canonical script) script valid).limits.few_events in omega (arith, few)
