use Rattle.std.proofs.Common.{refl}
use Rattle.hist_model.specs.Script.{current, is_wanted}
use Rattle.worked_calls.proofs.one_env.job_yields.Goals as goal

pub try_idle-requires : goal.try_idle-requires
unfolding is_wanted current
try_idle-requires g c = rw c.do_items.ensures (record { driver = refl; wanted = refl })
