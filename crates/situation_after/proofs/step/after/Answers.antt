use Rattle.situation_after.proofs.Counted.{fits_onward}
use Rattle.situation_after.proofs.step.after.Goals as goal

pub fitting_after-requires : goal.fitting_after-requires
fitting_after-requires c = fits_onward c.args.script.now c.args.s.now c.args.seat c.args.kind c.requires
