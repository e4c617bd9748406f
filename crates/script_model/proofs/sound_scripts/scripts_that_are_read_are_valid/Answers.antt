use Rattle.script_model.proofs.Laws.Canonical.{reads_valid, sound_is_valid}
use Rattle.script_model.proofs.sound_scripts.scripts_that_are_read_are_valid.Goals as goal

pub returns : goal.returns
returns c = record { valid = reads_valid; every_sound = sound_is_valid }
