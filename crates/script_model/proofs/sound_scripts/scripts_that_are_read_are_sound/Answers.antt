use Rattle.script_model.proofs.Laws.Sound.{reads_sound}
use Rattle.script_model.proofs.sound_scripts.scripts_that_are_read_are_sound.Goals as goal

pub returns : goal.returns
returns c = record { sound = reads_sound }
