use Rattle.cam_xnc.proofs.SoundReadings.{reading_is_sound}
use Rattle.cam_xnc.proofs.laws.drill_layers_are_sound.Goals as goal

pub returns : goal.returns
returns c = reading_is_sound
