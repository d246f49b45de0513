use Rattle.cam_gerber.proofs.SoundReadings.{reading_is_sound}
use Rattle.cam_gerber.proofs.laws.layers_are_sound.Goals as goal

pub returns : goal.returns
returns c = reading_is_sound
