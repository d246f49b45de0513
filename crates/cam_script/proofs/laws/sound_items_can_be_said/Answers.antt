use Rattle.cam_script.proofs.SoundWords.{sound_items_lem}
use Rattle.cam_script.proofs.laws.sound_items_can_be_said.Goals as goal

pub returns : goal.returns
returns c = sound_items_lem
