use Rattle.cam_edits.proofs.SoundEdits.{edits_stay_sound}
use Rattle.cam_edits.proofs.laws.edits_stay_sound.Goals as goal

pub returns : goal.returns
returns c = edits_stay_sound
