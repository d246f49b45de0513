use Rattle.cam_station.proofs.Reached.{sound_law}
use Rattle.cam_station.proofs.laws.documents_stay_sound.Goals as goal

pub returns : goal.returns
returns c = sound_law
