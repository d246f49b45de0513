use Rattle.cam_station.proofs.HiddenAttributes.{attributes_show_nowhere}
use Rattle.cam_station.proofs.laws.attributes_show_nowhere.Goals as goal

pub returns : goal.returns
returns c = attributes_show_nowhere
