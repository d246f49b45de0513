use Rattle.cam_gerber.proofs.Reading.{means_one_thing}
use Rattle.cam_gerber.proofs.laws.files_mean_one_thing.Goals as goal

pub returns : goal.returns
returns c = means_one_thing
