use Rattle.cam_gerber.proofs.Reading.{means_its_reading}
use Rattle.cam_gerber.proofs.laws.files_mean_what_is_computed.Goals as goal

pub returns : goal.returns
returns c = means_its_reading
