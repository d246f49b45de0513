use Rattle.cam_gerber.proofs.LeastFaults.{faultless_files}
use Rattle.cam_gerber.proofs.laws.layers_come_from_faultless_files.Goals as goal

pub returns : goal.returns
returns c = faultless_files
