use Rattle.cam_xnc.proofs.LeastFaults.{faultless_files}
use Rattle.cam_xnc.proofs.laws.drill_layers_come_from_faultless_files.Goals as goal

pub returns : goal.returns
returns c = faultless_files
