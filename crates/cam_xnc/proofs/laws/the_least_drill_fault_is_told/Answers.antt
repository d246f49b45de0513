use Rattle.cam_xnc.proofs.LeastFaults.{tells_least}
use Rattle.cam_xnc.proofs.laws.the_least_drill_fault_is_told.Goals as goal

pub returns : goal.returns
returns c = tells_least
