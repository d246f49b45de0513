use Rattle.cam_gerber.proofs.LeastFaults.{tells_least}
use Rattle.cam_gerber.proofs.laws.the_least_gerber_fault_is_told.Goals as goal

pub returns : goal.returns
returns c = tells_least
