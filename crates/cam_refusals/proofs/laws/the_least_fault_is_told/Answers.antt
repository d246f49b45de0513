use Rattle.cam_refusals.proofs.FileFaults.{tells_least_fault}
use Rattle.cam_refusals.proofs.laws.the_least_fault_is_told.Goals as goal

pub returns : goal.returns
returns c = tells_least_fault
