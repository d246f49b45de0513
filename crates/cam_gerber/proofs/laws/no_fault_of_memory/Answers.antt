use Rattle.cam_gerber.proofs.LeastFaults.{no_fault_is_memory}
use Rattle.cam_gerber.proofs.laws.no_fault_of_memory.Goals as goal

pub returns : goal.returns
returns c = no_fault_is_memory
