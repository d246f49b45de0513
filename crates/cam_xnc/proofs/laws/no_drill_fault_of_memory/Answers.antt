use Rattle.cam_xnc.proofs.LeastFaults.{no_fault_is_memory}
use Rattle.cam_xnc.proofs.laws.no_drill_fault_of_memory.Goals as goal

pub returns : goal.returns
returns c = no_fault_is_memory
