use Rattle.std.proofs.Common.{arith}
use Rattle.cam_gerber.proofs.running.Running.begin_region.Goals as goal

pub returns : goal.returns
returns c = grind (arith)
