use Rattle.std.proofs.Common.{arith}
use Rattle.cam_gerber.proofs.running.Running.set_mirror.Goals as goal

pub returns : goal.returns
returns c = grind (arith)
