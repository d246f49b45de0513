use Rattle.std.proofs.Common.{arith}
use Rattle.cam_xnc.proofs.bytes.pack.Goals as goal

pub returns : goal.returns
returns c = grind (arith)
