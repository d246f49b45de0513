use Rattle.std.proofs.Common.{arith}
use Rattle.cam_gerber.proofs.object_list.ObjectList.push.Goals as goal

pub returns : goal.returns
returns c = grind (arith)
