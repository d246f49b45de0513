use Rattle.std.proofs.Common.{arith}
use Rattle.cam_gerber.proofs.Outside.{told_outside}
use Rattle.cam_gerber.proofs.built.Built.is_outside.Goals as goal

pub returns : goal.returns
returns c = grind (arith, told_outside)
