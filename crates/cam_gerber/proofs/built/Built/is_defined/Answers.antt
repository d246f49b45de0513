use Rattle.std.proofs.Common.{arith}
use Rattle.cam_gerber.proofs.Dictionary.{found_number}
use Rattle.cam_gerber.proofs.built.Built.is_defined.Goals as goal

pub returns-in-Some : goal.returns-in-Some
returns-in-Some c = grind (arith, found_number)
