use Rattle.std.proofs.Common.{arith}
use Rattle.cam_gerber.proofs.built.Built.is_of_aperture.Goals as goal

pub returns-in-Aperture : goal.returns-in-Aperture
returns-in-Aperture c = grind (arith)

pub returns-in_default-matches : goal.returns-in_default-matches
returns-in_default-matches c = grind (arith)

pub returns-in_default-find : goal.returns-in_default-find
returns-in_default-find c = grind (arith)

pub returns-in_default : goal.returns-in_default
returns-in_default c = grind (arith)
