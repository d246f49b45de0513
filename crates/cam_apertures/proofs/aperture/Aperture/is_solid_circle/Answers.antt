use Rattle.std.proofs.Common.{arith}
use Rattle.cam_apertures.proofs.aperture.Aperture.is_solid_circle.Goals as goal

pub returns-in_default : goal.returns-in_default
returns-in_default c = grind (arith)

pub returns-in-Circle : goal.returns-in-Circle
returns-in-Circle c = grind (arith)
