use Rattle.std.proofs.Common.{arith}
use Rattle.cam_apertures.proofs.aperture.ApertureClone.clone.Goals as goal

pub returns-in-Rect : goal.returns-in-Rect
returns-in-Rect c = grind (arith)

pub returns-in-Obround : goal.returns-in-Obround
returns-in-Obround c = grind (arith)

pub returns-in-Circle : goal.returns-in-Circle
returns-in-Circle c = grind (arith)

pub returns-in_ok-clone-in-Prims : goal.returns-in_ok-clone-in-Prims
returns-in_ok-clone-in-Prims c = grind (arith)
