use Rattle.std.proofs.Common.{arith}
use Rattle.cam_apertures.proofs.boxes.has_place.Goals as goal

pub returns-in-Empty : goal.returns-in-Empty
returns-in-Empty c = grind (arith)

pub returns-in-Closed : goal.returns-in-Closed
returns-in-Closed c = grind (arith)
