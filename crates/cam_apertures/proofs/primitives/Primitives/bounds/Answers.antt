use Rattle.std.proofs.Common.{arith}
use Rattle.cam_apertures.proofs.TurnedBoxes.{prims_turned}
use Rattle.cam_apertures.proofs.primitives.Primitives.bounds.Goals as goal

pub returns : goal.returns
returns c = grind (arith, prims_turned)
