use Rattle.std.proofs.Common.{arith}
use Rattle.cam_apertures.proofs.primitives.Primitives.are_sound.Goals as goal

pub returns : goal.returns
returns c = grind (arith)
