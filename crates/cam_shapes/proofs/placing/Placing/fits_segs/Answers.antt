use Rattle.std.proofs.Common.{arith}
use Rattle.cam_shapes.proofs.placing.Placing.fits_segs.Goals as goal

pub returns : goal.returns
returns c = grind (arith)
