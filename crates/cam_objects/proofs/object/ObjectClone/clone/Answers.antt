use Rattle.std.proofs.Common.{arith}
use Rattle.cam_objects.proofs.object.ObjectClone.clone.Goals as goal

pub returns-in-Flash : goal.returns-in-Flash
returns-in-Flash c = grind (arith)

pub returns-in-Draw : goal.returns-in-Draw
returns-in-Draw c = grind (arith)

pub returns-in-Arc : goal.returns-in-Arc
returns-in-Arc c = grind (arith)

pub returns-in_ok-contour-in-Region : goal.returns-in_ok-contour-in-Region
returns-in_ok-contour-in-Region c = grind (arith)
