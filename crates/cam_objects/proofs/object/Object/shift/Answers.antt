use Rattle.std.proofs.Common.{arith}
use Rattle.cam_objects.proofs.object.Object.shift.Goals as goal

pub returns-in-Region : goal.returns-in-Region
returns-in-Region c = grind (arith)

pub returns-in-Flash : goal.returns-in-Flash
returns-in-Flash c = grind (arith)

pub returns-in-Arc : goal.returns-in-Arc
returns-in-Arc c = grind (arith)

pub returns-in-Draw : goal.returns-in-Draw
returns-in-Draw c = grind (arith)
