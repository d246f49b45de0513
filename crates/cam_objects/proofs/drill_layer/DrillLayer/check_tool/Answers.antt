use Rattle.std.proofs.Common.{arith}
use Rattle.cam_objects.proofs.drill_layer.DrillLayer.check_tool.Goals as goal

pub returns-then-fits_tool : goal.returns-then-fits_tool
returns-then-fits_tool c = grind (arith)

pub returns-else-fits_tool : goal.returns-else-fits_tool
returns-else-fits_tool c = grind (arith)
