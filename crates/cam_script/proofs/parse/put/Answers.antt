use Rattle.std.proofs.Common.{arith}
use Rattle.cam_script.proofs.Forms.{putting}
use Rattle.cam_script.proofs.parse.put.Goals as goal

pub returns-else-is_plot : goal.returns-else-is_plot
returns-else-is_plot c = grind (arith, putting)

pub returns-then-not-is_name : goal.returns-then-not-is_name
returns-then-not-is_name c = grind (arith)

pub returns-then-is_plot : goal.returns-then-is_plot
returns-then-is_plot c = grind (arith, putting)
