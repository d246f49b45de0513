use Rattle.std.proofs.Common.{arith}
use Rattle.cam_writers.proofs.drill_text.DrillText.write_item.Goals as goal

pub returns-in_ok-select-in-Rout : goal.returns-in_ok-select-in-Rout
returns-in_ok-select-in-Rout c = grind (arith)

pub returns-in_ok-set_drill_mode-in-Hit : goal.returns-in_ok-set_drill_mode-in-Hit
returns-in_ok-set_drill_mode-in-Hit c = grind (arith)
