use Rattle.std.proofs.Common.{arith}
use Rattle.cam_edits.proofs.moving.can_move_drill_item.Goals as goal

pub returns-then-not-is_shiftable : goal.returns-then-not-is_shiftable
returns-then-not-is_shiftable c = grind (arith)

pub returns-in-Hit : goal.returns-in-Hit
returns-in-Hit c = grind (arith)

pub returns-in-Rout : goal.returns-in-Rout
returns-in-Rout c = grind (arith)
