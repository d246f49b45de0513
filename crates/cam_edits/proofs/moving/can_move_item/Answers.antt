use Rattle.std.proofs.Common.{arith}
use Rattle.cam_edits.proofs.moving.can_move_item.Goals as goal

pub returns-in-One : goal.returns-in-One
returns-in-One c = grind (arith)

pub returns-then-not-is_shiftable : goal.returns-then-not-is_shiftable
returns-then-not-is_shiftable c = grind (arith)

pub returns-in-Repeat : goal.returns-in-Repeat
returns-in-Repeat c = grind (arith)
