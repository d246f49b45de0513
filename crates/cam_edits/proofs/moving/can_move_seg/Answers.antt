use Rattle.std.proofs.Common.{arith}
use Rattle.cam_edits.proofs.moving.can_move_seg.Goals as goal

pub returns-in-Line : goal.returns-in-Line
returns-in-Line c = grind (arith)

pub returns-then-can_move_point : goal.returns-then-can_move_point
returns-then-can_move_point c = grind (arith)

pub returns-else-can_move_point : goal.returns-else-can_move_point
returns-else-can_move_point c = grind (arith)
