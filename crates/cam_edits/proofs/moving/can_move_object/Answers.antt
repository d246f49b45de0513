use Rattle.std.proofs.Common.{arith}
use Rattle.cam_edits.proofs.moving.can_move_object.Goals as goal

pub returns-then-can_move_point-3 : goal.returns-then-can_move_point-3
returns-then-can_move_point-3 c = grind (arith)

pub returns-else-can_move_point : goal.returns-else-can_move_point
returns-else-can_move_point c = grind (arith)

pub returns-then-can_move_point : goal.returns-then-can_move_point
returns-then-can_move_point c = grind (arith)

pub returns-else-can_move_point-4 : goal.returns-else-can_move_point-4
returns-else-can_move_point-4 c = grind (arith)

pub returns-in-Flash : goal.returns-in-Flash
returns-in-Flash c = grind (arith)

pub returns-then-can_move_point-4 : goal.returns-then-can_move_point-4
returns-then-can_move_point-4 c = grind (arith)

pub returns-else-can_move_point-3 : goal.returns-else-can_move_point-3
returns-else-can_move_point-3 c = grind (arith)
