use Rattle.std.proofs.Common.{arith}
use Rattle.cam_objects.proofs.BesideLines.{left_far, right_far}
use Rattle.cam_objects.proofs.boxes.lines.lies_beyond.Goals as goal

pub returns-then-lies_left : goal.returns-then-lies_left
returns-then-lies_left c = λ is s inside. grind (arith, left_far)

pub returns-else-lies_left : goal.returns-else-lies_left
returns-else-lies_left c = λ is s inside. grind (arith, right_far)
