use Rattle.std.proofs.Common.{arith}
use Rattle.cam_objects.proofs.checks.inside.stand_on_board.Goals as goal

pub returns : goal.returns
returns c = grind (arith)
