use Rattle.std.proofs.Common.{arith}
use Rattle.std.proofs.lemmas.Grind.{common_steps}
use Rattle.cam_writers.proofs.gerber_macros.push_shape.Goals as goal

pub returns-in_ok-push_point-in-Bar : goal.returns-in_ok-push_point-in-Bar
returns-in_ok-push_point-in-Bar c = grind (arith, common_steps)

pub returns-in_ok-push_length-in-Rect-2 : goal.returns-in_ok-push_length-in-Rect-2
returns-in_ok-push_length-in-Rect-2 c = grind (arith, common_steps)

pub returns-in_ok-push_length-in-Disc : goal.returns-in_ok-push_length-in-Disc
returns-in_ok-push_length-in-Disc c = grind (arith, common_steps)
