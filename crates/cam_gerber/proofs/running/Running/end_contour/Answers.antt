use Rattle.std.proofs.Common.{arith}
use Rattle.std.proofs.lemmas.Grind.{common_steps}
use Rattle.cam_gerber.proofs.running.Running.end_contour.Goals as goal

pub returns-then-is_full : goal.returns-then-is_full
returns-then-is_full c = grind (arith)

pub returns : goal.returns
returns c = grind (arith, common_steps)

pub returns-then-is_empty : goal.returns-then-is_empty
returns-then-is_empty c = grind (arith, common_steps)
