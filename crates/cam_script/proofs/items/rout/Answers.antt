use Rattle.std.proofs.Common.{arith}
use Rattle.std.proofs.lemmas.Grind.{common_steps}
use Rattle.cam_script.proofs.items.rout.Goals as goal

pub returns-in_err-points : goal.returns-in_err-points
returns-in_err-points c = grind (arith, common_steps)

pub returns-then-point_count-eq0 : goal.returns-then-point_count-eq0
returns-then-point_count-eq0 c = grind (arith)

pub returns : goal.returns
returns c = grind (arith)
