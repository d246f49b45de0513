use Rattle.std.proofs.Common.{arith}
use Rattle.std.proofs.lemmas.Grind.{common_steps}
use Rattle.cam_ask.proofs.lines.push_tool.Goals as goal

pub returns : goal.returns
returns c = grind (arith, common_steps)
