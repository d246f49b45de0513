use Rattle.std.proofs.Common.{arith, rules}
use Rattle.std.proofs.lemmas.Grind.{common_steps}
use Rattle.cam_gerber.proofs.state.plus.Goals as goal

pub returns : goal.returns
returns c = search rules

pub overflow_add-result : goal.overflow_add-result
overflow_add-result c = grind (arith, common_steps)
