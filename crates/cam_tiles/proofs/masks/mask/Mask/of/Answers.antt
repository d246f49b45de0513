use Rattle.std.proofs.Common.{arith}
use Rattle.std.proofs.lemmas.Grind.{common_steps}
use Rattle.cam_tiles.proofs.masks.mask.Mask.of.Goals as goal

pub returns-in-Closed : goal.returns-in-Closed
returns-in-Closed c = grind (arith)

pub returns-in_default : goal.returns-in_default
returns-in_default c = grind (arith)

pub add-requires-clause-heights : goal.add-requires-clause-heights
add-requires-clause-heights c = grind (arith, common_steps)
