use Rattle.std.proofs.Common.{arith}
use Rattle.std.proofs.lemmas.Grind.{common_steps}
use Rattle.cam_objects.proofs.cells.numbers.ItemNumbers.set.Goals as goal

pub returns-else-place-len : goal.returns-else-place-len
returns-else-place-len c = grind (arith, common_steps)
