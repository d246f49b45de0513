use Rattle.std.proofs.Common.{arith}
use Rattle.std.proofs.lemmas.Grind.{common_steps}
use Rattle.cam_objects.proofs.cells.numbers.ItemNumbers.insert.Goals as goal

pub returns-then-len-capacity-clause-came : goal.returns-then-len-capacity-clause-came
returns-then-len-capacity-clause-came c = grind (arith, common_steps)

pub returns-clause-came : goal.returns-clause-came
returns-clause-came c = grind (arith, common_steps)

pub returns-then-place-len-clause-came : goal.returns-then-place-len-clause-came
returns-then-place-len-clause-came c = grind (arith, common_steps)
