use Rattle.std.proofs.Common.{arith}
use Rattle.std.proofs.lemmas.Grind.{common_steps}
use Rattle.cam_tiles.proofs.raster.Raster.new.Goals as goal

pub returns-then-not-is_accepted-clause-refused : goal.returns-then-not-is_accepted-clause-refused
returns-then-not-is_accepted-clause-refused c = grind (arith)

pub invariant_of-result : goal.invariant_of-result
invariant_of-result c = grind (arith, common_steps)
