use Rattle.std.proofs.Common.{arith}
use Rattle.std.proofs.lemmas.Grind.{common_steps}
use Rattle.cam_tiles.proofs.masks.field.Field.new.Goals as goal

pub levels-requires : goal.levels-requires
levels-requires c = assumption arith

pub height-requires-clause-row : goal.height-requires-clause-row
height-requires-clause-row c = grind (arith)

pub invariant_of-result : goal.invariant_of-result
invariant_of-result c = grind (arith, common_steps)

pub height-requires-clause-levels : goal.height-requires-clause-levels
height-requires-clause-levels c = assumption arith
