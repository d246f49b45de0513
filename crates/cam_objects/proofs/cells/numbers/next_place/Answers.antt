use Rattle.std.proofs.Common.{arith}
use Rattle.cam_objects.proofs.cells.numbers.next_place.Goals as goal

pub loop-chunk-preserved : goal.loop-chunk-preserved
loop-chunk-preserved c = grind (arith)

pub returns-then-any_is-clause-others : goal.returns-then-any_is-clause-others
returns-then-any_is-clause-others c = grind (arith)
