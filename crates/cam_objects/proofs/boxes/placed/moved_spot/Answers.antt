use Rattle.std.proofs.Common.{arith, rules}
use Rattle.std.proofs.lemmas.Int.{ints}
use Rattle.cam_objects.proofs.Placed.{same_spot}
use Rattle.cam_objects.proofs.boxes.placed.moved_spot.Goals as goal

pub returns : goal.returns
returns c = same_spot _ _ (omega (arith, ints)) (omega (arith, ints))

pub overflow_add-result : goal.overflow_add-result
overflow_add-result c = search rules

pub overflow_mul-result-2 : goal.overflow_mul-result-2
overflow_mul-result-2 c = grind (arith)

pub overflow_add-result-2 : goal.overflow_add-result-2
overflow_add-result-2 c = search rules

pub overflow_mul-result : goal.overflow_mul-result
overflow_mul-result c = grind (arith)
