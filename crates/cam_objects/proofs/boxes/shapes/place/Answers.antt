use Rattle.std.proofs.Common.{arith, rules}
use Rattle.cam_objects.proofs.boxes.shapes.place.Goals as goal

pub returns : goal.returns
returns c = search rules

pub overflow_mul-result-2 : goal.overflow_mul-result-2
overflow_mul-result-2 c = grind (arith)
