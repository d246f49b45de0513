use Rattle.std.proofs.Common.{arith, rules}
use Rattle.std.proofs.lemmas.Int.{ints}
use Rattle.cam_objects.proofs.Placed.{same_spot}
use Rattle.cam_objects.proofs.image.relative.Goals as goal

pub returns-clause-value : goal.returns-clause-value
returns-clause-value c = same_spot _ _ (omega (arith, ints)) (omega (arith, ints))

pub overflow_sub-result-2 : goal.overflow_sub-result-2
overflow_sub-result-2 c = search rules

pub overflow_mul-result-2 : goal.overflow_mul-result-2
overflow_mul-result-2 c = grind (arith)

pub returns-clause-near : goal.returns-clause-near
returns-clause-near c = search rules

pub overflow_sub-result : goal.overflow_sub-result
overflow_sub-result c = search rules

pub overflow_mul-result : goal.overflow_mul-result
overflow_mul-result c = grind (arith)
