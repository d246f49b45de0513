use Rattle.std.proofs.Common.{arith, rules}
use Rattle.std.proofs.lemmas.Int.{ints}
use Rattle.cam_shapes.proofs.Vectors.{same_vector}
use Rattle.cam_shapes.proofs.vector.Vector.seen_from.Goals as goal

pub returns-clause-value : goal.returns-clause-value
returns-clause-value c = same_vector _ _ (omega (arith, ints)) (omega (arith, ints))

pub returns-clause-short : goal.returns-clause-short
returns-clause-short c = search rules

pub returns-clause-seen : goal.returns-clause-seen
returns-clause-seen c = search rules

pub overflow_mul-result-2 : goal.overflow_mul-result-2
overflow_mul-result-2 c = grind (arith)

pub overflow_sub-result-2 : goal.overflow_sub-result-2
overflow_sub-result-2 c = search rules
