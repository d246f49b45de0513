use Rattle.std.proofs.Common.{arith, rules}
use Rattle.std.proofs.lemmas.Int.{ints}
use Rattle.cam_apertures.proofs.Corners.{same_box}
use Rattle.cam_apertures.proofs.boxes.box_about.Goals as goal

pub returns-clause-value : goal.returns-clause-value
returns-clause-value c =
    same_box _ _ _ _ _ _ _ _ (omega (arith, ints)) (omega (arith, ints)) (omega (arith, ints)) (omega (arith, ints))

pub overflow_add-result-2 : goal.overflow_add-result-2
overflow_add-result-2 c = search rules

pub overflow_sub-result : goal.overflow_sub-result
overflow_sub-result c = search rules

pub overflow_mul-x : goal.overflow_mul-x
overflow_mul-x c = grind (arith)

pub overflow_mul-y : goal.overflow_mul-y
overflow_mul-y c = grind (arith)

pub overflow_add-result : goal.overflow_add-result
overflow_add-result c = search rules

pub overflow_sub-result-2 : goal.overflow_sub-result-2
overflow_sub-result-2 c = search rules
