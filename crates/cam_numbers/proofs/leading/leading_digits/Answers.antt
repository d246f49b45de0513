use Rattle.std.proofs.Common.{arith, refl}
use Rattle.cam_numbers.specs.Numbers.{value_of}
use Rattle.cam_numbers.proofs.TextFronts.{few_digits, more_digits, more_value}
use Rattle.cam_numbers.proofs.leading.leading_digits.Goals as goal

pub loop-place-init : goal.loop-place-init
unfolding value_of
loop-place-init c = record { digits = refl; value = refl }

pub overflow_mul-value : goal.overflow_mul-value
overflow_mul-value c = grind (arith, few_digits)

pub overflow_add-value : goal.overflow_add-value
overflow_add-value c = grind (arith, few_digits)

pub loop-place-preserved : goal.loop-place-preserved
loop-place-preserved c = grind (arith, more_digits, more_value)
