use Rattle.std.proofs.Common.{arith}
use Rattle.cam_numbers.proofs.TextFronts.{run_of_digits}
use Rattle.cam_numbers.proofs.leading.digits_before_letter.Goals as goal

pub returns : goal.returns
returns c = grind (arith, run_of_digits)
