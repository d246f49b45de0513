use Rattle.std.proofs.Common.{arith}
use Rattle.cam_numbers.specs.Blanks.{without_blanks}
use Rattle.cam_numbers.proofs.Naturals.{natural_of_none, natural_of_empty, natural_of_digits}
use Rattle.cam_numbers.proofs.whole.natural.Goals as goal

pub returns-in_err-digits : goal.returns-in_err-digits
returns-in_err-digits c = rw c.from_residual.ensures (natural_of_none (without_blanks c.args.blanks c.args.run.now) c.in_err-digits.ensures)

pub returns-then-digits-eq0 : goal.returns-then-digits-eq0
returns-then-digits-eq0 c = grind (arith, natural_of_empty)

pub returns : goal.returns
returns c = natural_of_digits (without_blanks c.args.blanks c.args.run.now) c.in_ok-digits.digits c.in_ok-digits.ensures c.if-digits-eq0.false
