use Rattle.std.proofs.Common.{arith, true}
use Rattle.cam_numbers.proofs.TextFronts.{negative_front, signed_value, small_value, unsigned_front}
use Rattle.cam_numbers.proofs.leading.plain_integer.Goals as goal

pub with_sign-requires : goal.with_sign-requires
with_sign-requires c = small_value _ c.in_ok-digits.digits c.in_ok-digits.ensures

pub with_sign-requires-2 : goal.with_sign-requires-2
with_sign-requires-2 c = small_value c.args.text.now c.in_ok-digits-2.digits c.in_ok-digits-2.ensures

pub returns-then-text-eq45 : goal.returns-then-text-eq45
returns-then-text-eq45 c =
    negative_front c.args.text.now c.in_ok-digits.digits _ c.if-text-eq45.true c.in_ok-digits.ensures
    (signed_value true _ c.in_ok-digits.digits c.with_sign.result c.in_ok-digits.ensures c.with_sign.ensures)

pub returns : goal.returns
returns c = grind (arith, unsigned_front, signed_value)
