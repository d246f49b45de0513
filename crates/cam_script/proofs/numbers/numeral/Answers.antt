use Rattle.std.proofs.Common.{arith, ◌∙◌, ◌≢◌, get_or, ◌<◌, ◌^◌}
use Rattle.cam_script.proofs.Tests.{no_numeral_text, no_numeral_parsed, numeral_parsed}
use Rattle.cam_script.proofs.numbers.numeral.Goals as goal

pub returns-in_default : goal.returns-in_default
returns-in_default c = no_numeral_text c.args.most c.args.digits.now c.in_default.ensures.cases.0

pub returns-in_default-parse : goal.returns-in_default-parse
returns-in_default-parse c =
    let no_plus : get_or c.args.digits.now 0 0 ≢ 43 = λ e. c.if-first_byte-eq43.false (c.first_byte.ensures ∙ e) in
    let small : c.args.most < 2 ^ 64 = omega (arith, c.ranges.most.fits) in
    no_numeral_parsed c.args.most c.args.digits.now c.in-Ok.text.now c.in_default-parse.field-0 c.in-Ok.ensures.cases.0 no_plus small
    (rw c.in_default-parse.is at c.parse.ensures.value.0)

pub returns : goal.returns
returns c =
    let no_plus : get_or c.args.digits.now 0 0 ≢ 43 = λ e. c.if-first_byte-eq43.false (c.first_byte.ensures ∙ e) in
    numeral_parsed c.args.most c.args.digits.now c.in-Ok.text.now c.in-Ok-parse.value c.parse.result c.in-Ok.ensures.cases.0 no_plus
    c.in-Ok-parse.is c.parse.ensures.value.0 c.if-value-most.false
