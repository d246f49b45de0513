use Rattle.std.proofs.Common.{arith, ◌∙◌}
use Rattle.cam_words.specs.Heads.{packed}
use Rattle.cam_commands.proofs.PlainNumbers.{plain_nothing, plain_other, plain_alone, plain_unpointed, plain_pointed, zeros_packed}
use Rattle.cam_commands.proofs.numbers.is_plain.Goals as goal

pub returns-in_default : goal.returns-in_default
returns-in_default c = plain_nothing c.args.digit (packed c.args.run.now) c.in_default.ensures.kept

pub returns-then-first-digit : goal.returns-then-first-digit
returns-then-first-digit c = grind (arith, plain_other)

pub returns-in_default-first_kept : goal.returns-in_default-first_kept
returns-in_default-first_kept c = grind (arith, plain_alone)

pub returns-then-point-ne46 : goal.returns-then-point-ne46
returns-then-point-ne46 c =
    plain_unpointed c.args.digit c.in-Some.first c.in-Some-first_kept.point (packed c.args.run.now) (packed c.in-Some.behind.now)
    (packed c.in-Some-first_kept.zeros.now) c.in-Some.ensures.kept c.if-first-digit.false
    c.in-Some-first_kept.ensures.kept c.if-point-ne46.true

pub returns : goal.returns
returns c =
    c.are_zeros.ensures ∙ zeros_packed c.in-Some-first_kept.zeros.now
    ∙ plain_pointed c.args.digit c.in-Some.first c.in-Some-first_kept.point (packed c.args.run.now) (packed c.in-Some.behind.now)
    (packed c.in-Some-first_kept.zeros.now) c.in-Some.ensures.kept c.if-first-digit.false
    c.in-Some-first_kept.ensures.kept c.if-point-ne46.false
