use Rattle.std.proofs.Common.{arith}
use Rattle.cam_commands.proofs.NameLetters.{nothing_said, one_letter_said, no_name_said, star_said, name_said}
use Rattle.cam_commands.proofs.syntax.extended_command.Goals as goal

pub returns-in_default : goal.returns-in_default
returns-in_default c = nothing_said c.args.text.now c.in_default.ensures.kept

pub returns-in_default-first_kept : goal.returns-in_default-first_kept
returns-in_default-first_kept c = grind (arith, one_letter_said)

pub returns-in_default-name_of : goal.returns-in_default-name_of
returns-in_default-name_of c = grind (arith, no_name_said)

pub returns-then-holds_bad_star : goal.returns-then-holds_bad_star
returns-then-holds_bad_star c = grind (arith, star_said)

pub returns : goal.returns
returns c = grind (arith, name_said)
