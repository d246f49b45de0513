use Rattle.std.proofs.Common.{arith}
use Rattle.cam_ask.proofs.answers.answer_of.Goals as goal

pub returns-then-not-has_place : goal.returns-then-not-has_place
returns-then-not-has_place c = grind (arith)

pub returns-then-not-can_be_asked : goal.returns-then-not-can_be_asked
returns-then-not-can_be_asked c = grind (arith)

pub returns : goal.returns
returns c = grind (arith)
