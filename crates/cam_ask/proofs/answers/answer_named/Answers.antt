use Rattle.std.proofs.Common.{arith}
use Rattle.cam_ask.proofs.Named.{named_there}
use Rattle.cam_ask.proofs.answers.answer_named.Goals as goal

pub returns-in_default-layer : goal.returns-in_default-layer
returns-in_default-layer c = grind (arith, named_there)

pub returns : goal.returns
returns c = grind (arith)

pub returns-in_default : goal.returns-in_default
returns-in_default c = grind (arith)
