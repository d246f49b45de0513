use Rattle.std.proofs.Common.{arith}
use Rattle.cam_objects.proofs.dictionary.Dictionary.at.Goals as goal

pub returns-in-None-clause-past : goal.returns-in-None-clause-past
returns-in-None-clause-past c = grind (arith)

pub returns-in-Some-clause-found : goal.returns-in-Some-clause-found
returns-in-Some-clause-found c = grind (arith)
