use Rattle.std.proofs.Common.{arith}
use Rattle.std.proofs.lemmas.Grind.{common_steps}
use Rattle.cam_writers.specs.Phrases.{primitive_text}
use Rattle.cam_writers.proofs.gerber_macros.push_primitive.Goals as goal

pub returns : goal.returns
unfolding primitive_text
returns c = grind (arith, common_steps)
