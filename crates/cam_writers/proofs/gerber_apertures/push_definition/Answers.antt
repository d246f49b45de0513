use Rattle.std.proofs.Common.{arith}
use Rattle.std.proofs.lemmas.Grind.{common_steps}
use Rattle.cam_writers.specs.Phrases.{spelled}
use Rattle.cam_writers.proofs.gerber_apertures.push_definition.Goals as goal

pub returns : goal.returns
unfolding spelled
returns c = grind (arith, common_steps)
