use Rattle.std.proofs.Common.{arith}
use Rattle.std.proofs.lemmas.Grind.{common_steps}
use Rattle.cam_writers.specs.Phrases.{coordinates}
use Rattle.cam_writers.proofs.gerber_commands.push_coordinates.Goals as goal

pub returns : goal.returns
unfolding coordinates
returns c = grind (arith, common_steps)
