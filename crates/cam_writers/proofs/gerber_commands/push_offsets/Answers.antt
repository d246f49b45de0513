use Rattle.std.proofs.Common.{arith}
use Rattle.std.proofs.lemmas.Grind.{common_steps}
use Rattle.cam_writers.specs.Phrases.{offsets}
use Rattle.cam_writers.proofs.gerber_commands.push_offsets.Goals as goal

pub returns : goal.returns
unfolding offsets
returns c = grind (arith, common_steps)
