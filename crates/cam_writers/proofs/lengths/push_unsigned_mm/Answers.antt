use Rattle.std.proofs.Common.{arith}
use Rattle.std.proofs.lemmas.Grind.{common_steps}
use Rattle.cam_writers.specs.Lengths.{unsigned_mm}
use Rattle.cam_writers.proofs.lengths.push_unsigned_mm.Goals as goal

pub returns : goal.returns
unfolding unsigned_mm
returns c = grind (arith, common_steps)
