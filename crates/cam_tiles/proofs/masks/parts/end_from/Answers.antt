use Rattle.std.proofs.Common.{arith}
use Rattle.std.proofs.lemmas.Grind.{common_steps}
use Rattle.cam_tiles.proofs.ContourParts.{end_is}
use Rattle.cam_tiles.proofs.masks.parts.end_from.Goals as goal

pub returns-in-Some : goal.returns-in-Some
returns-in-Some c = grind (arith, end_is)

pub returns-in-None : goal.returns-in-None
returns-in-None c = grind (arith, common_steps)
