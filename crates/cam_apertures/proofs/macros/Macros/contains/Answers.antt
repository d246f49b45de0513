use Rattle.std.proofs.Common.{arith}
use Rattle.cam_apertures.proofs.KeptExpansions.{is_named}
use Rattle.cam_apertures.proofs.macros.Macros.contains.Goals as goal

pub returns : goal.returns
returns c = grind (arith, is_named)
