use Rattle.std.proofs.Common.{arith}
use Rattle.cam_gerber.proofs.Dictionary.{absent_tip, aperture_tip, block_tip, nothing_draws}
use Rattle.cam_gerber.proofs.built.Built.can_draw.Goals as goal

pub returns-in_default : goal.returns-in_default
returns-in_default c = grind (arith, nothing_draws, absent_tip)

pub returns-in-Aperture : goal.returns-in-Aperture
returns-in-Aperture c = grind (arith, aperture_tip)

pub returns-in-Block : goal.returns-in-Block
returns-in-Block c = grind (arith, nothing_draws, block_tip)
