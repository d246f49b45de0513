use Rattle.std.proofs.Common.{arith}
use Rattle.cam_tiles.proofs.index.parted.Goals as goal

pub returns-in_err-contour-clause-leaves : goal.returns-in_err-contour-clause-leaves
returns-in_err-contour-clause-leaves c = grind (arith)

pub returns-in_err-parts-clause-parted : goal.returns-in_err-parts-clause-parted
returns-in_err-parts-clause-parted c = grind (arith)

pub returns-clause-leaves : goal.returns-clause-leaves
returns-clause-leaves c = grind (arith)

pub returns-in_err-contour-clause-parted : goal.returns-in_err-contour-clause-parted
returns-in_err-contour-clause-parted c = grind (arith)

pub returns-in_err-parts-clause-leaves : goal.returns-in_err-parts-clause-leaves
returns-in_err-parts-clause-leaves c = grind (arith)

pub returns-clause-parted : goal.returns-clause-parted
returns-clause-parted c = grind (arith)
