use Rattle.std.proofs.Common.{arith}
use Rattle.std.proofs.lemmas.Bool.{false≢true}
use Rattle.cam_ask.proofs.PaintedBoxes.{painted_law}
use Rattle.cam_ask.proofs.painted.is_painted_in.Goals as goal

-- what lies in the other box has a place there, and that lies in the item's box
pub returns-else-meets : goal.returns-else-meets
returns-else-meets c = grind (arith, false≢true, painted_law)

pub returns-then-meets : goal.returns-then-meets
returns-then-meets c = grind (arith)
