use Rattle.cam_ask.proofs.PaintedBoxes.{painted_law}
use Rattle.cam_ask.proofs.laws.painted_boxes_hold_what_is_covered.Goals as goal

pub returns : goal.returns
returns c = painted_law
