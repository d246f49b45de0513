use Rattle.std.proofs.Common.{arith}
use Rattle.cam_objects.proofs.boxes.item_boxes.ItemBoxes.layer.Goals as goal

pub returns-clause-sound : goal.returns-clause-sound
returns-clause-sound c = grind (arith)
