use Rattle.cam_edits.proofs.EditBoxes.{edits_stay_in_their_boxes}
use Rattle.cam_edits.proofs.laws.edits_stay_in_their_boxes.Goals as goal

pub returns : goal.returns
returns c = edits_stay_in_their_boxes
