use Rattle.cam_edits.proofs.AttributeChanges.{attributes_change_no_picture}
use Rattle.cam_edits.proofs.laws.attributes_change_no_picture.Goals as goal

pub returns : goal.returns
returns c = attributes_change_no_picture
