use Rattle.cam_apertures.proofs.CoverLaws.{box_law}
use Rattle.cam_apertures.proofs.laws.covers_lie_in_their_box.Goals as goal

pub returns : goal.returns
returns c = box_law
