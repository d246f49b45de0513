use Rattle.cam_objects.proofs.Redraws.{cover_box_law}
use Rattle.cam_objects.proofs.laws.covers_lie_in_their_bounds.Goals as goal

pub returns : goal.returns
returns c = cover_box_law
