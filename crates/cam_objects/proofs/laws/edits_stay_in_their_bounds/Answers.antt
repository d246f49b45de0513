use Rattle.cam_objects.proofs.Redraws.{redraw_law}
use Rattle.cam_objects.proofs.laws.edits_stay_in_their_bounds.Goals as goal

pub returns : goal.returns
returns c = redraw_law
