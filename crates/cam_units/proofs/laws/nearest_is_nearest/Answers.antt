use Rattle.cam_units.proofs.NearestLaws.{nearest_law}
use Rattle.cam_units.proofs.laws.nearest_is_nearest.Goals as goal

pub returns : goal.returns
returns c = nearest_law
