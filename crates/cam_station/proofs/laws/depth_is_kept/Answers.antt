use Rattle.cam_station.proofs.Depths.{depth_law}
use Rattle.cam_station.proofs.laws.depth_is_kept.Goals as goal

pub returns : goal.returns
returns c = depth_law
