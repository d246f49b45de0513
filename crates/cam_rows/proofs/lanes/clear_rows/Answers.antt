use Rattle.cam_rows.proofs.JoinedLanes.{lanes_cleared}
use Rattle.cam_rows.proofs.lanes.clear_rows.Goals as goal

pub returns : goal.returns
returns c = lanes_cleared _ _ c.told-rows c.told-other
