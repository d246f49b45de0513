use Rattle.std.proofs.Common.{◌⊎◌}
use Rattle.cam_rows.proofs.JoinedLanes.{lanes_joined}
use Rattle.cam_rows.proofs.SetBits.{set_in_or}
use Rattle.cam_rows.proofs.lanes.or_rows.Goals as goal

pub returns : goal.returns
returns c = lanes_joined _ _ c.told-rows c.told-other (λ P Q. P ⊎ Q) _ set_in_or
