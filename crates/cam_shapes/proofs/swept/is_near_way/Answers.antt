use Rattle.cam_shapes.proofs.Sweeps.{passed_reach}
use Rattle.cam_shapes.proofs.swept.is_near_way.Goals as goal

pub returns : goal.returns
returns c =
    passed_reach c.unsigned_abs.result c.from.result c.corner_reach.result c.cross.result _ _ c.cross.ensures.bound
    c.unsigned_abs.ensures.value c.cross.ensures.value c.from.ensures c.corner_reach.ensures
