use Rattle.cam_shapes.proofs.SweptLaws.{ends}
use Rattle.cam_shapes.proofs.laws.swept_holds_its_ends.Goals as goal

pub returns : goal.returns
returns c = ends
