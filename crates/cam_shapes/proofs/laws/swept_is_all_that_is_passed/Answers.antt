use Rattle.cam_shapes.proofs.SweptWays.{ways}
use Rattle.cam_shapes.proofs.laws.swept_is_all_that_is_passed.Goals as goal

pub returns : goal.returns
returns c = ways
