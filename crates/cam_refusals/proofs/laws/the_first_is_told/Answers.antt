use Rattle.cam_refusals.proofs.Checks.{tells_first}
use Rattle.cam_refusals.proofs.laws.the_first_is_told.Goals as goal

pub returns : goal.returns
returns c = tells_first
