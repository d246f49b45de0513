use Rattle.cam_refusals.specs.Refusals.{number_of}
use Rattle.cam_refusals.proofs.Checks.{tells_least}
use Rattle.cam_refusals.proofs.laws.the_least_is_told.Goals as goal

pub returns : goal.returns
returns c = tells_least number_of
