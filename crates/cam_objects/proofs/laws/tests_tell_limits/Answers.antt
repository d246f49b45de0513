use Rattle.cam_objects.proofs.TestLaws.{limit_law}
use Rattle.cam_objects.proofs.laws.tests_tell_limits.Goals as goal

pub returns : goal.returns
returns c = limit_law
