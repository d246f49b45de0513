use Rattle.cam_objects.proofs.Covering.{cover_law}
use Rattle.cam_objects.proofs.laws.tests_tell_covers.Goals as goal

pub returns : goal.returns
returns c = cover_law
