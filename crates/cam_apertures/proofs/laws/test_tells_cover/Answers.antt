use Rattle.cam_apertures.proofs.CoverLaws.{test_law}
use Rattle.cam_apertures.proofs.laws.test_tells_cover.Goals as goal

pub returns : goal.returns
returns c = test_law
