use Rattle.cam_apertures.proofs.CoverLaws.{hole_law}
use Rattle.cam_apertures.proofs.laws.holes_are_not_covered.Goals as goal

pub returns : goal.returns
returns c = hole_law
