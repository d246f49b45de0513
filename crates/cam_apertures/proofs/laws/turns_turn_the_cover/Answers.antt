use Rattle.cam_apertures.proofs.CoverTurns.{turn_law}
use Rattle.cam_apertures.proofs.laws.turns_turn_the_cover.Goals as goal

pub returns : goal.returns
returns c = turn_law
