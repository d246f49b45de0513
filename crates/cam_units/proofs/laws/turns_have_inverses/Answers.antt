use Rattle.cam_units.proofs.TurnLaws.{taken_back}
use Rattle.cam_units.proofs.laws.turns_have_inverses.Goals as goal

pub returns : goal.returns
returns c = taken_back
