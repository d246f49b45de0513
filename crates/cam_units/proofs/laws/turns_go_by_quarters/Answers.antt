use Rattle.cam_units.proofs.TurnLaws.{quarters}
use Rattle.cam_units.proofs.laws.turns_go_by_quarters.Goals as goal

pub returns : goal.returns
returns c = quarters
