use Rattle.cam_units.proofs.TurnLaws.{product_assoc}
use Rattle.cam_units.proofs.laws.turns_associate.Goals as goal

pub returns : goal.returns
returns c = product_assoc
