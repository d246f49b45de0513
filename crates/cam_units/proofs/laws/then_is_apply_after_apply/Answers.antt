use Rattle.cam_units.proofs.TurnLaws.{applied_product}
use Rattle.cam_units.proofs.laws.then_is_apply_after_apply.Goals as goal

pub returns : goal.returns
returns c = applied_product
