use Rattle.cam_xnc.proofs.Slots.{slots_routed}
use Rattle.cam_xnc.proofs.laws.slots_are_routs.Goals as goal

pub returns : goal.returns
returns c = slots_routed
