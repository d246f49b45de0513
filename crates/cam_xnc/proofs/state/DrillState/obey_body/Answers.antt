use Rattle.std.proofs.Common.{arith}
use Rattle.cam_xnc.proofs.state.DrillState.obey_body.Goals as goal

pub returns-in-CutTo : goal.returns-in-CutTo
returns-in-CutTo c = grind (arith)

pub returns-in-Lower : goal.returns-in-Lower
returns-in-Lower c = grind (arith)

pub returns-in-Raise : goal.returns-in-Raise
returns-in-Raise c = grind (arith)

pub returns-in-Slot : goal.returns-in-Slot
returns-in-Slot c = grind (arith)

pub returns-in-HitAt : goal.returns-in-HitAt
returns-in-HitAt c = grind (arith)

pub returns-in-Select : goal.returns-in-Select
returns-in-Select c = grind (arith)

pub returns-in-RoutTo : goal.returns-in-RoutTo
returns-in-RoutTo c = grind (arith)
