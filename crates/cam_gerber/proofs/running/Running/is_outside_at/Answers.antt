use Rattle.std.proofs.Common.{arith}
use Rattle.cam_gerber.proofs.FlashesInside.{judged_now}
use Rattle.cam_gerber.proofs.running.Running.is_outside_at.Goals as goal

pub returns : goal.returns
returns c = λ past t. grind (arith, judged_now)
