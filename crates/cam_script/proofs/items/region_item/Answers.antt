use Rattle.std.proofs.Common.{arith}
use Rattle.cam_script.proofs.items.region_item.Goals as goal

pub returns : goal.returns
returns c = grind (arith)
