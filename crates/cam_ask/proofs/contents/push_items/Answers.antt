use Rattle.std.proofs.Common.{arith}
use Rattle.std.proofs.lemmas.Grind.{common_steps}
use Rattle.cam_ask.proofs.contents.push_items.Goals as goal

pub loop-item-preserved : goal.loop-item-preserved
loop-item-preserved c = grind (arith, common_steps)

pub loop-item-2-preserved : goal.loop-item-2-preserved
loop-item-2-preserved c = grind (arith, common_steps)

pub returns-after-loop-item-2 : goal.returns-after-loop-item-2
returns-after-loop-item-2 c = grind (arith, common_steps)

pub returns-after-loop-item : goal.returns-after-loop-item
returns-after-loop-item c = grind (arith, common_steps)
