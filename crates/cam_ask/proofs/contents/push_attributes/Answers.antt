use Rattle.std.proofs.Common.{arith}
use Rattle.std.proofs.lemmas.Grind.{common_steps}
use Rattle.cam_ask.proofs.contents.push_attributes.Goals as goal

pub returns-after-loop-attribute : goal.returns-after-loop-attribute
returns-after-loop-attribute c = grind (arith, common_steps)

pub loop-attribute-preserved : goal.loop-attribute-preserved
loop-attribute-preserved c = grind (arith, common_steps)
