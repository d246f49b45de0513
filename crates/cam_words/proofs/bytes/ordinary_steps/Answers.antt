use Rattle.std.proofs.Common.{arith}
use Rattle.cam_words.proofs.Ordinary.{step_behind}
use Rattle.cam_words.proofs.bytes.ordinary_steps.Goals as goal

pub loop-step-preserved : goal.loop-step-preserved
loop-step-preserved c = grind (arith, step_behind)
