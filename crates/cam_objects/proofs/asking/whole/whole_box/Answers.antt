use Rattle.std.proofs.Common.{arith}
use Rattle.std.proofs.lemmas.Grind.{common_steps}
use Rattle.std.proofs.lemmas.List.{take_all}
use Rattle.cam_objects.proofs.ClearItems.{whole}
use Rattle.cam_objects.proofs.asking.whole.whole_box.Goals as goal

pub returns : goal.returns
returns g c = grind (arith, take_all, whole)

pub loop-place-preserved : goal.loop-place-preserved
loop-place-preserved c = grind (arith, common_steps)
