use Rattle.std.proofs.Common.{arith}
use Rattle.cam_objects.proofs.dictionary.Dictionary.soundness.Goals as goal

pub returns : goal.returns
returns c = grind (arith)
