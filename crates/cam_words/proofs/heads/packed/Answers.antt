use Rattle.std.proofs.Common.{arith}
use Rattle.cam_words.proofs.heads.packed.Goals as goal

pub returns : goal.returns
returns c = grind (arith)
