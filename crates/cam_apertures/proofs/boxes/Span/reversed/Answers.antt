use Rattle.std.proofs.Common.{arith, rules}
use Rattle.cam_apertures.proofs.boxes.Span.reversed.Goals as goal

pub overflow_sub-result-2 : goal.overflow_sub-result-2
overflow_sub-result-2 c = grind (arith)

pub returns : goal.returns
returns c = search rules
