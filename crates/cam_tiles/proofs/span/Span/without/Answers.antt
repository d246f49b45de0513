use Rattle.std.proofs.Common.{arith}
use Rattle.cam_tiles.proofs.span.Span.without.Goals as goal

pub returns-then-out : goal.returns-then-out
returns-then-out c = grind (arith)

pub returns : goal.returns
returns c = grind (arith)
