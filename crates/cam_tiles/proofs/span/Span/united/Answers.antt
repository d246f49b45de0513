use Rattle.std.proofs.Common.{arith}
use Rattle.cam_tiles.proofs.span.Span.united.Goals as goal

pub returns : goal.returns
returns c = grind (arith)

pub returns-then-self : goal.returns-then-self
returns-then-self c = grind (arith)
