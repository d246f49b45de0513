use Rattle.std.proofs.Common.{arith}
use Rattle.camplot.proofs.explain.place.line_at.Goals as goal

pub returns : goal.returns
returns c = grind (arith)
