use Rattle.std.proofs.Common.{arith}
use Rattle.camplot.proofs.reading.Counted.read.Goals as goal

pub returns-in-Err-clause-kind : goal.returns-in-Err-clause-kind
returns-in-Err-clause-kind c = grind (arith)
