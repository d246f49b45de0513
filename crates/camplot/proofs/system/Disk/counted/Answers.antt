use Rattle.std.proofs.Common.{arith}
use Rattle.camplot.proofs.system.Disk.counted.Goals as goal

pub returns-then-eq-clause-fault : goal.returns-then-eq-clause-fault
returns-then-eq-clause-fault c = grind (arith)

pub returns-else-eq-clause-counted : goal.returns-else-eq-clause-counted
returns-else-eq-clause-counted c = grind (arith)
