use Rattle.std.proofs.Common.{arith}
use Rattle.camplot.proofs.explain.bad_line.told.Goals as goal

pub fact_in-format-in-Extra : goal.fact_in-format-in-Extra
fact_in-format-in-Extra c = grind (arith)

pub fact_in-format-in-Word : goal.fact_in-format-in-Word
fact_in-format-in-Word c = assumption arith
