use Rattle.std.proofs.Common.{arith}
use Rattle.camplot.proofs.explain.forms.form_of.Goals as goal

pub lines-row-items-requires : goal.lines-row-items-requires
lines-row-items-requires c = grind (arith)

pub fact_in-of : goal.fact_in-of
fact_in-of c = grind (arith)
