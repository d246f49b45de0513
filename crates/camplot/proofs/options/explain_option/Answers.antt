use Rattle.std.proofs.Common.{arith}
use Rattle.camplot.proofs.options.explain_option.Goals as goal

pub returns-clause-rule : goal.returns-clause-rule
returns-clause-rule c = grind (arith)
