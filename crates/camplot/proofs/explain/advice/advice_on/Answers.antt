use Rattle.std.proofs.Common.{arith}
use Rattle.camplot.proofs.explain.advice.advice_on.Goals as goal

pub lines-row-items-requires : goal.lines-row-items-requires
lines-row-items-requires c = assumption arith

pub parse-requires-text-self : goal.parse-requires-text-self
parse-requires-text-self c = assumption arith
