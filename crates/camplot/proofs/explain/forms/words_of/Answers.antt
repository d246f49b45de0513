use Rattle.std.proofs.Common.{arith}
use Rattle.camplot.proofs.explain.forms.words_of.Goals as goal

pub split_once-requires-in-loop-row-text-self : goal.split_once-requires-in-loop-row-text-self
split_once-requires-in-loop-row-text-self c = assumption arith

pub split_once-requires-text-self : goal.split_once-requires-text-self
split_once-requires-text-self c = grind (arith)

pub any-requires-clause-finite : goal.any-requires-clause-finite
any-requires-clause-finite c = grind (arith)

pub lines-row-items-requires : goal.lines-row-items-requires
lines-row-items-requires c = grind (arith)
