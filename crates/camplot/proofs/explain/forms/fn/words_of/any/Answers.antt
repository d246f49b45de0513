use Rattle.std.proofs.Common.{arith, refl}
use Rattle.camplot.proofs.explain.forms.fn.words_of.any.Goals as goal

pub returns-kept-2 : goal.returns-kept-2
returns-kept-2 c = grind (arith)

pub returns-kept-1 : goal.returns-kept-1
returns-kept-1 c = refl
