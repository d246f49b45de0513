use Rattle.std.proofs.Common.{arith, rules}
use Rattle.std.proofs.lemmas.Grind.{common_steps}
use Rattle.cam_macros.proofs.expansion.arithmetic.quotient.Goals as goal

pub returns-then-right-lt0 : goal.returns-then-right-lt0
returns-then-right-lt0 c = grind arith

pub returns : goal.returns
returns c = grind arith

pub overflow_sub-above : goal.overflow_sub-above
overflow_sub-above c = grind (arith)

pub nearest-requires-clause-short : goal.nearest-requires-clause-short
nearest-requires-clause-short c = search rules

pub nearest-requires-2-clause-short : goal.nearest-requires-2-clause-short
nearest-requires-2-clause-short c = grind (arith, common_steps)
