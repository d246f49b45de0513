use Rattle.std.proofs.Common.{arith, rules}
use Rattle.cam_rows.proofs.half_plane.HalfPlane.falling.Goals as goal

pub returns-clause-rises : goal.returns-clause-rises
returns-clause-rises c = search rules

pub returns-clause-bound : goal.returns-clause-bound
returns-clause-bound c = search rules

pub overflow_sub-result : goal.overflow_sub-result
overflow_sub-result c = grind (arith)

pub returns-clause-step : goal.returns-clause-step
returns-clause-step c = grind (arith)

pub returns-clause-first : goal.returns-clause-first
returns-clause-first c = search rules

pub overflow_sub-result-2 : goal.overflow_sub-result-2
overflow_sub-result-2 c = grind (arith)

pub overflow_sub-result-3 : goal.overflow_sub-result-3
overflow_sub-result-3 c = grind (arith)
