use Rattle.std.proofs.Common.{arith}
use Rattle.cam_tiles.proofs.MarkedRows.{all_turned, next_turned, no_run_turned, none_turned, run_turned}
use Rattle.cam_tiles.proofs.masks.marks.mark_runs.Goals as goal

pub mark_end-requires-then-firsts-k-clause-end : goal.mark_end-requires-then-firsts-k-clause-end
mark_end-requires-then-firsts-k-clause-end c = grind (arith)

pub loop-k-preserved : goal.loop-k-preserved
loop-k-preserved c = grind (arith, all_turned, next_turned, no_run_turned, none_turned, run_turned)

pub bounds-ends-k-then-firsts-k : goal.bounds-ends-k-then-firsts-k
bounds-ends-k-then-firsts-k c = grind (arith)

pub mark_end-requires-clause-end : goal.mark_end-requires-clause-end
mark_end-requires-clause-end c = grind (arith)

pub returns : goal.returns
returns c = grind (arith)

pub loop-k-init : goal.loop-k-init
loop-k-init c = grind (arith)
