use Rattle.std.proofs.Common.{arith, rules}
use Rattle.cam_tiles.proofs.MarkedRows.{all_turned, next_turned, none_turned}
use Rattle.cam_tiles.proofs.masks.marks.mark_column.Goals as goal

pub returns : goal.returns
returns c = grind (arith)

pub loop-k-preserved : goal.loop-k-preserved
loop-k-preserved c = search (rules, all_turned, next_turned, none_turned)

pub loop-k-init : goal.loop-k-init
loop-k-init c = grind (arith, all_turned, next_turned, none_turned)
