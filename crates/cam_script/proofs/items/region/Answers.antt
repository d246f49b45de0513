use Rattle.std.proofs.Common.{arith}
use Rattle.cam_script.proofs.items.region.Goals as goal

pub returns-in_err-segs : goal.returns-in_err-segs
returns-in_err-segs c = grind (arith)

pub returns-then-segment_count-eq0 : goal.returns-then-segment_count-eq0
returns-then-segment_count-eq0 c = grind (arith)

pub returns-in_err-segment_count : goal.returns-in_err-segment_count
returns-in_err-segment_count c = grind (arith)

pub returns : goal.returns
returns c = grind (arith)
