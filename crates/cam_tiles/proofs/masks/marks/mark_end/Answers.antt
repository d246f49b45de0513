use Rattle.std.proofs.Common.{arith}
use Rattle.cam_tiles.proofs.MarkedColumns.{turns_before, turns_none}
use Rattle.cam_tiles.proofs.masks.marks.mark_end.Goals as goal

pub returns : goal.returns
returns c = grind (arith, turns_before, turns_none)

pub returns-then-end-eq0 : goal.returns-then-end-eq0
returns-then-end-eq0 c = grind (arith)
