use Rattle.std.proofs.Common.{◌-◌, ◌/◌, length}
use Rattle.cam_tiles.proofs.MarkedColumns.{AreTilesSpread}
use Rattle.cam_tiles.proofs.masks.marks.spread_marks.Given as goal

abbrev pub invariant-loop-passed : goal.invariant-loop-passed
invariant-loop-passed l = AreTilesSpread (length l.fn.marks / 64 - l.passed) l.fn.marks l.marks
