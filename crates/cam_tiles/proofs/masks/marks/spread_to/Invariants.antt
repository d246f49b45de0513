use Rattle.cam_tiles.specs.Machinery.Spreading.{AreRowsSpread}
use Rattle.cam_tiles.proofs.masks.marks.spread_to.Given as goal

abbrev pub invariant-loop-row : goal.invariant-loop-row
invariant-loop-row l = AreRowsSpread l.tile l.row l.fn.marks l.marks
