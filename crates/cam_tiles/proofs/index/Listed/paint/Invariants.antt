use Rattle.std.proofs.Common.{reverse, take}
use Rattle.cam_tiles.specs.Machinery.Indexes.{numbered_leaves}
use Rattle.cam_tiles.specs.Machinery.Shown.{leaves_by_item}
use Rattle.cam_tiles.specs.Machinery.Swaths.{PaintsSwath}
use Rattle.cam_tiles.proofs.index.Listed.paint.Given as goal

-- the items of the numbers before this one are painted
abbrev pub invariant-loop-k : goal.invariant-loop-k
invariant-loop-k l =
    PaintsSwath l.fn.swath (numbered_leaves (leaves_by_item l.shown) l.boxed (reverse (take l.k l.numbers))) l.swath
