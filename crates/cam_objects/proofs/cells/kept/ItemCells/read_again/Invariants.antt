use Rattle.std.proofs.Common.{◌≡◌, take}
use Rattle.cam_objects.specs.Cells.{AreCellsOf}
use Rattle.cam_objects.proofs.cells.kept.ItemCells.read_again.Given as goal

-- the cells of the items so far
abbrev pub invariant-loop-place : goal.invariant-loop-place
invariant-loop-place g l =
    let boxes = g.B.BoxedItems.boxes l.fn.items in
    record {
      list : g.B.BoxedItems.boxes l.items ≡ boxes;
      cells : AreCellsOf (take l.place boxes) l.self;
    }
