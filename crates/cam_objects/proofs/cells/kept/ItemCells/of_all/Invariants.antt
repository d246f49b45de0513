use Rattle.std.proofs.Common.{◌≡◌, sum, take}
use Rattle.cam_units.specs.declared.bounds.Bounds.TheVariants.{Empty}
use Rattle.cam_objects.specs.Cells.{IsSide, bottom_of, left_of, right_of, top_of}
use Rattle.cam_objects.proofs.KeptBoxes.{AreBesideBelow}
use Rattle.cam_objects.proofs.cells.kept.ItemCells.of_all.Given as goal

abbrev pub invariant-loop-place : goal.invariant-loop-place
invariant-loop-place g l =
    let boxes = g.B.BoxedItems.boxes l.initial.items in
    record {
      list : l.items ≡ l.initial.items;
      leaves : l.leaves ≡ sum (take l.place (g.B.BoxedItems.leaf_counts l.initial.items));
      left : AreBesideBelow (IsSide left_of) Empty l.place boxes l.left.items;
      bottom : AreBesideBelow (IsSide bottom_of) Empty l.place boxes l.bottom.items;
      right : AreBesideBelow (IsSide right_of) Empty l.place boxes l.right.items;
      top : AreBesideBelow (IsSide top_of) Empty l.place boxes l.top.items;
    }
