use Rattle.std.proofs.Common.{ℕ, List, subst}
use Rattle.cam_objects.specs.Cells.{AreCellsOf, object_boxes}
use Rattle.cam_objects.specs.declared.entry.Entry.{Entry}
use Rattle.cam_objects.specs.declared.object.Object.{Object}
use Rattle.cam_objects.proofs.ObjectCells.{near_objects}
use Rattle.cam_objects.proofs.boxes.object_boxes.object_cells.Goals as goal

pub returns : goal.returns
returns c = record {
  cells = subst (λ (p : List (ℕ × Entry) × List Object). AreCellsOf (object_boxes p.0 p.1) c.of-cells.result.0) c.of-boxes.ensures
      c.of-cells.ensures.cells;
  near = near_objects c.args.entries.now c.args.objects.now c.requires.sound c.requires.board;
}
