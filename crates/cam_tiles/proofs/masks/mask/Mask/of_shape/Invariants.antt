use Rattle.cam_objects.specs.Image.{relative}
use Rattle.cam_tiles.specs.Machinery.Masks.{HoldsCentres}
use Rattle.cam_tiles.specs.Machinery.Plain.{IsInShape}
use Rattle.cam_tiles.proofs.ShapeRows.{AreShownTo}
use Rattle.cam_tiles.proofs.masks.mask.Mask.of_shape.Given as goal

-- the rows so far are those of the shape
abbrev pub invariant-loop-row : goal.invariant-loop-row
invariant-loop-row l = record {
  rows : AreShownTo l.grid (λ s. IsInShape l.shape (relative l.at s)) l.row
      (record { grid = l.mask-inside.grid; rows = l.mask-inside.rows });
  bounds : HoldsCentres l.mask-inside.bounds l.mask-inside.grid;
}
