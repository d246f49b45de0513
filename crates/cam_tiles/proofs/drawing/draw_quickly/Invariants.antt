use Rattle.std.proofs.Common.{ℕ, List}
use Rattle.cam_objects.specs.Tests.{is_black}
use Rattle.cam_tiles.specs.Machinery.Shown.{leaves_by_item, leaves_of}
use Rattle.cam_tiles.specs.Machinery.Drawn.{IsPartlyDrawn}
use Rattle.cam_tiles.specs.Machinery.Indexes.{IsIndexOf}
use Rattle.cam_tiles.specs.Tiles.{grid_of, tile_rows}
use Rattle.cam_tiles.proofs.drawing.draw_quickly.Given as goal

abbrev pub invariant-loop-row : goal.invariant-loop-row
invariant-loop-row l =
    let draw : ℕ → List ℕ = λ k. tile_rows (is_black (leaves_of l.shown)) (grid_of l.window k) in record {
      drawn : IsPartlyDrawn draw l.first l.fn.tiles l.tiles;
      index : IsIndexOf (leaves_by_item l.shown) l.window l.index;
    }
