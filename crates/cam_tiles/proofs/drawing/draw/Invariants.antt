use Rattle.std.proofs.Common.{◌≡◌, ℕ, List}
use Rattle.cam_objects.specs.Tests.{is_black}
use Rattle.cam_tiles.specs.Machinery.Shown.{leaves_of}
use Rattle.cam_tiles.specs.Tables.{all_drawn_from}
use Rattle.cam_tiles.specs.Tiles.{grid_of, tile_rows}
use Rattle.cam_tiles.proofs.TilesInOrder.{drawn_on}
use Rattle.cam_tiles.proofs.drawing.draw.Given as goal

abbrev pub invariant-loop-k : goal.invariant-loop-k
invariant-loop-k l =
    let draw : ℕ → List ℕ = λ k. tile_rows (is_black (leaves_of l.shown)) (grid_of l.window k) in
    all_drawn_from draw l.first l.fn.tiles ≡ drawn_on draw l.first l.k l.tiles
