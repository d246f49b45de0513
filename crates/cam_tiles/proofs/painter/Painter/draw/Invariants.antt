use Rattle.std.proofs.Common.{◌≡◌, ◌+◌, ℕ, List, drop}
use Rattle.cam_tiles.specs.Tables.{all_drawn_from}
use Rattle.cam_tiles.specs.Tiles.{grid_of, tile_rows}
use Rattle.cam_tiles.proofs.DrawnTiles.{dirty}
use Rattle.cam_tiles.proofs.TilesInOrder.{drawn_on}
use Rattle.cam_tiles.proofs.painter.Painter.draw.Given as goal

abbrev pub invariant-loop-k : goal.invariant-loop-k
invariant-loop-k g l =
    let draw : ℕ → List ℕ = λ k. tile_rows (g.Self.Painter.picture l.fn.self) (grid_of l.window k) in record {
      drawn : all_drawn_from draw l.first l.fn.tiles ≡ drawn_on draw l.first l.k l.tiles;
      kept : g.Self.Painter.picture l.self ≡ g.Self.Painter.picture l.fn.self;
      asked : g.Self.Painter.count l.self + dirty (drop l.k l.tiles)
          ≡ g.Self.Painter.count l.fn.self + dirty l.fn.tiles;
    }
