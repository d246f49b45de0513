use Rattle.std.proofs.Common.{◌≡◌, ◌≤◌, ℕ, Bool, [], Some, get_or}
use Rattle.cam_units.specs.declared.point.Spot.{Spot}
use Rattle.cam_tiles.specs.declared.grid.Grid.{Grid}
use Rattle.cam_tiles.specs.Machinery.Swaths.{ShowsDirty}
use Rattle.cam_tiles.specs.Tables.{all_drawn_from}
use Rattle.cam_tiles.specs.Tiles.{tile_rows}
use Rattle.cam_tiles.proofs.TilesInOrder.{drawn_on}
use Rattle.cam_tiles.proofs.masks.swath.Swath.put.Given as goal

abbrev pub invariant-loop-k : goal.invariant-loop-k
invariant-loop-k l = record {
  drawn : (image : Spot → Bool) (grid : ℕ → Grid) (first : ℕ) → ShowsDirty image grid first l.fn.self l.fn.tiles
      → all_drawn_from (λ k. tile_rows image (grid k)) first l.fn.tiles
      ≡ drawn_on (λ k. tile_rows image (grid k)) first l.k l.tiles;
  rest : (j : ℕ) → l.k ≤ j → get_or l.tiles j (Some []) ≡ get_or l.fn.tiles j (Some []);
}
