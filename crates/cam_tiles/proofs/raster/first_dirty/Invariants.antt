use Rattle.std.proofs.Common.{◌≡◌, take}
use Rattle.cam_tiles.proofs.DrawnTiles.{dirty}
use Rattle.cam_tiles.proofs.raster.first_dirty.Given as goal

abbrev pub invariant-loop-k : goal.invariant-loop-k
invariant-loop-k l = dirty (take l.k l.tiles) ≡ 0
