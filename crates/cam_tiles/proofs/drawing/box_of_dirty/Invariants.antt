use Rattle.std.proofs.Common.{◌≡◌, ℕ, ◌+◌, ◌<◌, slice_index_or}
use Rattle.std.specs.Prelude.{None}
use Rattle.cam_tiles.specs.Machinery.Masks.{HoldsCentres}
use Rattle.cam_tiles.specs.Tiles.{grid_of}
use Rattle.cam_tiles.proofs.drawing.box_of_dirty.Given as goal

abbrev pub invariant-loop-k : goal.invariant-loop-k
invariant-loop-k l =
    (j : ℕ) → j < l.k → slice_index_or l.tiles j None ≡ None → HoldsCentres l.all (grid_of l.window (l.first + j))
