-- The tiles that boxes touch: those that hold a pixel centre in one of them.
use Rattle.std.specs.Prelude.{ℕ, ◌+◌, Bool, false, ◌&&◌, if◌then◌else◌, List, [], ◌∷◌, None, fold}
use Rattle.std.specs.Int.RustNames.{int_le}
use Rattle.std.specs.List.{list_any, range_with_len}
use Rattle.cam_units.specs.declared.bounds.Bounds.{Bounds}
use Rattle.cam_units.specs.declared.bounds.Bounds.TheVariants.{Empty, Closed}
use Rattle.cam_units.specs.declared.point.Spot.{Spot}
use Rattle.cam_tiles.specs.declared.window.Window.{Window}
use Rattle.cam_tiles.specs.Picture.{centre_of}
use Rattle.cam_tiles.specs.Tables.{Table, Tile}
use Rattle.cam_tiles.specs.Tiles.{columns, first_column, rows, top}

-- whether the place lies in the box or on its edge
abbrev pub holds : Bounds → Spot → Bool
holds Empty s = false
holds (Closed low high) s =
    (int_le low.x s.x && int_le s.x high.x) && (int_le low.y s.y && int_le s.y high.y)

-- whether the centre of some pixel of the tile lies there
unfoldable pub touches : Window → Bounds → ℕ → Bool
touches w box k =
    list_any (λ row. list_any (λ column. holds box (centre_of w column row)) (range_with_len (first_column w k) (columns w k)))
    (range_with_len (top w k) (rows w k))

-- the tiles from number k on, without those that a test names
abbrev pub wiped_from : (ℕ → Bool) → ℕ → List Tile → List Tile
wiped_from is_wiped k [] = []
wiped_from is_wiped k (tile ∷ tiles) =
    (if is_wiped k then None else tile) ∷ wiped_from is_wiped (k + 1) tiles

-- the tiles that the box touches are dirty
abbrev pub box_touched : Bounds → Table → Table
box_touched box t = record { window = t.window; tiles = wiped_from (touches t.window box) 0 t.tiles }

-- and so are those that several boxes touch
abbrev pub touched_by : List Bounds → Table → Table
touched_by boxes t = fold (λ before box. box_touched box before) t boxes

-- whether one of the boxes touches the tile
abbrev pub is_touched : Window → List Bounds → ℕ → Bool
is_touched w boxes k = list_any (λ box. touches w box k) boxes
