-- Tiles: the pixels of a window in squares of 64 by 64, counted from the top left, row by row. Those at the right and at
-- the lower edge may be smaller.
use Rattle.std.specs.Prelude.{ℕ, zero, suc, ◌+◌, ◌*◌, ◌-◌, ◌/◌, ◌%◌, ◌^◌, ◌<◌, ◌≤◌, min, nat_lt, pos, ◌+ℤ◌, ◌-ℤ◌, ◌*ℤ◌, ◌≤ℤ◌}
use Rattle.std.specs.Prelude.{Bool, ◌&&◌, if◌then◌else◌, List, map}
use Rattle.std.specs.List.{range_with_len}
use Rattle.cam_units.specs.Board.{IsPlace}
use Rattle.cam_units.specs.declared.point.Spot.{Spot}
use Rattle.cam_tiles.specs.declared.grid.Grid.{Grid}
use Rattle.cam_tiles.specs.declared.window.Window.{Window}
use Rattle.cam_tiles.specs.Picture.{centre_of}

-- how many tiles stand side by side, and how many one above another
abbrev pub across : Window → ℕ
across w = (w.width + 63) / 64

abbrev pub tiles_down : Window → ℕ
tiles_down w = (w.height + 63) / 64

-- how many tiles a window has
abbrev pub tiles_of : Window → ℕ
tiles_of w = across w * tiles_down w

-- the tile of a pixel
abbrev pub tile_of : Window → ℕ → ℕ → ℕ
tile_of w column row = (row / 64) * across w + column / 64

-- the first column and the first row of a tile
abbrev pub first_column : Window → ℕ → ℕ
first_column w k = 64 * (k % across w)

abbrev pub top : Window → ℕ → ℕ
top w k = 64 * (k / across w)

-- its sides in pixels
abbrev pub columns : Window → ℕ → ℕ
columns w k = min 64 (w.width - first_column w k)

abbrev pub rows : Window → ℕ → ℕ
rows w k = min 64 (w.height - top w k)

-- the centres of its pixels
abbrev pub grid_of : Window → ℕ → Grid
grid_of w k = record {
  x = (centre_of w (first_column w k) (top w k)).x;
  y = (centre_of w (first_column w k) (top w k)).y;
  step = pos 2 *ℤ w.pitch;
  cols = columns w k;
  rows = rows w k;
}

-- the centre in a column and a row of a grid, which are counted from the upper left one
abbrev pub centre_in : Grid → ℕ → ℕ → Spot
centre_in g column row = record { x = g.x +ℤ pos column *ℤ g.step; y = g.y -ℤ pos row *ℤ g.step }

-- a grid of at most 64 by 64 centres, each right of or below the one before it, all of them places of the board
pub record IsGrid (g : Grid) : Type 0 where
  pub step : pos 1 ≤ℤ g.step
  pub columns : (1 ≤ g.cols) × (g.cols ≤ 64)
  pub rows : (1 ≤ g.rows) × (g.rows ≤ 64)
  pub centres : (column row : ℕ) → column < g.cols → row < g.rows → IsPlace (centre_in g column row)

-- whether an image is black at a centre of a grid; nothing past it is
abbrev pub is_black_in : (Spot → Bool) → Grid → ℕ → ℕ → Bool
is_black_in image g row column =
    nat_lt row g.rows && (nat_lt column g.cols && image (centre_in g column row))

-- the number whose bit i is set where `bit` says so, for each i under n
unfoldable pub word : (ℕ → Bool) → ℕ → ℕ
word bit zero = 0
word bit (suc n) = word bit n + (if bit n then 2 ^ n else 0)

-- an image in the 64 rows of a grid's tile, from the top: bit i of a row is the centre in column i
unfoldable pub tile_rows : (Spot → Bool) → Grid → List ℕ
tile_rows image g = map (λ row. word (is_black_in image g row) 64) (range_with_len 0 64)
