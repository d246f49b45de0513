-- Rows of centres by their heights, as code of 64 bits computes them, and those that lie between two heights.
use Rattle.std.proofs.Common.{rules, ◌≡◌, ◌↔◌, ℕ, ◌-◌, ◌<◌, ℤ, pos, ◌+ℤ◌, ◌-ℤ◌, ◌*ℤ◌, ◌≤ℤ◌, arith}
use Rattle.std.specs.Int.RustNames.{unsigned_abs}
use Rattle.std.proofs.lemmas.Int.{ints}
use Rattle.cam_refusals.specs.Limits.{board_limit}
use Rattle.cam_units.specs.Board.{IsOnBoard, place_limit}
use Rattle.cam_units.specs.declared.point.Point.{Point}
use Rattle.cam_units.specs.declared.point.Spot.{Spot}
use Rattle.cam_objects.specs.Image.{relative}
use Rattle.cam_tiles.specs.declared.grid.Grid.{Grid}
use Rattle.cam_tiles.specs.declared.lattice.Lattice.{Lattice}
use Rattle.cam_tiles.specs.declared.levels.Levels.{Levels}
use Rattle.cam_tiles.specs.declared.masks.heights.Heights.{Heights}
use Rattle.cam_tiles.specs.Machinery.Lattices.{IsLattice, place_at}
use Rattle.cam_tiles.specs.Machinery.Levels.{AreLevels, IsOnRow, height, levels_of}
use Rattle.cam_tiles.specs.Machinery.Masks.{IsWithin}
use Rattle.cam_tiles.specs.Tiles.{IsGrid, centre_in}
use Rattle.cam_tiles.proofs.Lattices.{further, some_steps}
use Rattle.cam_tiles.proofs.StepLemmas.{no_step_down}

-- ---- the heights themselves

module _ (l : Levels) (levels : AreLevels l) where
  pub top_short : unsigned_abs l.top < 4000000000
  top_short = grind (arith, no_step_down)

  module _ (row : ℕ) (within : row < l.rows) where
    pub below_top : height l row ≤ℤ l.top
    below_top = grind (arith, some_steps, ints)

    pub over_bottom : height l (l.rows - 1) ≤ℤ height l row
    over_bottom = grind (arith, further, ints)

-- ---- the rows of a grid

-- its heights are on the board
pub of_grid : (g : Grid) → IsGrid g → AreLevels (levels_of g)
of_grid g grid = grind arith

way_near : (y at d : ℤ) → unsigned_abs (y -ℤ d) < place_limit → unsigned_abs at < board_limit
    → unsigned_abs (y -ℤ pos 2 *ℤ at -ℤ d) < 4000000000
way_near y at d near short = omega (arith, ints)

seen_first : (y at d : ℤ) → y -ℤ d -ℤ pos 2 *ℤ at ≡ y -ℤ pos 2 *ℤ at -ℤ d
seen_first y at d = omega (arith, ints)

-- the same heights, as they are seen from a point
module _ (g : Grid) (at : Point) (top step : ℤ) (is_top : top ≡ g.y -ℤ pos 2 *ℤ at.y) (is_step : step ≡ g.step) where
  abbrev seen : Levels
  seen = record { top = top; step = step; rows = g.rows }

  pub are_seen : IsGrid g → IsOnBoard at → AreLevels seen
  are_seen grid board = grind (arith, way_near)

  pub on_seen_row : (row : ℕ) → row < g.rows → IsOnRow seen row (relative at (centre_in g 0 row))
  on_seen_row row within = (within, rw (is_top, is_step) (seen_first g.y at.y (pos row *ℤ g.step)))

-- ---- the mirrored heights, which are places in order

mirrored_near : (y d : ℤ) → unsigned_abs (y -ℤ d) < 4000000000 → unsigned_abs (pos 0 -ℤ pos 1 -ℤ y +ℤ d) < 8000000000
mirrored_near y d near = omega (arith, ints)

mirrored_between : (y top d low high : ℤ) → y ≡ top -ℤ d
    → (((pos 0 -ℤ pos 1 -ℤ high) ≤ℤ (pos 0 -ℤ pos 1 -ℤ top +ℤ d)) × ((pos 0 -ℤ pos 1 -ℤ top +ℤ d) ≤ℤ (pos 0 -ℤ pos 1 -ℤ low)))
    ↔ ((low ≤ℤ y) × (y ≤ℤ high))
mirrored_between y top d low high e = search (rules, ints)

module _ (l : Levels) (levels : AreLevels l) (first step : ℤ) (is_first : first ≡ pos 0 -ℤ pos 1 -ℤ l.top)
    (is_step : step ≡ l.step) where
  abbrev pub mirrored : Lattice
  mirrored = record { first = first; step = step; count = l.rows }

  pub are_places : IsLattice mirrored
  are_places = grind (arith, mirrored_near)

  pub between_heights : (h : Heights) (low high : ℤ) (row : ℕ) (s : Spot) → low ≡ pos 0 -ℤ pos 1 -ℤ h.high
      → high ≡ pos 0 -ℤ pos 1 -ℤ h.low → IsOnRow l row s
      → ((low ≤ℤ place_at mirrored row) × (place_at mirrored row ≤ℤ high)) ↔ IsWithin h s
  between_heights h low high row s is_low is_high on =
      rw (is_low, is_high, is_first, is_step) (mirrored_between s.y l.top (pos row *ℤ l.step) h.low h.high on.1)
