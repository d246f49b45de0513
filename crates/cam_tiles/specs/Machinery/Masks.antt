-- Masks: which centres of a grid are marked, by 64 rows of 64 bits.
use Rattle.std.specs.Prelude.{◌≡◌, ◌↔◌, ℕ, ◌^◌, ◌==◌, ◌<◌, ◌⊎◌, Bool, true, false, List, length, slice_index, ℤ, pos, ◌+ℤ◌, ◌-ℤ◌, ◌*ℤ◌, ◌≤ℤ◌}
use Rattle.std.specs.Int.{IsBitSet, bit_at, int_max, int_min}
use Rattle.cam_units.specs.Boxes.{Holds}
use Rattle.cam_units.specs.declared.bounds.Bounds.{Bounds}
use Rattle.cam_units.specs.declared.point.Point.{Point}
use Rattle.cam_units.specs.declared.point.Spot.{Spot}
use Rattle.cam_tiles.specs.declared.grid.Grid.{Grid}
use Rattle.cam_tiles.specs.declared.masks.heights.Heights.{Heights}
use Rattle.cam_tiles.specs.declared.masks.join.Join.{Join}
use Rattle.cam_tiles.specs.declared.masks.join.Join.TheVariants.{Add, Clear}
use Rattle.cam_tiles.specs.declared.masks.mask.Mask.TheInside.{Inside}
use Rattle.cam_tiles.specs.Tiles.{IsGrid, centre_in}

pub record Marking : Type 0 where
  pub grid : Grid
  pub rows : List ℕ

-- whether a grid has a centre in a column and a row
abbrev pub IsIn : Grid → ℕ → ℕ → Type 0
IsIn g column row = (column < g.cols) × (row < g.rows)

-- bit i of a row, which is counted from the top, is the centre in column i
abbrev pub IsMarked : Marking → ℕ → ℕ → Type 0
IsMarked m column row = IsBitSet (slice_index m.rows row) column

-- 64 rows of 64 bits, of which none is set past the grid
pub record IsMask (m : Marking) : Type 0 where
  pub grid : IsGrid m.grid
  pub whole : length m.rows ≡ 64
  pub fit : (row : ℕ) → slice_index m.rows row < 2 ^ 64
  pub inside : (column row : ℕ) → column < 64 → row < 64 → IsMarked m column row → IsIn m.grid column row

-- a box with all centres of a grid
abbrev pub HoldsCentres : Bounds → Grid → Type 0
HoldsCentres box g = (column row : ℕ) → IsIn g column row → Holds box (centre_in g column row)

-- what is seen of a mask, beside which it keeps the box of its centres
abbrev pub marking_of : Inside → Marking
marking_of m = record { grid = m.grid; rows = m.rows }

pub record IsBoxedMask (m : Inside) : Type 0 where
  pub mask : IsMask (marking_of m)
  pub bounds : HoldsCentres m.bounds m.grid

-- no centre is marked
abbrev pub IsBlank : Marking → Type 0
IsBlank m = (column row : ℕ) → IsIn m.grid column row → IsMarked m column row → ⊥

-- what marks become: those of a shape are added or cleared
abbrev pub joined : Join → Type 0 → Type 0 → Type 0
joined Add was held = was ⊎ held
joined Clear was held = was × (held → ⊥)

-- or turn what was
abbrev pub turned_over : Type 0 → Type 0 → Type 0
turned_over was held = (was × (held → ⊥)) ⊎ ((was → ⊥) × held)

-- what is dark is added, what is clear is cleared
abbrev pub inked : Bool → Join
inked true = Add
inked false = Clear

-- the marks of a grid, joined with the places of a shape
pub record Joins (how : Join) (IsHeld : Spot → Type 0) (old new : Marking) : Type 0 where
  pub grid : new.grid ≡ old.grid
  pub marks : (column row : ℕ) → IsIn old.grid column row
      → IsMarked new column row ↔ joined how (IsMarked old column row) (IsHeld (centre_in old.grid column row))

-- and with the marks of another mask
pub record Merges (how : Join) (other old new : Marking) : Type 0 where
  pub grid : new.grid ≡ old.grid
  pub marks : (column row : ℕ) → IsIn old.grid column row
      → IsMarked new column row ↔ joined how (IsMarked old column row) (IsMarked other column row)

-- whether a pixel is dark: it is marked
abbrev pub ink_of : Marking → ℕ → ℕ → Bool
ink_of m column row = bit_at (slice_index m.rows row) column == 1

-- the marks of a grid, turned over at the places of a shape, or by another mask
pub record Turns (IsHeld : Spot → Type 0) (old new : Marking) : Type 0 where
  pub grid : new.grid ≡ old.grid
  pub marks : (column row : ℕ) → IsIn old.grid column row
      → IsMarked new column row ↔ turned_over (IsMarked old column row) (IsHeld (centre_in old.grid column row))

pub record TurnsBy (other old new : Marking) : Type 0 where
  pub grid : new.grid ≡ old.grid
  pub marks : (column row : ℕ) → IsIn old.grid column row
      → IsMarked new column row ↔ turned_over (IsMarked old column row) (IsMarked other column row)

-- the centres of a grid that are marked are those that a shape holds
pub record AreMarksOf (g : Grid) (IsHeld : Spot → Type 0) (m : Marking) : Type 0 where
  pub grid : m.grid ≡ g
  pub marks : (column row : ℕ) → IsIn g column row → IsMarked m column row ↔ IsHeld (centre_in g column row)

-- a height between two, or at one of them
abbrev pub IsWithin : Heights → Spot → Type 0
IsWithin h s = (h.low ≤ℤ s.y) × (s.y ≤ℤ h.high)

-- heights so far to both sides of a point
pub record AreAbout (p : Point) (r : ℤ) (h : Heights) : Type 0 where
  pub low : h.low ≡ pos 2 *ℤ p.y -ℤ r
  pub high : h.high ≡ pos 2 *ℤ p.y +ℤ r

-- the heights of the way between two points, and so far above and below it
pub record AreAlong (p q : Point) (r : ℤ) (h : Heights) : Type 0 where
  pub low : h.low ≡ pos 2 *ℤ int_min p.y q.y -ℤ r
  pub high : h.high ≡ pos 2 *ℤ int_max p.y q.y +ℤ r
