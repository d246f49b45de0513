-- Indexes of many lists of leaves: which of the lists paint the places in each row of tiles of a box.
use Rattle.std.specs.Prelude.{◌≡◌, ℕ, ◌+◌, ◌-◌, ◌*◌, ◌<◌, ◌≤◌, min, pos, ◌*ℤ◌, true, if◌then◌else◌, List, [], length, All}
use Rattle.std.specs.Prelude.{IfSome, drop, reverse, take}
use Rattle.std.specs.List.{flat_map, slice_index_or}
use Rattle.cam_units.specs.Boxes.{Holds, IsInBox}
use Rattle.cam_units.specs.declared.bounds.Bounds.{Bounds}
use Rattle.cam_units.specs.declared.point.Spot.{Spot}
use Rattle.cam_objects.specs.Bounds.{bounds_of}
use Rattle.cam_objects.specs.Leaves.{Leaf}
use Rattle.cam_objects.specs.Tests.{last_ink}
use Rattle.cam_tiles.specs.declared.index.Boxed.{Boxed}
use Rattle.cam_tiles.specs.declared.index.Index.{Index}
use Rattle.cam_tiles.specs.declared.index.Listed.{Listed}
use Rattle.cam_tiles.specs.declared.index.seen.Seen.{Seen}
use Rattle.cam_tiles.specs.declared.levels.Levels.{Levels}
use Rattle.cam_tiles.specs.declared.window.Window.{Window}
use Rattle.cam_tiles.specs.Machinery.Levels.{IsOnRow}
use Rattle.cam_tiles.specs.Machinery.Parts.{IsPartsOf}
use Rattle.cam_tiles.specs.Machinery.RowLists.{AreListed, no_box, reaches}
use Rattle.cam_tiles.specs.Picture.{middle}
use Rattle.cam_tiles.specs.Tiles.{tiles_down}

-- leaves of which the last one that covers a place has the same polarity, at each place that is seen
abbrev pub PaintAlike : (Spot → Type 0) → List Leaf → List Leaf → Type 0
PaintAlike IsSeen a b = (s : Spot) → IsSeen s → last_ink a s ≡ last_ink b s

-- the heights of the rows of pixels in a row of tiles
abbrev pub row_levels : Window → ℕ → Levels
row_levels w row = record {
  top = middle w.y w.pitch (w.height - 1 - 64 * row);
  step = pos 2 *ℤ w.pitch;
  rows = min 64 (w.height - 64 * row);
}

-- a place in one of some rows
abbrev pub IsOnLevels : Levels → Spot → Type 0
IsOnLevels levels s = (row : ℕ) × IsOnRow levels row s

-- a place of a box in a row of tiles
abbrev pub IsSeen : Window → Bounds → ℕ → Spot → Type 0
IsSeen w within row s = Holds within s × IsOnLevels (row_levels w row) s

-- the corners of a box, and the rows of tiles in which some place of it is seen
pub record IsBoxOf (w : Window) (within box : Bounds) (b : Boxed) : Type 0 where
  pub corners : (s : Spot) → Holds box s → IsInBox b.low b.high s
  pub rows : (row : ℕ) (s : Spot) → IsSeen w within row s → Holds box s → reaches row b ≡ true
  pub ends : b.rows.end ≤ tiles_down w

-- the leaves at a place of the lists lie between the corners
pub record IsBoxed (lists : List (List Leaf)) (b : Boxed) : Type 0 where
  pub within : b.place < length lists
  pub corners : (s : Spot) → Holds (bounds_of (slice_index_or lists b.place [])) s → IsInBox b.low b.high s

-- the leaves at the place of a box that reaches a row, and none at that of another
abbrev pub leaves_in : List (List Leaf) → ℕ → Boxed → List Leaf
leaves_in lists row b = if reaches row b then slice_index_or lists b.place [] else []

-- the lists whose boxes have some numbers, one after another
abbrev pub numbered_leaves : List (List Leaf) → List Boxed → List ℕ → List Leaf
numbered_leaves lists boxed numbers =
    flat_map (λ k. slice_index_or lists (slice_index_or boxed k no_box).place []) numbers

-- ---- lists that are looked at from the last one on

-- the lists from a place on, one after another
abbrev pub all_from : List (List Leaf) → ℕ → List Leaf
all_from lists n = flat_map (λ those. those) (drop n lists)

-- those whose boxes reach a row, one after another, where the boxes come from the last on
abbrev pub last_leaves : List (List Leaf) → ℕ → List Boxed → List Leaf
last_leaves lists row boxed = flat_map (leaves_in lists row) (reverse boxed)

-- The lists from a place on have been looked at: in each row of tiles of a box, painting those of them whose boxes reach
-- the row is painting all of them, in order.
pub record AreSeenFrom (lists : List (List Leaf)) (w : Window) (within : Bounds) (n : ℕ) (boxed : List Boxed)
    : Type 0 where
  pub each : All (IsBoxed lists) boxed
  pub ends : All (λ b. b.rows.end ≤ tiles_down w) boxed
  pub enough : (row : ℕ) → PaintAlike (IsSeen w within row) (last_leaves lists row boxed) (all_from lists n)
  pub few : length boxed + n ≤ length lists

abbrev pub AreSeenBy : List (List Leaf) → Window → Seen → Type 0
AreSeenBy lists w s = AreSeenFrom lists w s.within s.left s.boxed.items

-- what was found before comes first
pub record IsBegunBy (old new : Seen) : Type 0 where
  pub within : new.within ≡ old.within
  pub boxed : take (length old.boxed.items) new.boxed.items ≡ old.boxed.items

-- All lists were looked at, the numbers of those that reach each row of tiles are listed, and the heights of contours are
-- those of their parts.
pub record AreListsOf (lists : List (List Leaf)) (w : Window) (seen : Seen) (l : Listed) : Type 0 where
  pub all : seen.left ≡ 0
  pub rows : length l.rows.starts.items ≡ tiles_down w + 1
  pub listed : AreListed seen.boxed.items l.rows
  pub contours : All (IsPartsOf lists) l.contours.items

pub record IsIndexOf (lists : List (List Leaf)) (w : Window) (i : Index) : Type 0 where
  pub seen : AreSeenBy lists w i.seen
  pub listed : IfSome i.listed (AreListsOf lists w i.seen)
