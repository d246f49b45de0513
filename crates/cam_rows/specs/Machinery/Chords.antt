-- Chords of circles, by how far the centres of a row lie to the right of the circle's middle.
use Rattle.std.specs.Prelude.{Bool, false, ◌≡◌, ℕ, ◌+◌, ◌-◌, ◌*◌, ℤ, pos, ◌+ℤ◌, ◌-ℤ◌, ◌*ℤ◌, ◌≤ℤ◌, ◌<ℤ◌, ◌^◌, ◌<◌, ◌≤◌, ◌⊎◌}
use Rattle.std.specs.Int.RustNames.{unsigned_abs}
use Rattle.cam_units.specs.declared.point.Point.{Point}
use Rattle.cam_shapes.specs.Plane.{seen_from, square}
use Rattle.cam_rows.specs.declared.centres.Centres.{Centres}
use Rattle.cam_rows.specs.declared.chord.Chord.{Chord}
use Rattle.cam_rows.specs.declared.chord.side.ChordSide.{ChordSide}
use Rattle.cam_rows.specs.declared.chord.Offsets.{Offsets}
use Rattle.cam_rows.specs.Rows.{centre_at, first_centre, row_below}
use Rattle.cam_rows.specs.Runs.{most_columns}

-- how far a centre lies to the right, by the leftmost one and the step
abbrev pub offset : ℤ → ℤ → ℕ → ℤ
offset first step i = first +ℤ pos i *ℤ step

-- the leftmost centre and another lie near enough that 64 bits hold their distance
abbrev pub AreShort : ℤ → ℤ → ℕ → Type 0
AreShort first step i = (unsigned_abs first < 2 ^ 33) × (unsigned_abs (offset first step i) < 2 ^ 33)

-- centres of wide rows, each right of the one before it, as near as that
pub record AreWideOffsets (o : Offsets) : Type 0 where
  pub step : pos 1 ≤ℤ o.step
  pub short : (i : ℕ) → i < o.count → AreShort o.first o.step i

-- how far the centres of a row lie to the right of a point
pub record AreOffsetsFrom (row : Centres) (p : Point) (o : Offsets) : Type 0 where
  pub each : (i : ℕ) → offset o.first o.step i ≡ (seen_from p (centre_at row i)).x
  pub step : o.step ≡ row.step
  pub count : o.count ≡ row.n

-- ---- the columns on one side of a circle's middle, counted outwards

-- how far one lies from the middle
abbrev pub distance_at : ChordSide → ℕ → ℕ
distance_at s j = s.start + j * s.step

-- a distance from the middle is past half a chord, where the square of the half is so
abbrev pub IsBeyond : ℕ → ℕ → Type 0
IsBeyond distance room = room ≤ distance * distance

-- the next one after those in the chord is known, and all of them lie within a reach, of which 128 bits hold the square
pub record IsSide (reach : ℕ) (s : ChordSide) : Type 0 where
  pub some : 1 ≤ s.step
  pub start : s.start < reach
  pub step : s.step < 2 ^ 63
  pub within : s.inside ≤ s.columns
  pub next : s.next ≡ distance_at s s.inside
  pub near : (j : ℕ) → j < s.columns → distance_at s j < reach
  pub far : reach ≤ 2 ^ 34
  pub fits : s.room < reach * reach

-- those that are taken to be in the chord are
abbrev pub AreNear : ChordSide → ℕ → Type 0
AreNear s room = (j : ℕ) → j < s.inside → IsBeyond (distance_at s j) room → ⊥

-- the others are not
abbrev pub AreBeyond : ChordSide → ℕ → Type 0
AreBeyond s room = (j : ℕ) → s.inside ≤ j → j < s.columns → IsBeyond (distance_at s j) room

pub record HasReached (s : ChordSide) (room : ℕ) : Type 0 where
  pub near : AreNear s room
  pub beyond : AreBeyond s room

-- the same columns
pub record IsSameSide (s t : ChordSide) : Type 0 where
  pub start : t.start ≡ s.start
  pub step : t.step ≡ s.step
  pub columns : t.columns ≡ s.columns

-- ---- chords

-- in a chord, where the squares of its halves are so
abbrev pub IsInChord : ℤ → ℕ → ℕ → Type 0
IsInChord x to_left to_right =
    ((x <ℤ pos 0) × (square x <ℤ pos to_left)) ⊎ ((pos 0 ≤ℤ x) × (square x <ℤ pos to_right))

-- how far to the right a column of a chord's rows lies
abbrev pub column_offset : Chord → ℕ → ℤ
column_offset c i = offset c.offsets.first c.offsets.step i

-- its sides have the columns to the left and to the right of the middle, and have reached the ends of a chord
pub record IsChord (reach : ℕ) (c : Chord) : Type 0 where
  pub few : c.offsets.count ≤ most_columns
  pub columns : c.left.columns + c.right.columns ≡ c.offsets.count
  pub left : IsSide reach c.left
  pub right : IsSide reach c.right
  pub left_reached : HasReached c.left c.left.room
  pub right_reached : HasReached c.right c.right.room
  pub before : (i : ℕ) → i < c.left.columns
      → (column_offset c i ≡ pos 0 -ℤ pos (distance_at c.left (c.left.columns - 1 - i))) × (column_offset c i <ℤ pos 0)
  pub after : (i : ℕ) → c.left.columns ≤ i → i < c.offsets.count
      → column_offset c i ≡ pos (distance_at c.right (i - c.left.columns))

-- its columns lie to the left of the middle, or to the right, only where that is said
pub record AreOnSides (left right : Bool) (c : Chord) : Type 0 where
  pub none_left : left ≡ false → c.left.columns ≡ 0
  pub none_right : right ≡ false → c.right.columns ≡ 0

-- the centres of so many rows lie within a reach of a point, to the side and up or down, and a bound is less than its
-- square
pub record AreWithin (reach : ℕ) (p : Point) (most : ℕ) (top : Centres) (n : ℕ) : Type 0 where
  pub columns : (i : ℕ) → i < top.n → unsigned_abs (seen_from p (centre_at top i)).x < reach
  pub rows : (k : ℕ) → k < n → unsigned_abs (seen_from p (first_centre (row_below top k))).y < reach
  pub bound : most < reach * reach
  pub far : reach ≤ 2 ^ 34
