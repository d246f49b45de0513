-- Chords by walks from the middle of a circle to both sides.
use Rattle.std.proofs.Common.{◌≡◌, ◌↔◌, ℕ, ◌+◌, ◌-◌, ◌<◌, ◌≤◌, ℤ, pos, ◌<ℤ◌, inl, inr, arith}
use Rattle.std.specs.Int.RustNames.{unsigned_abs}
use Rattle.std.proofs.lemmas.Bool.{cases_lt}
use Rattle.std.proofs.lemmas.Int.{ints}
use Rattle.cam_shapes.specs.Plane.{square}
use Rattle.cam_shapes.proofs.Widths.{square_is}
use Rattle.cam_rows.specs.declared.chord.Chord.{Chord}
use Rattle.cam_rows.specs.declared.chord.side.ChordSide.{ChordSide}
use Rattle.cam_rows.specs.Machinery.Chords.{HasReached, IsBeyond, IsChord, IsInChord, IsSameSide, IsSide, distance_at}
use Rattle.cam_rows.specs.Machinery.Chords.{column_offset}
use Rattle.cam_rows.specs.Runs.{IsInRun}

-- a column is one of those that a side has reached where its distance is not past the chord
on_side : (inside j distance room : ℕ) (x : ℤ) → unsigned_abs x ≡ distance
    → (j < inside → IsBeyond distance room → ⊥) → (inside ≤ j → IsBeyond distance room)
    → (j < inside) ↔ (square x <ℤ pos room)
on_side inside j distance room x is near beyond = grind (arith, square_is, cases_lt, ints)

-- the columns of the run are those in the chord
pub in_walk : (reach : ℕ) (c : Chord) (l r : ChordSide) (to_left to_right i : ℕ) → IsChord reach c → IsSameSide c.left l
    → IsSameSide c.right r → HasReached l to_left → HasReached r to_right → IsSide reach l → IsSide reach r → i < c.offsets.count
    → IsInRun (c.left.columns - l.inside) (c.left.columns + r.inside) i ↔ IsInChord (column_offset c i) to_left to_right
in_walk reach c l r to_left to_right i chord left right left_reached right_reached left_side right_side within =
    elim (cases_lt i c.left.columns) [
      | inl before ↦
          let at = chord.before i before in
          let j = c.left.columns - 1 - i in
          let distance = distance_at c.left j in
          let few : j < l.columns = omega (arith, left.columns) in
          let near = rw (left.start, left.step) at (left_reached.near j) in
          let beyond : l.inside ≤ j → IsBeyond distance to_left =
          λ h. rw (left.start, left.step) at (left_reached.beyond j h few) in
          let told = on_side l.inside j distance to_left (column_offset c i) (omega (arith, ints, at.0)) near beyond in (
            (λ run. inl (at.1, told.0 (omega (arith, run.0, left_side.within, left.columns)))),
            (λ inside. elim inside [
              | inl less ↦
                  let h = told.1 less.1 in (omega (arith, h), omega arith)
              | inr other ↦ absurd (omega (arith, ints, at.1, other.0))
            ]),
          )
      | inr after ↦
          let at = chord.after i after within in
          let j = i - c.left.columns in
          let distance = distance_at c.right j in
          let few : j < r.columns = omega (arith, right.columns, chord.columns) in
          let near = rw (right.start, right.step) at (right_reached.near j) in
          let beyond : r.inside ≤ j → IsBeyond distance to_right =
          λ h. rw (right.start, right.step) at (right_reached.beyond j h few) in
          let told = on_side r.inside j distance to_right (column_offset c i) (omega (arith, ints, at)) near beyond in (
            (λ run. inr (omega (arith, ints, at), told.0 (omega (arith, run.1)))),
            (λ inside. elim inside [
              | inl other ↦ absurd (omega (arith, ints, at, other.0))
              | inr less ↦
                  let h = told.1 less.1 in (omega arith, omega (arith, h))
            ]),
          )
    ]
