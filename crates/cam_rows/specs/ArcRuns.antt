-- An arc's stroke by runs: what its outer circle and a sweep of at most a half turn hold, without what its inner circle
-- holds and what a wider sweep leaves out; and the discs about its ends.
use Rattle.std.specs.Prelude.{◌↔◌, ◌⊎◌, ℕ, ◌^◌, ◌<◌, ◌≤◌, ℤ, pos, ◌≤ℤ◌, ◌<ℤ◌, Bool, true, false}
use Rattle.cam_units.specs.declared.point.Spot.{Spot}
use Rattle.cam_shapes.specs.declared.arc.Arc.{Arc}
use Rattle.cam_shapes.specs.declared.disc.Disc.{Disc}
use Rattle.cam_shapes.specs.declared.vector.Vector.{Vector}
use Rattle.cam_shapes.specs.Arc.{IsInArc, IsInSweep, IsNearCircle}
use Rattle.cam_shapes.specs.Disc.{IsInDisc}
use Rattle.cam_shapes.specs.Plane.{cross, dot, seen_from, way}
use Rattle.cam_rows.specs.declared.ring.Ring.{Ring}

-- the squares of how far a place lies from an arc's centre, and of the radius of its circle
abbrev pub distance_of : Arc → Spot → ℤ
distance_of a s = dot (seen_from a.centre s) (seen_from a.centre s)

abbrev pub radius_of : Arc → ℤ
radius_of a = dot (way a.centre a.from) (way a.centre a.from)

-- the square of a distance, from the inner circle on and up to the outer one
abbrev pub IsRingSquare : Ring → ℕ → Type 0
IsRingSquare r p = (r.inner ≤ p) × (p < r.outer)

-- the squares of distances from the centre at which places are near the arc's circle
pub record IsRingOf (r : Ring) (a : Arc) : Type 0 where
  pub near : (p : ℕ) → IsNearCircle (pos p) (radius_of a) a.width.0 ↔ IsRingSquare r p
  pub inner : r.inner < 2 ^ 68
  pub outer : r.outer < 2 ^ 68

-- the place is near the arc's circle
abbrev pub IsInRing : Arc → Spot → Type 0
IsInRing a s = IsNearCircle (distance_of a s) (radius_of a) a.width.0

-- the sweep counterclockwise from s to e holds v, or is more than a half turn
abbrev pub IsInHalf : Vector → Vector → Vector → Type 0
IsInHalf s e v = IsInSweep s e v ⊎ (cross s e <ℤ pos 0)

-- the sweep counterclockwise from s to e is more than a half turn, and leaves v out
abbrev pub IsLeftOut : Vector → Vector → Vector → Type 0
IsLeftOut s e v = (cross s e <ℤ pos 0) × (cross s v <ℤ pos 0) × (cross v e <ℤ pos 0)

-- the sweep counterclockwise from s to e is more than a half turn
abbrev pub IsPastHalf : Vector → Vector → Type 0
IsPastHalf s e = cross s e <ℤ pos 0

-- a clockwise sweep is the counterclockwise one from its end to its start
abbrev pub by_turn : (Vector → Vector → Vector → Type 0) → Bool → Vector → Vector → Vector → Type 0
by_turn P true s e v = P s e v
by_turn P false s e v = P e s v

-- the same of an arc's sweep and a place
abbrev pub in_turn : (Vector → Vector → Vector → Type 0) → Arc → Spot → Type 0
in_turn P a s = by_turn P a.ccw (way a.centre a.from) (way a.centre a.to) (seen_from a.centre s)

-- an arc's sweep is more than a half turn
abbrev pub IsWideArc : Arc → Type 0
IsWideArc a = by_turn (λ s e _. IsPastHalf s e) a.ccw (way a.centre a.from) (way a.centre a.to) (way a.centre a.to)

-- nearer to the centre than the outer circle, or on it, and in the sweep, where that is at most a half turn; nowhere
-- where the width is 0
pub record IsOuter (a : Arc) (s : Spot) : Type 0 where
  pub wide : pos 0 <ℤ a.width.0
  pub near : IsInRing a s ⊎ (distance_of a s ≤ℤ radius_of a)
  pub turn : in_turn IsInHalf a s

-- nearer to the centre than the inner circle
pub record IsHollow (a : Arc) (s : Spot) : Type 0 where
  pub near : distance_of a s ≤ℤ radius_of a
  pub far : IsInRing a s → ⊥

-- outside of the sweep, where that is more than a half turn
abbrev pub IsBeyond : Arc → Spot → Type 0
IsBeyond a s = in_turn IsLeftOut a s

-- the discs about its ends
abbrev pub start_disc : Arc → Disc
start_disc a = record { centre = a.from; diameter = a.width }

abbrev pub end_disc : Arc → Disc
end_disc a = record { centre = a.to; diameter = a.width }

abbrev pub ArcRunsLaw : Type 0
ArcRunsLaw =
    (s : Spot) (a : Arc)
    → IsInArc s a
    ↔ ((IsOuter a s × (IsHollow a s → ⊥) × (IsBeyond a s → ⊥)) ⊎ IsInDisc s (start_disc a) ⊎ IsInDisc s (end_disc a))
