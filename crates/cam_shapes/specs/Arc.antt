-- Arc strokes (Gerber Layer Format Specification, "Plotting": circular).
use Rattle.std.specs.Prelude.{◌≡◌, ◌↔◌, ℕ, ◌+◌, ◌*◌, ◌≤◌, ℤ, pos, ◌+ℤ◌, ◌-ℤ◌, ◌*ℤ◌, ◌≤ℤ◌, ◌<ℤ◌, ◌⊎◌, Bool, true, false}
use Rattle.cam_units.specs.declared.point.Spot.{Spot}
use Rattle.cam_units.specs.Board.{IsOnBoard, IsSize}
use Rattle.cam_shapes.specs.declared.vector.Vector.{Vector}
use Rattle.cam_shapes.specs.declared.arc.Arc.{Arc}
use Rattle.cam_shapes.specs.Plane.{cross, dot, seen_from, square, way, IsBetween, IsNoLonger}

-- the limits of an arc
pub record IsSoundArc (a : Arc) : Type 0 where
  pub from : IsOnBoard a.from
  pub to : IsOnBoard a.to
  pub centre : IsOnBoard a.centre
  pub width : IsSize a.width.0

-- the sweep counterclockwise from s to e is at most a half turn
abbrev pub IsNarrow : Vector → Vector → Type 0
IsNarrow s e = (pos 0 <ℤ cross s e) ⊎ ((cross s e ≡ pos 0) × (dot s e <ℤ pos 0))

-- the sweep counterclockwise from s to e holds v: it is a full turn where s is e
abbrev pub IsInSweep : Vector → Vector → Vector → Type 0
IsInSweep s e v =
    (s ≡ e)
    ⊎ (IsNarrow s e × (pos 0 ≤ℤ cross s v) × (pos 0 ≤ℤ cross v e))
    ⊎ ((cross s e <ℤ pos 0) × ((pos 0 ≤ℤ cross s v) ⊎ (pos 0 ≤ℤ cross v e)))

-- a clockwise sweep is the counterclockwise one from its end to its start
abbrev pub IsSwept : Bool → Vector → Vector → Vector → Type 0
IsSwept true s e v = IsInSweep s e v
IsSwept false s e v = IsInSweep e s v

-- p and q are the squares of a place's distance from the centre and of a circle's radius. These
-- two lengths differ by at most r where p + q - r * r is at most twice their product: where it is
-- not positive,
abbrev pub IsSumWithin : ℤ → ℤ → ℤ → Type 0
IsSumWithin p q r = (p +ℤ q) ≤ℤ square r

-- or where its square is at most that of twice their product
abbrev pub IsBetweenCircles : ℤ → ℤ → ℤ → Type 0
IsBetweenCircles p q r = square (p +ℤ q -ℤ square r) ≤ℤ (pos 4 *ℤ p *ℤ q)

-- the place is at most r from the circle
abbrev pub IsNearCircle : ℤ → ℤ → ℤ → Type 0
IsNearCircle p q r = IsSumWithin p q r ⊎ IsBetweenCircles p q r

-- s, e and v are the start, the end and the place as they are seen from the centre
abbrev pub IsOnArc : Vector → Vector → Vector → Arc → Type 0
IsOnArc s e v a = IsSwept a.ccw s e v × IsNearCircle (dot v v) (dot s s) a.width.0

-- in a disc about an end, or in the sweep and near the circle through the start
abbrev pub IsNearArc : Spot → Arc → Type 0
IsNearArc s a =
    IsNoLonger (seen_from a.from s) a.width.0
    ⊎ IsNoLonger (seen_from a.to s) a.width.0
    ⊎ IsOnArc (way a.centre a.from) (way a.centre a.to) (seen_from a.centre s) a

-- the stroke of a round tool of radius w half nanometres, where w is the width in nanometres
pub record IsInArc (s : Spot) (a : Arc) : Type 0 where
  pub wide : pos 0 <ℤ a.width.0
  pub near : IsNearArc s a

-- the same inequality, with a right side that is short where r is
abbrev pub CircleFormsLaw : Type 0
CircleFormsLaw =
    (p q r : ℤ) → IsBetweenCircles p q r ↔ square (p -ℤ q -ℤ square r) ≤ℤ (pos 4 *ℤ square r *ℤ q)

-- where m is more than the circle's radius, a place in the stroke is at most m + w to each side of
-- the centre, or in a disc about an end
abbrev pub ArcSquareLaw : Type 0
ArcSquareLaw =
    (s : Spot) (a : Arc) (m : ℕ)
    → dot (way a.centre a.from) (way a.centre a.from) <ℤ pos (m * m)
    → IsInArc s a
    → IsBetween (seen_from a.centre s) (pos m +ℤ a.width.0) (pos m +ℤ a.width.0)
    ⊎ IsNoLonger (seen_from a.from s) a.width.0
    ⊎ IsNoLonger (seen_from a.to s) a.width.0

-- of a place at m from the centre, and a circle of radius n, both whole: it is at most r from
-- the circle exactly where m and n differ by at most r
abbrev pub CircleDistanceLaw : Type 0
CircleDistanceLaw =
    (m n r : ℕ) → IsNearCircle (pos (m * m)) (pos (n * n)) (pos r) ↔ ((m ≤ n + r) × (n ≤ m + r))
