-- How far a disc, a hole or a rectangle reaches from its centre, at the height of a row.
use Rattle.std.proofs.Common.{◌≡◌, ℕ, ◌+◌, ◌-◌, ◌*◌, ◌≤◌, ◌↔◌, ℤ, pos, ◌+ℤ◌, ◌-ℤ◌, ◌≤ℤ◌, ◌<ℤ◌, to_z, of_z, w64, arith}
use Rattle.std.specs.Int.RustNames.{unsigned_abs}
use Rattle.std.proofs.lemmas.Int.{by_lt_z, ints}
use Rattle.cam_units.specs.declared.point.Spot.{Spot}
use Rattle.cam_units.specs.Board.{IsSize}
use Rattle.cam_shapes.specs.declared.disc.Disc.{Disc}
use Rattle.cam_shapes.specs.Plane.{dot, seen_from, square}
use Rattle.cam_shapes.specs.Disc.{IsInDisc, IsInHole}
use Rattle.cam_shapes.specs.declared.vector.Vector.{Vector}
use Rattle.cam_shapes.proofs.Strokes.{dot_is}
use Rattle.cam_shapes.proofs.Widths.{square_is}
use Rattle.cam_rows.proofs.Circling.{square_of}

-- a size without its sign, as 64 bits pass it
pub cast_size : (z : ℤ) → IsSize z → unsigned_abs z ≡ unsigned_abs (to_z w64 (of_z w64 z))
cast_size z size = omega (arith, ints, size.0, size.1)

-- the places of a strip about a vertical
pub in_reach : (x middle left right : ℤ) (reach : ℕ) → left ≡ middle -ℤ pos reach → right ≡ middle +ℤ pos reach
    → (unsigned_abs (x -ℤ middle) ≤ reach) ↔ ((left ≤ℤ x) × (x ≤ℤ right))
in_reach x middle left right reach is_left is_right = grind (arith, ints)

-- discs and holes by the square of their radius
at_most_is : (z m : ℤ) (n : ℕ) → pos n ≡ m → (z ≤ℤ m) ↔ (z <ℤ pos (n + 1))
at_most_is z m n e = ((λ h. omega (arith, ints, e)), (λ h. omega (arith, ints, e)))

pub in_disc_is : (s : Spot) (d : Disc) (r bound : ℕ) → pos 0 <ℤ d.diameter.0 → r ≡ unsigned_abs d.diameter.0
    → bound ≡ r * r + 1 → IsInDisc s d ↔ (dot (seen_from d.centre s) (seen_from d.centre s) <ℤ pos bound)
in_disc_is s d r bound some e f = grind (arith, at_most_is, square_of)

-- none where its diameter is 0
pub in_no_disc : (s : Spot) (d : Disc) → d.diameter.0 ≤ℤ pos 0
    → (dot (seen_from d.centre s) (seen_from d.centre s) <ℤ pos 0) ↔ IsInDisc s d
in_no_disc s d none = (
  (λ near. absurd (omega (arith, ints, near, dot_is (seen_from d.centre s)))),
  (λ inside. absurd (omega (arith, ints, inside.some, none))),
)

pub in_hole_is : (s : Spot) (d : Disc) (r bound : ℕ) → pos 0 <ℤ d.diameter.0 → r ≡ unsigned_abs d.diameter.0
    → bound ≡ r * r → IsInHole s d ↔ (dot (seen_from d.centre s) (seen_from d.centre s) <ℤ pos bound)
in_hole_is s d r bound some e f = grind (arith, square_of)

-- also where its diameter is 0
pub in_any_hole : (s : Spot) (d : Disc) (r bound : ℕ) → IsSize d.diameter.0 → r ≡ unsigned_abs d.diameter.0
    → bound ≡ r * r → (dot (seen_from d.centre s) (seen_from d.centre s) <ℤ pos bound) ↔ IsInHole s d
in_any_hole s d r bound size e f =
    let v = seen_from d.centre s in
    let is = square_of r d.diameter.0 e in (
      (λ near. by_lt_z (pos 0) d.diameter.0
          (λ some. (in_hole_is s d r bound some e f).1 near)
          (λ none.
          let no : r ≡ 0 = omega (arith, ints, none, size.0, e) in
          absurd (omega (arith, ints, near, dot_is v, rw no at f)))),
      (λ inside. (in_hole_is s d r bound inside.some e f).0 inside),
    )

-- x and y are the legs of the way from the circle's middle
pub seen_in_chord : (v : Vector) (height bound : ℕ) → pos height ≡ square v.y
    → (square v.x <ℤ pos (bound - height)) ↔ (dot v v <ℤ pos bound)
seen_in_chord v height bound e = grind (arith, square_is, ints)
