-- The stroke of a rectangle by the box of its ends and its line.
use Rattle.std.proofs.Common.{◌≡◌, ◌↔◌, ℤ, pos, ◌≤ℤ◌, ◌<ℤ◌, arith}
use Rattle.std.specs.Int.RustNames.{unsigned_abs}
use Rattle.std.proofs.lemmas.Int.{ints}
use Rattle.cam_units.specs.Boxes.{IsInBox}
use Rattle.cam_units.specs.declared.point.Spot.{Spot}
use Rattle.cam_shapes.specs.declared.swept.Swept.{Swept}
use Rattle.cam_shapes.specs.Plane.{cross, seen_from, way}
use Rattle.cam_shapes.specs.Swept.{IsInSwept, corner_reach, high_corner, low_corner}
use Rattle.cam_rows.specs.Machinery.Beside.{IsWithinReach}
use Rattle.cam_rows.proofs.BesideWays.{IsNear}

-- a number is at most another from 0
within_reach : (z reach : ℤ) → (pos (unsigned_abs z) ≤ℤ reach) ↔ IsWithinReach z reach
within_reach z reach = (
  (λ h. record { left = omega (arith, ints, h); right = omega (arith, ints, h) }),
  (λ w. omega (arith, ints, w.left, w.right)),
)

module _ (r : Swept) (wide : pos 0 <ℤ r.width.0) (high : pos 0 <ℤ r.height.0) where
  -- the stroke is what of the box of its ends is near its line
  pub in_box_and_near : (reach : ℤ) → reach ≡ corner_reach (way r.from r.to) r.width.0 r.height.0 → (s : Spot)
      → IsInSwept s r ↔ (IsInBox (low_corner r) (high_corner r) s × IsNear r.from r.to reach s)
  in_box_and_near reach is s =
      let near = within_reach (cross (way r.from r.to) (seen_from r.from s)) reach in (
        (λ inside. (inside.boxed, near.0 (rw is inside.near))),
        (λ held. record { wide = wide; high = high; boxed = held.0; near = rw is at (near.1 held.1) }),
      )
