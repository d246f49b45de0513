-- Sweeps by the sides of their ends.
use Rattle.std.proofs.Common.{◌≡◌, ◌↔◌, ℤ, pos, ◌-ℤ◌, ◌*ℤ◌, ◌≤ℤ◌, ◌<ℤ◌, ap, arith}
use Rattle.std.proofs.lemmas.Int.{ints}
use Rattle.cam_units.specs.declared.point.Point.{Point}
use Rattle.cam_units.proofs.TurnLaws.{same_point}
use Rattle.cam_shapes.specs.declared.vector.Vector.{Vector}
use Rattle.cam_shapes.specs.Plane.{cross, way}
use Rattle.cam_shapes.specs.Arc.{IsInSweep, IsNarrow}
use Rattle.cam_shapes.proofs.Circles.{narrow_not_wide}

shifted_same : (a b c : ℤ) → pos 2 *ℤ a -ℤ pos 2 *ℤ c ≡ pos 2 *ℤ b -ℤ pos 2 *ℤ c → a ≡ b
shifted_same a b c e = omega (arith, ints)

-- points that are seen alike are the same
pub same_way : (c p q : Point) → way c p ≡ way c q → p ≡ q
same_way c p q e =
    same_point p q (shifted_same p.x q.x c.x (ap (λ v. v.x) e)) (shifted_same p.y q.y c.y (ap (λ v. v.y) e))

-- z and w are the sides
pub narrow_sweep : (s e v : Vector) (z w : ℤ) → z ≡ cross s v → w ≡ cross v e → (s ≡ e → ⊥) → IsNarrow s e
    → IsInSweep s e v ↔ ((pos 0 ≤ℤ z) × (pos 0 ≤ℤ w))
narrow_sweep s e v z w f g other narrow = grind (arith, narrow_not_wide)

pub no_sweep : (s e v : Vector) → (s ≡ e → ⊥) → (IsNarrow s e → ⊥) → (cross s e <ℤ pos 0 → ⊥) → IsInSweep s e v → ⊥
no_sweep s e v other not_narrow not_wide h = grind arith
