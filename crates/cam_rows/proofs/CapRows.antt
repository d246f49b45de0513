-- Caps by their circles and the sides of their chords.
use Rattle.std.proofs.Common.{◌≡◌, ◌↔◌, Bool, false, ◌&&◌, IsTrue, arith}
use Rattle.cam_units.specs.declared.point.Spot.{Spot}
use Rattle.cam_shapes.specs.declared.cap.Cap.{Cap}
use Rattle.cam_shapes.specs.Cap.{is_full_circle, is_in_cap, is_in_circle, is_on_side}
use Rattle.cam_shapes.specs.Plane.{seen_from, way}

-- two tests that both hold
both_true : (a b : Bool) → IsTrue (a && b) ↔ (IsTrue a × IsTrue b)
both_true a b = grind arith

-- the places of a cap, with its chord and without one
pub part_of_circle : (s : Spot) (c : Cap) → is_full_circle c ≡ false
    → (IsTrue (is_in_circle (way c.centre c.from) (seen_from c.centre s)) × IsTrue (is_on_side s c))
    ↔ IsTrue (is_in_cap s c)
part_of_circle s c part = grind (arith, both_true)
