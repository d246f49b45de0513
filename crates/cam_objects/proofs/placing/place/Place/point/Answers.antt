use Rattle.std.proofs.Common.{◌≡◌, ◌^◌, ◌<◌, ℤ, ◌+ℤ◌, FitsSigned, of_z, to_z, w64, ap, ◌∙◌, arith}
use Rattle.std.specs.Int.RustNames.{unsigned_abs}
use Rattle.std.proofs.lemmas.Int.{fits_signed_from_abs, ints, to_z-of_z}
use Rattle.cam_units.specs.Board.{IsOnBoard}
use Rattle.cam_units.specs.declared.point.Point.{Point}
use Rattle.cam_units.proofs.TurnLaws.{same_point}
use Rattle.cam_shapes.specs.Shifting.{IsShiftable}
use Rattle.cam_shapes.proofs.Places.{computed_sum, sum_of}
use Rattle.cam_objects.proofs.placing.place.Place.point.Goals as goal

-- a point of the board has a sum with an offset that can be moved
kept_shift : (q a o : Point) → IsOnBoard q → IsShiftable o → q ≡ a → computed_sum q o ≡ sum_of a o
kept_shift q a o on_board offset e =
    same_point (computed_sum q o) (sum_of q o) (omega (arith, ints)) (omega (arith, ints))
    ∙ ap (λ p. sum_of p o) e

pub returns : goal.returns
returns c = grind (arith, kept_shift)

-- and so have its coordinates
sum_fits : (a o : ℤ) → unsigned_abs a < 1000000000 → unsigned_abs o < 2 ^ 62
    → FitsSigned w64 (to_z w64 (of_z w64 a) +ℤ to_z w64 (of_z w64 o))
sum_fits a o h k = grind (arith, fits_signed_from_abs, to_z-of_z, ints)

pub overflow_add-result : goal.overflow_add-result
overflow_add-result c = grind (arith, sum_fits)

pub overflow_add-result-2 : goal.overflow_add-result-2
overflow_add-result-2 c = grind (arith, sum_fits)

pub apply-turned-requires : goal.apply-turned-requires
apply-turned-requires c = record { x = omega (arith, c.requires.point.x); y = omega (arith, c.requires.point.y) }
