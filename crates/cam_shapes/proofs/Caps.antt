-- Caps lie in squares.
use Rattle.std.proofs.Common.{rules, ◌≡◌, ℕ, ◌*◌, ℤ, pos, ◌≤ℤ◌, ◌<ℤ◌, Bool, true, ◌&&◌, arith, ◌<◌, ◌^◌, of_z}
use Rattle.std.specs.Int.{w128}
use lib.Signed.{lt_z}
use Rattle.std.specs.Int.RustNames.{unsigned_abs}
use Rattle.std.proofs.lemmas.Int.{ints}
use Rattle.std.proofs.lemmas.Bool.{cases_Bool, false_from_ne_true, false≢true}
use Rattle.std.proofs.lemmas.Bool.Decides.{Decides-int_eq}
use Rattle.cam_shapes.specs.declared.vector.Vector.{Vector}
use Rattle.cam_shapes.specs.Plane.{dot, IsBetween}
use Rattle.cam_shapes.specs.Cap.{is_less, CapSquareLaw}
use Rattle.cam_shapes.proofs.Crossings.{less_is}
use Rattle.cam_shapes.proofs.Strokes.{dot_is, squares_order}
use Rattle.cam_shapes.proofs.Widths.{kept, wide}

first_of_both : (a b : Bool) → (a && b) ≡ true → a ≡ true
first_of_both a b e = grind (arith, false≢true)

same_at_most : (m n : ℤ) → m ≡ n → m ≤ℤ n
same_at_most m n e = omega (arith, ints)

less_at_most : (m n : ℤ) → m <ℤ n → m ≤ℤ n
less_at_most m n h = omega (arith, ints)

less_by_tie : (m n : ℤ) (tie : Bool) → is_less m n tie ≡ true → m ≤ℤ n
less_by_tie m n tie e = grind (arith, cases_Bool, same_at_most, Decides-int_eq, less_at_most, less_is)

within_square : (v u : Vector) (m : ℕ) → dot v v ≤ℤ dot u u → dot u u ≤ℤ pos (m * m) → IsBetween v (pos m) (pos m)
within_square v u m inside room = grind (arith, ints, dot_is, squares_order)

pub cap_square : CapSquareLaw
cap_square s c m room inside = search (rules, within_square, less_by_tie, first_of_both)

-- two squares of lengths that differ, as 128 bits compare them
pub passed_unlike : (a b u v : ℤ) (tie : Bool) → unsigned_abs a < 2 ^ 67 → unsigned_abs b < 2 ^ 67 → a ≡ u → b ≡ v
    → (of_z w128 a ≡ of_z w128 b → ⊥) → lt_z (wide a) (wide b) ≡ is_less u v tie
passed_unlike a b u v tie p q e f unlike = grind (arith, false_from_ne_true, Decides-int_eq, kept)
