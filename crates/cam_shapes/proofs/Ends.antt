-- Places between the ends of a way, by products as 128 bits pass them on.
use Rattle.std.proofs.Common.{◌≡◌, ◌↔◌, ◌<◌, ◌^◌, IsTrue, true, false, ℤ, pos, ◌≤ℤ◌, ◌<ℤ◌, arith}
use lib.Signed.{le_z}
use Rattle.std.proofs.lemmas.Int.{ints}
use Rattle.std.proofs.lemmas.Bool.{false≢true}
use Rattle.std.specs.Int.RustNames.{unsigned_abs}
use Rattle.cam_shapes.specs.declared.vector.Vector.{Vector}
use Rattle.cam_shapes.specs.Plane.{dot}
use Rattle.cam_shapes.specs.Bar.{IsBetweenEnds}
use Rattle.cam_shapes.proofs.Widths.{at_most_is, kept, wide}

above : (z : ℤ) → le_z z (pos 0) ≡ false → pos 0 <ℤ z
above z e = grind (arith, ints)

apart : {z : ℤ} → pos 0 <ℤ z → z ≤ℤ pos 0 → ⊥
apart h k = omega (arith, ints)

-- l and m are the products, and the way is longer than 0
pub before_end : (a v : Vector) (l m : ℤ) → l ≡ dot a a → m ≡ dot a v
    → unsigned_abs l < 2 ^ 67 → unsigned_abs m < 2 ^ 67
    → le_z (wide l) (pos 0) ≡ false → le_z (pos 0) (wide m) ≡ true
    → IsTrue (le_z (wide m) (wide l)) ↔ IsBetweenEnds a v
before_end a v l m e f p q long after = grind (arith, kept, above, at_most_is)

pub before_start : (a v : Vector) (m : ℤ) → m ≡ dot a v → unsigned_abs m < 2 ^ 67
    → le_z (pos 0) (wide m) ≡ false → IsTrue (le_z (pos 0) (wide m)) ↔ IsBetweenEnds a v
before_start a v m f q before = grind (arith, false≢true, kept, at_most_is)

pub without_length : (a v : Vector) (l : ℤ) → l ≡ dot a a → unsigned_abs l < 2 ^ 67
    → le_z (wide l) (pos 0) ≡ true → IsTrue false ↔ IsBetweenEnds a v
without_length a v l e p none = grind (arith, false≢true, apart, at_most_is, kept)
