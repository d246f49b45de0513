-- Centres near a point and near a circle, by squares of distances.
use Rattle.std.proofs.Common.{◌≡◌, ℕ, ◌+◌, ◌*◌, ◌^◌, ◌<◌, ◌≤◌, ◌↔◌, ℤ, pos, sym, arith}
use Rattle.std.specs.Int.RustNames.{unsigned_abs}
use Rattle.std.proofs.lemmas.Bool.{cases_lt}
use Rattle.std.proofs.lemmas.Nat.{mul-le}
use Rattle.cam_shapes.specs.Plane.{square}
use Rattle.cam_shapes.proofs.Widths.{square_is}

-- of a root that is rounded down
pub below_root : (x n root : ℕ) → root * root ≤ n → n < (root + 1) * (root + 1) → (x * x ≤ n) ↔ (x ≤ root)
below_root x n root least greatest = grind (arith, cases_lt, mul-le)

pub short_root : (root n : ℕ) → root * root ≤ n → n < 2 ^ 68 → root < 2 ^ 34
short_root root n least small = grind (arith, cases_lt, mul-le)

pub square_of : (n : ℕ) (z : ℤ) → n ≡ unsigned_abs z → pos (n * n) ≡ square z
square_of n z e = rw e (sym (square_is z))
