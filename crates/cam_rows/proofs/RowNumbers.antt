-- Numbers of the rows below the top one, as 128 bits compute them.
use Rattle.std.proofs.Common.{◌≡◌, ◌^◌, ◌<◌, ℕ, ℤ, pos, ◌+ℤ◌, ◌*ℤ◌, Fits, FitsSigned, to_z, w64, arith}
use Rattle.std.specs.Int.{w128}
use Rattle.std.specs.Int.RustNames.{unsigned_abs}
use Rattle.std.proofs.lemmas.Int.{fits_signed_from_abs, ints, unsigned_abs-mul}
use Rattle.std.proofs.lemmas.Nat.{mul-lt}
use Rattle.cam_shapes.proofs.Widths.{wide}
use Rattle.cam_rows.proofs.WayProducts.{kept_sum, sum_fits}

kept_steps : (n : ℕ) → Fits w64 n → to_z w128 n ≡ pos n
kept_steps n h = omega (arith, ints)

change_short : (first change : ℤ) → unsigned_abs first < 2 ^ 100 → unsigned_abs (first +ℤ change) < 2 ^ 100
    → unsigned_abs change < 2 ^ 101
change_short first change h k = omega (arith, ints)

kept_change : (z : ℤ) → unsigned_abs z < 2 ^ 101 → wide z ≡ z
kept_change z h = omega (arith, ints)

-- the change from the top row, and the number itself
pub change_fits : (n : ℕ) (first down : ℤ) → Fits w64 n → unsigned_abs first < 2 ^ 100 → unsigned_abs down < 2 ^ 100
    → unsigned_abs (first +ℤ pos n *ℤ down) < 2 ^ 100 → FitsSigned w128 (to_z w128 n *ℤ wide down)
change_fits n first down fits h k short = grind (arith, change_short, kept_steps, kept_sum, fits_signed_from_abs)

same_change : (n : ℕ) (first down : ℤ) → Fits w64 n → unsigned_abs first < 2 ^ 100 → unsigned_abs down < 2 ^ 100
    → unsigned_abs (first +ℤ pos n *ℤ down) < 2 ^ 100 → wide (to_z w128 n *ℤ wide down) ≡ pos n *ℤ down
same_change n first down fits h k short = grind (arith, kept_steps, kept_sum, kept_change, change_short)

pub number_fits : (n : ℕ) (first down : ℤ) → Fits w64 n → unsigned_abs first < 2 ^ 100 → unsigned_abs down < 2 ^ 100
    → unsigned_abs (first +ℤ pos n *ℤ down) < 2 ^ 100 → FitsSigned w128 (wide first +ℤ wide (to_z w128 n *ℤ wide down))
number_fits n first down fits h k short = grind (arith, kept_sum, same_change, sum_fits)

pub same_number : (n : ℕ) (first down : ℤ) → Fits w64 n → unsigned_abs first < 2 ^ 100 → unsigned_abs down < 2 ^ 100
    → unsigned_abs (first +ℤ pos n *ℤ down) < 2 ^ 100
    → wide (wide first +ℤ wide (to_z w128 n *ℤ wide down)) ≡ first +ℤ pos n *ℤ down
same_number n first down fits h k short = grind (arith, kept_sum, same_change)

-- how much greater a number is so many columns further on, and the number there
kept_columns : (n : ℕ) → n < 2 ^ 16 → to_z w128 n ≡ pos n
kept_columns n h = omega (arith, ints)

columns_short : (n : ℕ) (step : ℤ) → n < 2 ^ 16 → unsigned_abs step < 2 ^ 100 → unsigned_abs (pos n *ℤ step) < 2 ^ 116
columns_short n step h k = grind (arith, mul-lt, unsigned_abs-mul)

kept_long : (z : ℤ) → unsigned_abs z < 2 ^ 116 → wide z ≡ z
kept_long z h = omega (arith, ints)

sum_long : (z p : ℤ) → unsigned_abs z < 2 ^ 100 → unsigned_abs p < 2 ^ 116 → FitsSigned w128 (z +ℤ p)
sum_long z p h k = omega (arith, ints)

pub columns_fit : (n : ℕ) (step : ℤ) → n < 2 ^ 16 → unsigned_abs step < 2 ^ 100
    → FitsSigned w128 (to_z w128 n *ℤ wide step)
columns_fit n step h k =
    let bound : unsigned_abs (pos n *ℤ step) < 2 ^ 116 = columns_short n step h k in
    rw (kept_columns n h, kept_sum step k) (fits_signed_from_abs w128 (pos n *ℤ step) (omega arith))

pub number_there_fits : (n : ℕ) (z step : ℤ) → n < 2 ^ 16 → unsigned_abs z < 2 ^ 100 → unsigned_abs step < 2 ^ 100
    → FitsSigned w128 (wide z +ℤ wide (to_z w128 n *ℤ wide step))
number_there_fits n z step h hz k = grind (arith, columns_short, kept_columns, kept_sum, kept_long, sum_long)
