-- Products of ways with the ways to the centres of rows, as 128 bits compute them.
use Rattle.std.proofs.Common.{◌≡◌, ◌^◌, ◌<◌, ℕ, ℤ, pos, ◌+ℤ◌, ◌-ℤ◌, ◌*ℤ◌, FitsSigned, w64, arith}
use Rattle.std.specs.Int.{w128}
use Rattle.std.specs.Int.RustNames.{unsigned_abs}
use Rattle.std.proofs.lemmas.Int.{ints, unsigned_abs-mul, fits_signed_from_abs}
use Rattle.std.proofs.lemmas.Nat.{mul-lt}
use Rattle.cam_units.specs.Board.{IsInReach}
use Rattle.cam_units.specs.declared.point.Point.{Point}
use Rattle.cam_units.specs.declared.point.Spot.{Spot}
use Rattle.cam_units.proofs.Ring.{Polynomial, Atom, Sum, Difference, Product, equal}
use Rattle.cam_shapes.specs.declared.vector.Vector.{Vector}
use Rattle.cam_shapes.specs.Plane.{dot, seen_from}
use Rattle.cam_shapes.proofs.Widths.{narrow, wide}
use Rattle.cam_rows.specs.declared.centres.Centres.{Centres}
use Rattle.cam_rows.specs.Machinery.Slopes.{lowered, number_on}
use Rattle.cam_rows.specs.Rows.{centre_at, first_centre, row_below}
use Rattle.cam_rows.specs.Runs.{IsWideRow}

kept_wide : (z : ℤ) → unsigned_abs z < 2 ^ 126 → wide z ≡ z
kept_wide z h = omega (arith, ints)

kept_narrow : (z : ℤ) → FitsSigned w64 z → narrow z ≡ z
kept_narrow z h = omega (arith, ints)

below_word : (z : ℤ) → FitsSigned w64 z → unsigned_abs z < 2 ^ 64
below_word z h = omega (arith, ints)

step_bound : (a s : ℤ) → unsigned_abs a < 2 ^ 33 → FitsSigned w64 s → unsigned_abs (a *ℤ s) < 2 ^ 97
step_bound a s h fits = grind (arith, mul-lt, below_word, unsigned_abs-mul)

step_factors : (a s r t : ℤ) → unsigned_abs a < 2 ^ 33 → FitsSigned w64 s → r ≡ narrow a → t ≡ narrow s
    → wide r *ℤ wide t ≡ a *ℤ s
step_factors a s r t h fits e f = grind (arith, wide, ints, kept_narrow, below_word, kept_wide)

-- the product of a coordinate of a way and the distance of neighbours
pub step_product : (a s r t : ℤ) → unsigned_abs a < 2 ^ 33 → FitsSigned w64 s → r ≡ narrow a → t ≡ narrow s
    → wide (wide r *ℤ wide t) ≡ a *ℤ s
step_product a s r t h fits e f = grind (arith, step_bound, step_factors, kept_wide)

pub step_short : (a s : ℤ) → unsigned_abs a < 2 ^ 33 → FitsSigned w64 s → unsigned_abs (a *ℤ s) < 2 ^ 100
step_short a s h fits = let bound : unsigned_abs (a *ℤ s) < 2 ^ 97 = step_bound a s h fits in omega arith

pub kept_sum : (z : ℤ) → unsigned_abs z < 2 ^ 100 → wide z ≡ z
kept_sum z h = kept_wide z (omega arith)

pub sum_fits : (z : ℤ) → unsigned_abs z < 2 ^ 100 → FitsSigned w128 z
sum_fits z h = fits_signed_from_abs w128 z (omega arith)

pub opposite_short : (z : ℤ) → unsigned_abs z < 2 ^ 100 → unsigned_abs (pos 0 -ℤ z) < 2 ^ 100
opposite_short z h = omega (arith, ints)

-- a product and what is added to it, as 128 bits pass them
pub sum_passed : (z r v : ℤ) → unsigned_abs z < 2 ^ 67 → unsigned_abs r < 2 ^ 64 → z ≡ v → wide z +ℤ wide r ≡ v +ℤ r
sum_passed z r v h k e = omega (arith, ints, e)

-- the leftmost centre is in reach
pub first_in_reach : (c : Centres) → IsWideRow c → IsInReach (first_centre c)
first_in_reach c row = grind (arith, ints)

-- as 64 bits pass it
pub passed_centre : (c : Centres) → IsWideRow c → ◌≡◌ {A = Spot} (record { x = narrow c.x; y = narrow c.y }) (first_centre c)
passed_centre c row = grind (arith, first_in_reach, narrow, ints)

-- the numbers are products of a way with the ways to the centres
pub dots_are : (w : Vector) (p : Point) (c : Centres) (reach : ℤ) (k i : ℕ)
    → number_on (lowered k (record {
      first = dot w (seen_from p (first_centre c)) +ℤ reach;
      step = w.x *ℤ c.step;
      down = pos 0 -ℤ w.y *ℤ c.step;
    })) i ≡ dot w (seen_from p (centre_at (row_below c k) i)) +ℤ reach
dots_are w p c reach k i =
    let twice : ℤ → Polynomial = λ z. Product (Atom (pos 2)) (Atom z) in
    let steps : ℕ → Polynomial = λ n. Product (Atom (pos n)) (Atom c.step) in
    let dots : Polynomial → Polynomial → Polynomial = λ x y.
    Sum (Product (Atom w.x) (Difference x (twice p.x))) (Product (Atom w.y) (Difference y (twice p.y))) in
    equal
    (Sum
    (Sum
    (Sum (dots (Atom c.x) (Atom c.y)) (Atom reach))
    (Product (Atom (pos k)) (Difference (Atom (pos 0)) (Product (Atom w.y) (Atom c.step)))))
    (Product (Atom (pos i)) (Product (Atom w.x) (Atom c.step))))
    (Sum (dots (Sum (Atom c.x) (steps i)) (Difference (Atom c.y) (steps k))) (Atom reach))
    (omega arith)
