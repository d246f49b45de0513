-- Lengths to the nearest whole number.
use Rattle.std.proofs.Common.{◌≡◌, ℕ, zero, suc, ◌+◌, ◌*◌, ◌^◌, ◌<◌, ◌≤◌, ℤ, pos, ◌-ℤ◌, ◌*ℤ◌, ◌⊎◌, inl, inr, ap, sym, ◌∙◌, arith}
use Rattle.std.proofs.lemmas.Int.{ints, unsigned_abs-mul}
use Rattle.std.proofs.lemmas.Nat.{le-div, div_below}
use Rattle.std.proofs.Math.Nat.{pow-suc, mul-le-mul_left}
use Rattle.std.specs.Int.RustNames.{unsigned_abs}
use lib.IntN.{neg_ℤ}
use Rattle.cam_units.specs.Nearest.{IsNearest, NearestLaw, distance, nearest_of, rounded}
use Rattle.cam_units.proofs.Ring.{Atom, Difference, Product, equal}

pub ten_power : (k : ℕ) → 0 < 10 ^ k
ten_power zero = omega arith
ten_power (suc k) = omega (arith, ten_power k, pow-suc 10 k)

-- the rounded quotient is not past the dividend
pub rounded_below : (n b : ℕ) → 0 < b → rounded n b < n + 1
rounded_below n b h = div_below (2 * n + b) (2 * b) (n + 1) (omega arith) (omega (arith, mul-le-mul_left n h))

-- what is near to a quotient is not past the rounded one
not_past : (a k : ℤ) (b : ℕ) → 0 < b → distance a b k ≤ b → unsigned_abs k ≤ rounded (unsigned_abs a) b
not_past a k b h near =
    let whole : unsigned_abs (pos 2 *ℤ pos b *ℤ k) ≤ unsigned_abs (pos 2 *ℤ a) + b = omega (arith, ints) in
    let twice : unsigned_abs (pos 2 *ℤ a) ≡ 2 * unsigned_abs a = unsigned_abs-mul (pos 2) a in
    let times : unsigned_abs (pos (2 * b) *ℤ k) ≡ 2 * b * unsigned_abs k = unsigned_abs-mul (pos (2 * b)) k in
    le-div (unsigned_abs k) (2 * unsigned_abs a + b) (2 * b) (omega arith) (omega (arith, whole, twice, times))

-- a negative dividend mirrors the quotient
mirror : (n b q : ℤ) → pos 2 *ℤ neg_ℤ n -ℤ pos 2 *ℤ b *ℤ neg_ℤ q ≡ neg_ℤ (pos 2 *ℤ n -ℤ pos 2 *ℤ b *ℤ q)
mirror n b q =
    let nought = Atom (pos 0) in
    let two = Atom (pos 2) in
    let minus_n : neg_ℤ n ≡ pos 0 -ℤ n = omega (arith, ints) in
    let minus_q : neg_ℤ q ≡ pos 0 -ℤ q = omega (arith, ints) in
    let z = pos 2 *ℤ n -ℤ pos 2 *ℤ b *ℤ q in
    let minus_z : pos 0 -ℤ z ≡ neg_ℤ z = omega (arith, ints) in
    rw (minus_n, minus_q) (equal
    (Difference (Product two (Difference nought (Atom n)))
    (Product (Product two (Atom b)) (Difference nought (Atom q))))
    (Difference nought (Difference (Product two (Atom n)) (Product (Product two (Atom b)) (Atom q))))
    (omega arith) ∙ minus_z)

abs_neg : (z : ℤ) → unsigned_abs (neg_ℤ z) ≡ unsigned_abs z
abs_neg z = omega (arith, ints)

mirrored : (a m : ℤ) (b : ℕ) → distance (neg_ℤ a) b (neg_ℤ m) ≡ distance a b m
mirrored a m b = ap unsigned_abs (mirror a (pos b) m) ∙ abs_neg (pos 2 *ℤ a -ℤ pos 2 *ℤ pos b *ℤ m)

rounded_close : (n b : ℕ) → 0 < b → distance (pos n) b (pos (rounded n b)) ≤ b
rounded_close n b h = grind (arith, ints)

pub nearest : (a : ℤ) (b : ℕ) → 0 < b → IsNearest a b (nearest_of a b)
nearest a b h = grind (arith, rounded_close, not_past, mirrored, abs_neg)

-- two nearest numbers have one size; where their signs differ, both are 0
same_size : (m k : ℤ) → unsigned_abs m ≡ unsigned_abs k → (m ≡ k) ⊎ (k ≡ neg_ℤ m)
same_size m k e = grind (arith, ints)

negated : (b m : ℤ) → pos 2 *ℤ b *ℤ neg_ℤ m ≡ neg_ℤ (pos 2 *ℤ b *ℤ m)
negated b m = grind (arith, Atom, ints, equal, Product, Difference)

small : (b n : ℕ) → 0 < b → 2 * b * n ≤ b → n ≡ 0
small b n h le = grind arith

none : (m : ℤ) → unsigned_abs m ≡ 0 → m ≡ neg_ℤ m
none m e = omega (arith, ints)

opposite : (a m : ℤ) (b : ℕ) → 0 < b → distance a b m ≤ b → distance a b (neg_ℤ m) ≤ b → m ≡ neg_ℤ m
opposite a m b h near far = grind (arith, unsigned_abs-mul, negated, ints, none, small)

pub unique : (a m k : ℤ) (b : ℕ) → 0 < b → IsNearest a b m → IsNearest a b k → m ≡ k
unique a m k b h first second =
    let size : unsigned_abs m ≡ unsigned_abs k =
    omega (arith, first.farthest k second.close, second.farthest m first.close) in
    elim (same_size m k size) [
      | inl e ↦ e
      | inr e ↦ opposite a m b h first.close (rw (← e) second.close) ∙ sym e
    ]

pub nearest_law : NearestLaw
nearest_law a b h = (nearest a b h, λ m is. unique a m (nearest_of a b) b h is (nearest a b h))
