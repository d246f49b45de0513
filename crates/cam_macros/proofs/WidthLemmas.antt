-- Products of two numbers of 64 bits, as 128 bits compute them.
use Rattle.std.proofs.Common.{◌≡◌, ◌≤◌, ◌^◌, ℤ, ◌*ℤ◌, to_z, of_z, w64, refl, arith}
use Rattle.std.specs.Int.{w128}
use Rattle.std.specs.Prelude.{unsigned_abs}
use Rattle.std.proofs.lemmas.Int.{ints, unsigned_abs-mul}
use Rattle.std.proofs.lemmas.Nat.{mul-le}

abbrev pub wide : ℤ → ℤ
wide z = to_z w128 (of_z w128 z)

abbrev pub narrow : ℤ → ℤ
narrow z = to_z w64 (of_z w64 z)

narrow_short : (z : ℤ) → unsigned_abs (narrow z) ≤ 2 ^ 63
narrow_short z = omega (arith, ints)

pub short : (r a : ℤ) → r ≡ narrow a → unsigned_abs r ≤ 2 ^ 63
short r a e = rw e (narrow_short a)

kept : (z : ℤ) → unsigned_abs z ≤ 2 ^ 126 → wide z ≡ z
kept z h = omega (arith, ints)

pub product_bound : (r t : ℤ) → unsigned_abs r ≤ 2 ^ 63 → unsigned_abs t ≤ 2 ^ 63 → unsigned_abs (r *ℤ t) ≤ 2 ^ 126
product_bound r t p q = grind (arith, unsigned_abs-mul, mul-le)

factors : (r t : ℤ) → unsigned_abs r ≤ 2 ^ 63 → unsigned_abs t ≤ 2 ^ 63 → wide r *ℤ wide t ≡ r *ℤ t
factors r t p q = rw (kept r (omega arith), kept t (omega arith)) refl

pub product_kept : (r t : ℤ) → unsigned_abs r ≤ 2 ^ 63 → unsigned_abs t ≤ 2 ^ 63 → wide (wide r *ℤ wide t) ≡ r *ℤ t
product_kept r t p q = rw (factors r t p q) (kept (r *ℤ t) (product_bound r t p q))
