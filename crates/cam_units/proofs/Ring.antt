-- Equations and orders between polynomials over ℤ. A polynomial is read as a difference of two
-- polynomials over ℕ, its gains and its losses, which `omega` multiplies out.
use Rattle.std.proofs.Common.{◌≡◌, ℕ, ◌+◌, ◌*◌, ℤ, ◌+ℤ◌, ◌-ℤ◌, ◌*ℤ◌, ap, arith}
use borrow.Author.Differences.{up, down, sum_is_lem, neg_is, product_is, same_in}
use lib.IntN.{neg_ℤ}

pub data Polynomial : Type 0 where
  Atom : ℤ → Polynomial
  Sum : Polynomial → Polynomial → Polynomial
  Difference : Polynomial → Polynomial → Polynomial
  Product : Polynomial → Polynomial → Polynomial

abbrev pub value_of : Polynomial → ℤ
value_of (Atom z) = z
value_of (Sum a b) = value_of a +ℤ value_of b
value_of (Difference a b) = value_of a -ℤ value_of b
value_of (Product a b) = value_of a *ℤ value_of b

abbrev mutual
  pub gains : Polynomial → ℕ
  gains (Atom z) = up z
  gains (Sum a b) = gains a + gains b
  gains (Difference a b) = gains a + losses b
  gains (Product a b) = gains a * gains b + losses a * losses b

  pub losses : Polynomial → ℕ
  losses (Atom z) = down z
  losses (Sum a b) = losses a + losses b
  losses (Difference a b) = losses a + gains b
  losses (Product a b) = gains a * losses b + losses a * gains b

-- two differences that are equal in pairs have equal products
products : (u d g l v e h m : ℕ) → u + l ≡ d + g → v + m ≡ e + h
    → (u * v + d * e) + (g * m + l * h) ≡ (u * e + d * v) + (g * h + l * m)
products u d g l v e h m first second =
    omega (arith, ap (λ n. n * v) first, ap (λ n. n * e) first, ap (λ n. g * n) second, ap (λ n. l * n) second)

-- the value is the gains without the losses
balance : (t : Polynomial) → up (value_of t) + losses t ≡ down (value_of t) + gains t
balance (Atom z) = omega arith
balance (Sum a b) = omega (arith, balance a, balance b, sum_is_lem (value_of a) (value_of b))
balance (Difference a b) =
    omega (arith, balance a, balance b, sum_is_lem (value_of a) (neg_ℤ (value_of b)), neg_is (value_of b))
balance (Product a b) =
    let parts = products (up (value_of a)) (down (value_of a)) (gains a) (losses a)
    (up (value_of b)) (down (value_of b)) (gains b) (losses b) (balance a) (balance b) in
    omega (arith, product_is (value_of a) (value_of b), parts)

-- an equation of polynomials: prove its premise by `omega arith`
pub equal : (s t : Polynomial) → gains s + losses t ≡ gains t + losses s → value_of s ≡ value_of t
equal s t e = same_in (value_of s) (value_of t) (omega (arith, balance s, balance t))
