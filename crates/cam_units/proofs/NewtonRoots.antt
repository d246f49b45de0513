-- Roots by Newton's method, from above.
use Rattle.std.proofs.Common.{◌≡◌, ℕ, ◌+◌, ◌-◌, ◌*◌, ◌/◌, ◌%◌, ◌^◌, ◌<◌, ◌≤◌, inl, inr, ap, sym, ◌∙◌, arith}
use Rattle.std.proofs.lemmas.Bool.{cases_lt}
use Rattle.std.proofs.lemmas.Nat.{div-add-mod', mod_below, mul-le, one_shl, pow-add, pow_pos}
use Rattle.std.proofs.Math.Pow.{pow_mono}

-- a root from above, and what it is compared with
pub record IsFromAbove (n root quotient : ℕ) : Type 0 where
  pub some : 0 < root
  pub divided : quotient ≡ n / root
  pub above : n < (root + 1) * (root + 1)

-- four times a product is at most the square of the sum
ordered_means : (a d : ℕ) → 4 * (a * (a + d)) ≤ (a + (a + d)) * (a + (a + d))
ordered_means a d = omega arith

means : (a b : ℕ) → 4 * (a * b) ≤ (a + b) * (a + b)
means a b = elim (cases_lt a b) [
  | inl less ↦ let e : b ≡ a + (b - a) = omega arith in rw e (ordered_means a (b - a))
  | inr most ↦
      let e : a ≡ b + (a - b) = omega arith in
      let ordered = ordered_means b (a - b) in
      let turned = rw (sym e) at ordered in omega arith
]

below_next : (n root : ℕ) → 0 < root → n < root * (n / root + 1)
below_next n root some = omega (arith, div-add-mod' n root, mod_below n root some)

above_mean : (n root quotient mean : ℕ) → n < root * (quotient + 1) → mean ≡ (root + quotient) / 2
    → n < (mean + 1) * (mean + 1)
above_mean n root quotient mean less e = grind (arith, means, mul-le)

-- the next root
pub next_root : (n root quotient : ℕ) → 0 < n → IsFromAbove n root quotient → quotient < root
    → IsFromAbove n ((root + quotient) / 2) (n / ((root + quotient) / 2))
next_root n root quotient some from less = record {
  some = elim (cases_lt 1 root) [
    | inl more ↦ omega arith
    | inr one ↦
        let e : root ≡ 1 = omega (arith, from.some) in
        let whole : n / root ≡ n = rw e (omega arith) in
        absurd (omega (arith, from.divided, whole))
  ];
  divided = omega arith;
  above =
      above_mean n root quotient ((root + quotient) / 2) (rw from.divided (below_next n root from.some)) (omega arith);
}

-- the first one, a power of two
first_above : (n digits power : ℕ) → n < 2 * 2 ^ digits → power ≡ 2 ^ (digits / 2 + 1) → n < (power + 1) * (power + 1)
first_above n digits power small e =
    let square : power * power ≡ 2 ^ (digits / 2 + 1 + (digits / 2 + 1)) =
    ap (λ p. p * p) e ∙ sym (pow-add 2 (digits / 2 + 1) (digits / 2 + 1)) in
    let next : 2 * 2 ^ digits ≡ 2 ^ (1 + digits) = sym (pow-add 2 1 digits) in
    let most : 2 ^ (1 + digits) ≤ 2 ^ (digits / 2 + 1 + (digits / 2 + 1)) = pow_mono (omega arith) in
    omega (arith, square, next, most)

pub first_root : (n digits bits : ℕ) → n < 2 * 2 ^ digits → digits < 2 * bits
    → IsFromAbove n (1 * 2 ^ (digits / 2 + 1) % 2 ^ (2 * bits)) (n / (1 * 2 ^ (digits / 2 + 1) % 2 ^ (2 * bits)))
    × (1 * 2 ^ (digits / 2 + 1) % 2 ^ (2 * bits) ≤ 2 ^ bits)
first_root n digits bits small few = grind (arith, one_shl, pow_mono, pow_pos, first_above)
