-- Quotients that are rounded down, and what they leave, as 128 bits compute them.
use Rattle.std.proofs.Common.{rules, ◌≡◌, ℕ, suc, ◌/◌, ◌^◌, ◌<◌, ◌≤◌, ℤ, pos, negsuc, ◌+ℤ◌, ◌-ℤ◌, ◌*ℤ◌, ◌≤ℤ◌, ◌<ℤ◌, FitsSigned}
use Rattle.std.proofs.Common.{to_z, arith}
use Rattle.std.specs.Int.{w128}
use Rattle.std.specs.Int.RustNames.{unsigned_abs}
use Rattle.std.proofs.lemmas.Int.{fits_signed_from_abs, ints}
use Rattle.std.proofs.lemmas.Nat.{mul-le}
use Rattle.cam_units.proofs.Ring.{Atom, Difference, Product, Sum, equal}
use Rattle.cam_shapes.proofs.Widths.{wide}
use Rattle.cam_rows.specs.Machinery.Slopes.{IsDivisor, IsRest, whole}

-- a number, a divisor and their quotient, where the number is not negative
least_natural : (a b q : ℕ) → 0 < b → q ≡ a / b → (pos q *ℤ pos b) ≤ℤ pos a
least_natural a b q some e = rw e (omega (arith, ints))

greatest_natural : (a b q : ℕ) → 0 < b → q ≡ a / b → pos a <ℤ ((pos q +ℤ pos 1) *ℤ pos b)
greatest_natural a b q some e = rw e (omega (arith, ints))

-- and where it is
lost : (q b : ℕ) → (negsuc 0 -ℤ pos q) *ℤ pos b ≡ pos 0 -ℤ (pos q +ℤ pos 1) *ℤ pos b
lost q b = grind (arith, equal, Product, Difference, Atom, Sum)

lost_less : (q b : ℕ) → (negsuc 0 -ℤ pos q +ℤ pos 1) *ℤ pos b ≡ pos 0 -ℤ pos q *ℤ pos b
lost_less q b = grind (arith, equal, Product, Sum, Difference, Atom)

opposite_of_more : (a : ℕ) (z : ℤ) → pos a <ℤ z → (pos 0 -ℤ z) ≤ℤ negsuc a
opposite_of_more a z h = omega (arith, ints)

opposite_of_most : (a : ℕ) (z : ℤ) → z ≤ℤ pos a → negsuc a <ℤ (pos 0 -ℤ z)
opposite_of_most a z h = omega (arith, ints)

least_negative : (a b q : ℕ) → 0 < b → q ≡ a / b → ((negsuc 0 -ℤ pos q) *ℤ pos b) ≤ℤ negsuc a
least_negative a b q some e = search (rules, lost, opposite_of_more, greatest_natural)

greatest_negative : (a b q : ℕ) → 0 < b → q ≡ a / b → negsuc a <ℤ ((negsuc 0 -ℤ pos q +ℤ pos 1) *ℤ pos b)
greatest_negative a b q some e = grind (arith, lost_less, opposite_of_most, least_natural)

-- as 128 bits compute it
magnitude : (a : ℕ) → a < 2 ^ 127 → unsigned_abs (wide (pos a)) ≡ a
magnitude a h = omega (arith, ints)

magnitude_below : (a : ℕ) → a < 2 ^ 127 → unsigned_abs (wide (negsuc 0 -ℤ wide (negsuc a))) ≡ a
magnitude_below a h = omega (arith, ints)

long_natural : (a : ℕ) → FitsSigned w128 (pos a) → a < 2 ^ 127
long_natural a fits = omega (arith, ints)

long_negative : (a : ℕ) → FitsSigned w128 (negsuc a) → a < 2 ^ 127
long_negative a fits = omega (arith, ints)

short_quotient : (a b q : ℕ) → 0 < b → a < 2 ^ 127 → q ≡ a / b → q < 2 ^ 127
short_quotient a b q some h e = grind (arith, mul-le)

kept : (q : ℕ) → q < 2 ^ 127 → to_z w128 q ≡ pos q
kept q h = omega (arith, ints)

kept_below : (q : ℕ) → q < 2 ^ 127 → wide (negsuc 0 -ℤ to_z w128 q) ≡ negsuc 0 -ℤ pos q
kept_below q h = omega (arith, ints)

-- the quotient of two numbers, by those of their magnitudes
abbrev IsQuotient : ℕ → ℤ → ℤ → Type 0
IsQuotient q n d = q ≡ unsigned_abs (wide n) / unsigned_abs (wide d)

abbrev IsQuotientBelow : ℕ → ℤ → ℤ → Type 0
IsQuotientBelow q n d = q ≡ unsigned_abs (wide (negsuc 0 -ℤ wide n)) / unsigned_abs (wide d)

divisor_some : (b : ℕ) → IsDivisor (pos b) → 0 < b
divisor_some b h = omega (arith, ints, h.0)

divisor_long : (b : ℕ) → IsDivisor (pos b) → b < 2 ^ 127
divisor_long b h = omega (arith, ints, h.1)

-- the quotient q of n by d, rounded down
pub record IsFloor (q n d : ℤ) : Type 0 where
  pub least : (q *ℤ d) ≤ℤ n
  pub greatest : n <ℤ ((q +ℤ pos 1) *ℤ d)

pub floor_up : (n d : ℤ) (q : ℕ) → IsDivisor d → FitsSigned w128 n → pos 0 ≤ℤ n → IsQuotient q n d
    → IsFloor (to_z w128 q) n d
floor_up n d q h fits up e =
    grind (arith, divisor_some, long_natural, magnitude, divisor_long, kept, short_quotient, least_natural, greatest_natural)

pub floor_down : (n d : ℤ) (q : ℕ) → IsDivisor d → FitsSigned w128 n → n <ℤ pos 0 → IsQuotientBelow q n d
    → IsFloor (wide (negsuc 0 -ℤ to_z w128 q)) n d
floor_down (negsuc a) (pos b) q h fits down e =
    let some = divisor_some b h in
    let long = long_negative a fits in
    let told = rw (magnitude_below a long, magnitude b (divisor_long b h)) at e in
    rw (kept_below q (short_quotient a b q some long told))
    (record { least = least_negative a b q some told; greatest = greatest_negative a b q some told })
floor_down (pos a) d q h fits down e = absurd (omega (arith, ints))
floor_down (negsuc a) (negsuc b) q h fits down e = absurd (omega (arith, ints, h.0))

-- what is left of a number
next_product : (q d : ℤ) → (q +ℤ pos 1) *ℤ d ≡ q *ℤ d +ℤ d
next_product q d = search (rules, equal, Product, Sum, Atom)

rest_within : (n p d : ℤ) → p ≤ℤ n → n <ℤ (p +ℤ d) → IsRest (n -ℤ p) d
rest_within n p d least greatest = (omega (arith, ints), omega (arith, ints))

product_bound : (n p d : ℤ) → unsigned_abs n ≤ 2 ^ 101 → IsDivisor d → p ≤ℤ n → n <ℤ (p +ℤ d)
    → unsigned_abs p ≤ 2 ^ 102
product_bound n p d short h least greatest = omega (arith, ints, h.0, h.1)

pub kept_number : (z : ℤ) → unsigned_abs z ≤ 2 ^ 102 → wide z ≡ z
kept_number z h = omega (arith, ints)

pub kept_fitting : (z : ℤ) → FitsSigned w128 z → wide z ≡ z
kept_fitting z h = omega (arith, ints)

pub kept_divisor : (d : ℤ) → IsDivisor d → wide d ≡ d
kept_divisor d h = omega (arith, ints, h.0, h.1)

kept_difference : (n p : ℤ) → unsigned_abs n ≤ 2 ^ 101 → unsigned_abs p ≤ 2 ^ 102 → wide (wide n -ℤ wide p) ≡ n -ℤ p
kept_difference n p h k = omega (arith, ints)

difference_fits : (n p : ℤ) → unsigned_abs n ≤ 2 ^ 101 → unsigned_abs p ≤ 2 ^ 102 → FitsSigned w128 (wide n -ℤ wide p)
difference_fits n p h k = omega (arith, ints)

pub floor_of : (q n d : ℤ) → unsigned_abs n ≤ 2 ^ 101 → IsDivisor d → (q *ℤ wide d) ≤ℤ wide n
    → wide n <ℤ ((q +ℤ pos 1) *ℤ wide d) → IsFloor q n d
floor_of q n d short h least greatest = grind (arith, kept_divisor, kept_number)

below_next : (q n d : ℤ) → IsFloor q n d → n <ℤ (q *ℤ d +ℤ d)
below_next q n d at = rw (← next_product q d) at.greatest

product_short : (q n d : ℤ) → unsigned_abs n ≤ 2 ^ 101 → IsDivisor d → IsFloor q n d → unsigned_abs (q *ℤ d) ≤ 2 ^ 102
product_short q n d short h at = product_bound n (q *ℤ d) d short h at.least (below_next q n d at)

rest_is : (q n d : ℤ) → unsigned_abs n ≤ 2 ^ 101 → IsDivisor d → FitsSigned w128 q → IsFloor q n d
    → wide (wide n -ℤ wide (wide q *ℤ wide d)) ≡ n -ℤ q *ℤ d
rest_is q n d short h fits at = grind (arith, kept_fitting, kept_divisor, kept_difference, product_short)

pub product_fits : (q n d : ℤ) → unsigned_abs n ≤ 2 ^ 101 → IsDivisor d → FitsSigned w128 q → IsFloor q n d
    → FitsSigned w128 (wide q *ℤ wide d)
product_fits q n d short h fits at = grind (arith, product_short, kept_fitting, kept_divisor, fits_signed_from_abs)

pub rest_fits : (q n d : ℤ) → unsigned_abs n ≤ 2 ^ 101 → IsDivisor d → FitsSigned w128 q → IsFloor q n d
    → FitsSigned w128 (wide n -ℤ wide (wide q *ℤ wide d))
rest_fits q n d short h fits at = grind (arith, kept_fitting, kept_divisor, difference_fits, product_short)

pub whole_again : (q n d : ℤ) → unsigned_abs n ≤ 2 ^ 101 → IsDivisor d → FitsSigned w128 q → IsFloor q n d
    → whole (wide q) d (wide (wide n -ℤ wide (wide q *ℤ wide d))) ≡ n
whole_again q n d short h fits at =
    rw (rest_is q n d short h fits at, kept_fitting q fits) (equal
    (Sum (Product (Atom q) (Atom d)) (Difference (Atom n) (Product (Atom q) (Atom d))))
    (Atom n)
    (omega arith))

pub is_rest : (q n d : ℤ) → unsigned_abs n ≤ 2 ^ 101 → IsDivisor d → FitsSigned w128 q → IsFloor q n d
    → IsRest (wide (wide n -ℤ wide (wide q *ℤ wide d))) d
is_rest q n d short h fits at =
    rw (rest_is q n d short h fits at) (rest_within n (q *ℤ d) d at.least (below_next q n d at))

-- a quotient by 1 or more is no longer than the number
natural_part : (a b : ℕ) (r : ℤ) → 0 < b → pos 0 ≤ℤ r → unsigned_abs (pos a *ℤ pos b +ℤ r) ≤ 2 ^ 101 → a ≤ 2 ^ 102
natural_part a b r some up short = omega (arith, ints, mul-le a 1 a b (omega arith) some)

negative_part : (a b : ℕ) (r : ℤ) → 0 < b → r <ℤ pos b → unsigned_abs (negsuc a *ℤ pos b +ℤ r) ≤ 2 ^ 101
    → suc a ≤ 2 ^ 102
negative_part a b r some below short = omega (arith, ints, mul-le a 1 a b (omega arith) some)

pub short_part : (q d r : ℤ) → IsDivisor d → IsRest r d → unsigned_abs (whole q d r) ≤ 2 ^ 101
    → unsigned_abs q ≤ 2 ^ 102
short_part q d r h rest short = grind (arith, natural_part, divisor_some, negative_part, ints)
