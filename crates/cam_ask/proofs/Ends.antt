-- How far a place lies to a side of the end of an arc, by their directions and their distances from the centre.
use Rattle.std.proofs.Common.{ℕ, zero, suc, ◌+◌, ◌*◌, ◌<◌, ◌≤◌, ℤ, pos, negsuc, ◌+ℤ◌, ◌*ℤ◌, ◌≤ℤ◌, inl, inr, arith}
use Rattle.std.specs.Int.RustNames.{unsigned_abs}
use Rattle.std.proofs.lemmas.Bool.{cases_lt}
use Rattle.std.proofs.lemmas.Int.{ints}
use Rattle.std.proofs.lemmas.Nat.{mul-le}
use Rattle.std.proofs.Math.Nat.{mul-le-mul_left}
use Rattle.cam_shapes.proofs.Strokes.{squares_order}

below_next : (b n : ℕ) → b * b < (n + 1) * (n + 1) → b ≤ n
below_next b n h = grind (arith, cases_lt, mul-le)

-- both to the right
longer : (a b y z low most : ℕ) → a * z ≤ b * y → low * low ≤ b * b + z * z → a * a + y * y ≤ most * most → a * low ≤ b * most
longer a b y z low most turned floor ceiling =
    squares_order (a * low) (b * most)
    (omega (
      arith,
      mul-le (a * z) (a * z) (b * y) (b * y) turned turned,
      mul-le-mul_left (a * a) floor,
      mul-le-mul_left (b * b) ceiling,
    ))

pub to_the_right : (a b y z low most g : ℕ) → a * z ≤ b * y → 0 < z → low * low ≤ b * b + z * z → b * b + z * z < (low + 1) * (low + 1)
    → a * a + y * y ≤ most * most → most ≤ low + g → a ≤ b + g
to_the_right a b y z low most g turned some floor next ceiling reach = elim (cases_lt (b + g) a) [
  | inl far ↦
      let near : b ≤ low = below_next b low (omega arith) in
      let one : 1 ≤ low = elim (cases_lt 0 low) [
        | inl h ↦ h
        | inr h ↦ absurd (omega (arith, mul-le 1 1 z z some some, mul-le (low + 1) (low + 1) 1 1 (omega arith) (omega arith)))
      ] in
      absurd (omega (
        arith,
        longer a b y z low most turned floor ceiling,
        mul-le (b + g + 1) low a low (omega arith) (omega arith),
        mul-le-mul_left b reach,
        mul-le b g low g near (omega arith),
      ))
  | inr most ↦ most
]

-- both to the left
shorter : (a b y z high least : ℕ) → b * y ≤ a * z → b * b + z * z ≤ high * high → least * least ≤ a * a + y * y → b * least ≤ a * high
shorter a b y z high least turned ceiling floor =
    squares_order (b * least) (a * high)
    (omega (
      arith,
      mul-le (b * y) (b * y) (a * z) (a * z) turned turned,
      mul-le-mul_left (b * b) floor,
      mul-le-mul_left (a * a) ceiling,
    ))

pub to_the_left : (a b y z high least g : ℕ) → b * y ≤ a * z → 0 < z → b * b + z * z ≤ high * high → least * least ≤ a * a + y * y
    → high ≤ least + g → b ≤ a + g
to_the_left a b y z high least g turned some ceiling floor reach = elim (cases_lt (a + g) b) [
  | inl far ↦
      let near : b ≤ high = squares_order b high (omega arith) in
      let one : z ≤ high = squares_order z high (omega arith) in
      absurd (omega (
        arith,
        shorter a b y z high least turned ceiling floor,
        mul-le (a + g + 1) high b high (omega arith) (omega arith),
        mul-le-mul_left b reach,
        mul-le b g high g near (omega arith),
      ))
  | inr most ↦ most
]

-- a place at (a, y) and an end at (b, z), both above the centre, and the place turned on from the end to the left
pub turned_on : (a b : ℤ) (y z low high least most g : ℕ) → (a *ℤ pos z) ≤ℤ (b *ℤ pos y) → 0 < z
    → low * low ≤ unsigned_abs b * unsigned_abs b + z * z
    → unsigned_abs b * unsigned_abs b + z * z < (low + 1) * (low + 1)
    → unsigned_abs b * unsigned_abs b + z * z ≤ high * high
    → least * least ≤ unsigned_abs a * unsigned_abs a + y * y
    → unsigned_abs a * unsigned_abs a + y * y ≤ most * most
    → most ≤ low + g → high ≤ least + g
    → a ≤ℤ (b +ℤ pos g)
turned_on (pos a) (pos b) y z low high least most g turned some floor next ceiling bottom top beyond within =
    omega (arith, ints, to_the_right a b y z low most g (omega (arith, ints)) some floor next top beyond)
turned_on (pos zero) (negsuc b) zero z low high least most g turned some floor next ceiling bottom top beyond within =
    omega (arith, ints, to_the_left 0 (suc b) 0 z high least g (omega arith) some ceiling bottom within)
turned_on (pos zero) (negsuc b) (suc y) z low high least most g turned some floor next ceiling bottom top beyond within =
    absurd (omega (arith, ints, turned))
turned_on (pos (suc a)) (negsuc b) y z low high least most g turned some floor next ceiling bottom top beyond within =
    absurd (omega (arith, ints, turned, mul-le 1 z (suc a) z (omega arith) (omega arith)))
turned_on (negsuc a) (pos b) y z low high least most g turned some floor next ceiling bottom top beyond within =
    omega (arith, ints)
turned_on (negsuc a) (negsuc b) y z low high least most g turned some floor next ceiling bottom top beyond within =
    omega (arith, ints, to_the_left (suc a) (suc b) y z high least g (omega (arith, ints)) some ceiling bottom within)
