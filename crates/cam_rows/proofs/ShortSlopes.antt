-- Crossings of falling numbers, as 64 bits compute them.
use Rattle.std.proofs.Common.{◌≡◌, ◌^◌, ◌≤◌, ℤ, pos, ◌+ℤ◌, ◌-ℤ◌, FitsSigned, ◌∙◌, w64, arith}
use Rattle.std.specs.Int.RustNames.{unsigned_abs}
use Rattle.std.proofs.lemmas.Int.{ints}
use Rattle.cam_shapes.proofs.Widths.{narrow, wide}
use Rattle.cam_rows.specs.declared.slope.Steps.{Steps}
use Rattle.cam_rows.specs.Machinery.Slopes.{IsRest, IsShortDivisor, IsTopOf, whole}
use Rattle.cam_rows.proofs.Quotients.{kept_divisor, kept_number, short_part}
use Rattle.cam_rows.proofs.SlopeParts.{next_whole}

pub kept_fitting : (z : ℤ) → FitsSigned w64 z → narrow z ≡ z
kept_fitting z h = omega (arith, ints)

kept_next : (q : ℤ) → unsigned_abs q ≤ 2 ^ 61 → narrow (narrow (wide q) +ℤ pos 1) ≡ q +ℤ pos 1
kept_next q h = omega (arith, ints)

kept_lack : (r d : ℤ) → IsShortDivisor d → IsRest r d → narrow (narrow (wide r) -ℤ narrow d) ≡ r -ℤ d
kept_lack r d h rest = omega (arith, ints, h.1, rest.0, rest.1)

kept_short_divisor : (d : ℤ) → IsShortDivisor d → narrow d ≡ d
kept_short_divisor d h = omega (arith, ints, h.0, h.1)

-- a number by its quotient and its remainder, as they are passed
record IsDivided (q r d n : ℤ) : Type 0 where
  is_whole : whole q d r ≡ n
  is_rest : IsRest r d
  is_short : unsigned_abs q ≤ 2 ^ 102

divided : (q r d f n : ℤ) → IsShortDivisor d → f ≡ d → unsigned_abs n ≤ 2 ^ 101 → whole q (wide f) r ≡ wide n
    → IsRest r (wide f) → IsDivided q r d n
divided q r d f n h same short is rest = grind (arith, ints, kept_divisor, kept_number, short_part)

pub divided_top : (t : Steps) (q r n f : ℤ) → IsShortDivisor t.divisor → f ≡ narrow t.divisor → unsigned_abs n ≤ 2 ^ 101
    → whole q (wide f) r ≡ wide n → IsRest r (wide f) → unsigned_abs (wide q) ≤ 2 ^ 61
    → IsTopOf (record { columns = narrow (narrow (wide q) +ℤ pos 1); rest = narrow (narrow (wide r) -ℤ narrow t.divisor) }) t n
divided_top t q r n f h same short is rest few =
    let parts = divided q r t.divisor f n h (same ∙ kept_short_divisor t.divisor h) short is rest in
    let columns : unsigned_abs q ≤ 2 ^ 61 = omega (arith, ints, few, parts.is_short) in
    let left = parts.is_rest in
    rw (kept_next q columns, kept_lack r t.divisor h left) (record {
      here = record {
        low = omega (arith, ints, left.0);
        high = omega (arith, ints, left.1);
        near = omega (arith, ints, columns);
      };
      first = next_whole q r t.divisor ∙ parts.is_whole;
    })
