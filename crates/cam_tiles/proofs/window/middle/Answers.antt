use Rattle.std.proofs.Common.{◌^◌, ◌≤◌, ℤ, ◌*ℤ◌, FitsSigned, w64, rules, arith}
use Rattle.std.specs.Int.{w128}
use Rattle.std.specs.Int.RustNames.{unsigned_abs}
use Rattle.std.proofs.lemmas.Int.{fits_signed_from_abs, ints, unsigned_abs-mul}
use Rattle.std.proofs.lemmas.Nat.{mul-le}
use Rattle.cam_shapes.proofs.Widths.{wide}
use Rattle.cam_tiles.proofs.WindowLemmas.{middle_kept, middle_fits, kept_middle}
use Rattle.cam_tiles.proofs.window.middle.Goals as goal

product_fits : (n p : ℤ) → unsigned_abs n ≤ 2 ^ 34 → unsigned_abs p ≤ 2 ^ 63 → FitsSigned w128 (wide n *ℤ wide p)
product_fits n p h k = grind (arith, unsigned_abs-mul, mul-le, wide, ints, fits_signed_from_abs)

pub overflow_mul-result-2 : goal.overflow_mul-result-2
overflow_mul-result-2 c = grind (arith, product_fits, ints)

pub overflow_add-result : goal.overflow_add-result
overflow_add-result c =
    let edge : FitsSigned w64 c.args.edge = search rules in
    let pitch : FitsSigned w64 c.args.pitch = search rules in
    let middle = middle_kept c.from.result c.from-3.result c.from-4.result c.args.edge c.args.pitch c.args.pixel
    (omega (arith, ints)) (omega (arith, ints)) (omega (arith, ints)) edge (omega arith) pitch in
    middle_fits _ c.args.edge c.args.pitch c.args.pixel middle edge (omega arith) pitch

pub returns : goal.returns
returns c =
    let edge : FitsSigned w64 c.args.edge = search rules in
    let pitch : FitsSigned w64 c.args.pitch = search rules in
    let middle = middle_kept c.from.result c.from-3.result c.from-4.result c.args.edge c.args.pitch c.args.pixel
    (omega (arith, ints)) (omega (arith, ints)) (omega (arith, ints)) edge (omega arith) pitch in
    kept_middle _ c.args.edge c.args.pitch c.args.pixel middle edge (omega arith) pitch
