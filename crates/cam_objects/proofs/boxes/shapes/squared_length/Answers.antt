use Rattle.std.proofs.Common.{◌≡◌, ℕ, ◌+◌, ◌*◌, ◌≤◌, ℤ, ◌+ℤ◌, ◌*ℤ◌, arith}
use Rattle.std.specs.Int.RustNames.{unsigned_abs}
use Rattle.std.proofs.lemmas.Int.{ints}
use Rattle.std.proofs.lemmas.Nat.{mul-le}
use Rattle.cam_shapes.specs.Plane.{way}
use Rattle.cam_objects.proofs.PlacedShapes.{square_is}
use Rattle.cam_objects.proofs.boxes.shapes.squared_length.Goals as goal

sum_of_squares : (x y : ℤ) (m n : ℕ) → m ≡ unsigned_abs x → n ≡ unsigned_abs y → m * m + n * n ≡ unsigned_abs (x *ℤ x +ℤ y *ℤ y)
sum_of_squares x y m n e f = grind (arith, square_is)

square_few : (n : ℕ) → n ≤ 4000000000 → n * n ≤ 16000000000000000000
square_few n h = mul-le n n 4000000000 4000000000 h h

pub overflow_mul-result : goal.overflow_mul-result
overflow_mul-result c = omega (arith, square_few c.distance-x.result c.distance-x.ensures.short)

pub overflow_mul-result-2 : goal.overflow_mul-result-2
overflow_mul-result-2 c = omega (arith, square_few c.distance-y.result c.distance-y.ensures.short)

pub overflow_add-result : goal.overflow_add-result
overflow_add-result c = grind (arith, square_few)

pub returns-clause-short : goal.returns-clause-short
returns-clause-short c = grind (arith, square_few)

pub returns-clause-value : goal.returns-clause-value
returns-clause-value c =
    let v = way c.args.from.now c.args.to.now in
    sum_of_squares v.x v.y c.distance-x.result c.distance-y.result
    (omega (arith, ints, c.distance-x.ensures.value)) (omega (arith, ints, c.distance-y.ensures.value))

pub distance-y-requires-clause-from : goal.distance-y-requires-clause-from
distance-y-requires-clause-from c = grind (arith)

pub distance-y-requires-clause-to : goal.distance-y-requires-clause-to
distance-y-requires-clause-to c = grind (arith)

pub distance-x-requires-clause-from : goal.distance-x-requires-clause-from
distance-x-requires-clause-from c = grind (arith)

pub distance-x-requires-clause-to : goal.distance-x-requires-clause-to
distance-x-requires-clause-to c = grind (arith)
