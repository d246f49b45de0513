use Rattle.std.proofs.Common.{◌≡◌, ℕ, ◌+◌, ◌*◌, ◌<◌, ◌^◌, ◌+ℤ◌, ◌<ℤ◌, ℤ, pos, of_z, to_z, w64, arith}
use Rattle.std.proofs.lemmas.Int.{ints}
use Rattle.cam_shapes.specs.Plane.{square}
use Rattle.cam_rows.proofs.Circling.{short_root}
use Rattle.cam_tiles.proofs.masks.shapes.past_circle.Goals as goal

-- the number after a short root is itself in 64 bits
next_is : (root : ℕ) → root < 2 ^ 34 → to_z w64 (of_z w64 (to_z w64 root +ℤ pos 1)) ≡ pos (root + 1)
next_is root h = omega (arith, ints)

past_square : (d : ℤ) (n root : ℕ) → pos n ≡ d → n < (root + 1) * (root + 1) → d <ℤ square (pos (root + 1))
past_square d n root e h = omega (arith, ints)

pub returns : goal.returns
returns c =
    let n = c.squared_distance.result in
    let short = short_root c.isqrt.result n c.isqrt.ensures.square (omega (arith, c.squared_distance.ensures.bound)) in
    record {
      past = rw (next_is c.isqrt.result short)
          (past_square _ n c.isqrt.result c.squared_distance.ensures.value c.isqrt.ensures.greatest);
      some = rw (next_is c.isqrt.result short) (omega (arith, ints));
      short = rw (next_is c.isqrt.result short) (omega (arith, ints, short));
    }

pub overflow_add-result : goal.overflow_add-result
overflow_add-result c = grind (arith)

pub overflow_cast-result : goal.overflow_cast-result
overflow_cast-result c = grind (arith)
