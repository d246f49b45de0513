use Rattle.std.proofs.Common.{◌≡◌, ◌<◌, ◌^◌, ◌∙◌, ap, pos, rules, arith}
use Rattle.std.proofs.lemmas.Grind.{common_steps}
use Rattle.std.proofs.lemmas.Int.{ints}
use Rattle.std.proofs.lemmas.Nat.{mul-lt}
use Rattle.cam_shapes.specs.Plane.{dot, square, way}
use Rattle.cam_shapes.proofs.Widths.{size_square}
use Rattle.cam_rows.proofs.Circling.{square_of}
use Rattle.cam_rows.proofs.Rings.{near_in_full_ring, near_in_open_ring}
use Rattle.cam_rows.proofs.ring.ring_of.Goals as goal
use Rattle.cam_rows.proofs.ring.ring_of.Goals.{After-from-width}

square_of_width : (c : After-from-width) → pos c.from-width.result ≡ square c.args.arc.now.width.0
square_of_width c =
    ap pos c.from-width.ensures ∙ square_of _ c.args.arc.now.width.0 (omega (arith, ints, c.requires.width))

pub overflow_mul-width-3 : goal.overflow_mul-width-3
overflow_mul-width-3 c =
    let width : c.from-width.result < 2 ^ 56 =
    omega (
      arith,
      ints,
      size_square c.args.arc.now.width.0 c.requires.width,
      square_of_width (goal.at.overflow_mul-width-3 c).After-from-width,
    ) in
    omega (
      arith,
      mul-lt c.from-width.result c.squared_distance-radius.result (2 ^ 56) (2 ^ 67) width
          c.squared_distance-radius.ensures.bound,
    )

pub returns-then-radius-width : goal.returns-then-radius-width
returns-then-radius-width c =
    let arc = c.args.arc.now in
    let radius = dot (way arc.centre arc.from) (way arc.centre arc.from) in
    record {
      near = λ p.
          rw c.from-spread.ensures (near_in_full_ring p c.squared_distance-radius.result c.from-width.result
          c.isqrt.result radius arc.width.0 c.squared_distance-radius.ensures.value (square_of_width (goal.at.returns-then-radius-width c).After-from-width)
          c.isqrt.ensures.square c.isqrt.ensures.greatest c.if-radius-width.true);
      inner = search rules;
      outer = search rules;
    }

pub returns : goal.returns
returns c =
    let arc = c.args.arc.now in
    let radius = dot (way arc.centre arc.from) (way arc.centre arc.from) in
    record {
      near = λ p.
          rw (c.saturating_sub.ensures, c.from-spread.ensures) (near_in_open_ring p c.squared_distance-radius.result
          c.from-width.result c.isqrt.result radius arc.width.0 c.squared_distance-radius.ensures.value
          (square_of_width (goal.at.returns c).After-from-width) c.isqrt.ensures.square c.isqrt.ensures.greatest c.if-radius-width.false);
      inner = search rules;
      outer = search rules;
    }

pub overflow_mul-width : goal.overflow_mul-width
overflow_mul-width c = grind (arith, common_steps)

pub overflow_cast-width : goal.overflow_cast-width
overflow_cast-width c = grind (arith, common_steps)

pub overflow_add-outer : goal.overflow_add-outer
overflow_add-outer c = grind (arith)

pub overflow_add-outer-2 : goal.overflow_add-outer-2
overflow_add-outer-2 c = grind (arith, common_steps)

pub overflow_add-outer-3 : goal.overflow_add-outer-3
overflow_add-outer-3 c = grind (arith, common_steps)

pub overflow_mul-width-2 : goal.overflow_mul-width-2
overflow_mul-width-2 c = grind (arith, common_steps)
