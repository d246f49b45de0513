use Rattle.std.proofs.Common.{arith, inl, inr, sym, ◌∙◌}
use Rattle.std.proofs.lemmas.Bool.{false≢true}
use Rattle.cam_shapes.specs.Plane.{dot, square}
use Rattle.cam_shapes.proofs.Circles.{told_circle}
use Rattle.cam_shapes.proofs.Widths.{difference_fits, differences_fit, fourfold_fits, kept_differences, kept_fourfold}
use Rattle.cam_shapes.proofs.Widths.{passed_sum, short_square, sum_fits}
use Rattle.cam_shapes.proofs.arc.is_near_circle.Goals as goal

pub overflow_add-place : goal.overflow_add-place
overflow_add-place c = grind (arith, sum_fits)

pub overflow_sub-place : goal.overflow_sub-place
overflow_sub-place c = grind (arith, difference_fits)

pub overflow_sub-place-else-place-circle : goal.overflow_sub-place-else-place-circle
overflow_sub-place-else-place-circle c = grind (arith, differences_fit, short_square)

pub overflow_mul-squared_product : goal.overflow_mul-squared_product
overflow_mul-squared_product c = fourfold_fits c.squared_product.result c.squared_product.ensures.bound

pub has_square_within-requires : goal.has_square_within-requires
has_square_within-requires c = (kept_fourfold c.squared_product.result c.squared_product.ensures.bound).1

pub returns-then-place-circle : goal.returns-then-place-circle
returns-then-place-circle c = grind (arith, passed_sum, short_square)

pub returns-else-place-circle : goal.returns-else-place-circle
returns-else-place-circle c =
    let short = short_square c.squared-squared_radius.result c.squared-squared_radius.ensures.bound in
    let sum = passed_sum c.dot-place.result c.dot-circle.result c.squared-squared_radius.result
    (dot c.args.seen c.args.seen) (dot c.args.start c.args.start) (square c.args.radius.0)
    c.dot-place.ensures.bound c.dot-circle.ensures.bound short c.dot-place.ensures.value c.dot-circle.ensures.value
    c.squared-squared_radius.ensures.value in
    let between = told_circle c.has_square_within.result (dot c.args.seen c.args.seen) (dot c.args.start c.args.start)
    c.args.radius.0 (rw (
      kept_differences c.dot-place.result c.dot-circle.result c.squared-squared_radius.result c.dot-place.ensures.bound
          c.dot-circle.ensures.bound short,
      (kept_fourfold c.squared_product.result c.squared_product.ensures.bound).0,
      c.dot-place.ensures.value,
      c.dot-circle.ensures.value,
      c.squared-squared_radius.ensures.value,
      c.squared_product.ensures.value,
    ) at c.has_square_within.ensures) in (
      (λ told. inr (between.0 told)),
      (λ near. elim near [
        | inl within ↦ absurd (false≢true (sym c.if-place-circle.false ∙ sum.1 within))
        | inr circles ↦ between.1 circles
      ]),
    )
