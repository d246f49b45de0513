use Rattle.std.proofs.Common.{◌∙◌, ap, sym}
use Rattle.std.proofs.lemmas.Bool.{false≢true}
use Rattle.cam_shapes.specs.Plane.{dot, seen_from, square}
use Rattle.cam_shapes.proofs.Widths.{passed_less, short_square}
use Rattle.cam_shapes.proofs.disc.in_hole.Goals as goal

pub returns-then-is_positive : goal.returns-then-is_positive
returns-then-is_positive c =
    let seen = seen_from c.args.disc.centre c.args.spot in
    let less = passed_less c.dot.result c.squared.result (dot seen seen) (square c.args.disc.diameter.0) c.dot.ensures.bound
    (short_square c.squared.result c.squared.ensures.bound)
    (c.dot.ensures.value ∙ ap (λ v. dot v v) c.seen_from-seen.ensures.value) c.squared.ensures.value in (
      (λ told. record { some = c.is_positive.ensures.0 c.if-is_positive.true; near = less.0 told }),
      (λ inside. less.1 inside.near),
    )

pub returns-else-is_positive : goal.returns-else-is_positive
returns-else-is_positive c = (
  (λ told. absurd (false≢true (sym c.if-is_positive.false ∙ told))),
  (λ inside. c.is_positive.ensures.1 inside.some),
)
