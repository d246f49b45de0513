use Rattle.std.proofs.Common.{sym, ◌∙◌, arith}
use Rattle.std.proofs.lemmas.Grind.{common_steps}
use Rattle.std.proofs.lemmas.Bool.{false≢true}
use Rattle.cam_shapes.proofs.Circles.{in_narrow}
use Rattle.cam_shapes.proofs.arc.is_in_sweep.Goals as goal

pub returns-then-after_start : goal.returns-then-after_start
returns-then-after_start c =
    in_narrow c.args.start c.args.end c.args.seen c.is_left_or_along-before_end.result (sym c.if-eq.false ∙ c.eq.ensures)
    (c.is_narrow.ensures.0 c.if-is_narrow.true) (
      (λ told. (c.is_left_or_along-after_start.ensures.0 c.if-after_start.true, c.is_left_or_along-before_end.ensures.0 told)),
      (λ both. c.is_left_or_along-before_end.ensures.1 both.1),
    )

pub returns-else-after_start : goal.returns-else-after_start
returns-else-after_start c =
    in_narrow c.args.start c.args.end c.args.seen c.is_left_or_along-after_start.result (sym c.if-eq.false ∙ c.eq.ensures)
    (c.is_narrow.ensures.0 c.if-is_narrow.true) (
      (λ told. absurd (false≢true (sym c.if-after_start.false ∙ told))),
      (λ both. c.is_left_or_along-after_start.ensures.1 both.0),
    )

pub returns-then-after_start-2 : goal.returns-then-after_start-2
returns-then-after_start-2 c = grind (arith, common_steps)

pub returns-then-eq : goal.returns-then-eq
returns-then-eq c = grind (arith, common_steps)

pub returns-else-after_start-2 : goal.returns-else-after_start-2
returns-else-after_start-2 c = grind (arith, common_steps)

pub returns-else-cross-lt0 : goal.returns-else-cross-lt0
returns-else-cross-lt0 c = grind (arith, common_steps)
