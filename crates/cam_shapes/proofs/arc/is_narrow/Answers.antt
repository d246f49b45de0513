use Rattle.std.proofs.Common.{arith}
use Rattle.std.proofs.lemmas.Grind.{common_steps}
use Rattle.cam_shapes.specs.Plane.{dot}
use Rattle.cam_shapes.proofs.Circles.{narrow_by_dot, not_narrow}
use Rattle.cam_shapes.proofs.arc.is_narrow.Goals as goal

pub returns-then-turn-eq0 : goal.returns-then-turn-eq0
returns-then-turn-eq0 c =
    narrow_by_dot c.cross-turn.result _ c.cross-turn.ensures.bound c.cross-turn.ensures.value
    c.dot.result _ c.dot.ensures.bound c.dot.ensures.value c.if-turn-eq0.true

pub returns-else-turn-eq0 : goal.returns-else-turn-eq0
returns-else-turn-eq0 c =
    not_narrow c.cross-turn.result _ c.cross-turn.ensures.bound c.cross-turn.ensures.value
    (dot c.args.start c.args.end) c.if-turn-eq0.false c.if-turn-gt0.false

pub returns-then-turn-gt0 : goal.returns-then-turn-gt0
returns-then-turn-gt0 c = grind (arith, common_steps)
