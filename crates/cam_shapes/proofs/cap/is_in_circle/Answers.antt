use Rattle.std.proofs.Common.{arith, rules}
use Rattle.cam_shapes.proofs.Caps.{passed_unlike}
use Rattle.cam_shapes.proofs.cap.is_in_circle.Goals as goal

pub returns-then-place-circle : goal.returns-then-place-circle
returns-then-place-circle c =
    passed_unlike c.dot-place.result c.dot-circle.result _ _ _ c.dot-place.ensures.bound c.dot-circle.ensures.bound
    c.dot-place.ensures.value c.dot-circle.ensures.value c.if-place-circle.true

pub returns-then-seen-lt0 : goal.returns-then-seen-lt0
returns-then-seen-lt0 c = grind (arith)

pub returns-then-seen-eq0 : goal.returns-then-seen-eq0
returns-then-seen-eq0 c = search rules

pub returns-else-seen-eq0 : goal.returns-else-seen-eq0
returns-else-seen-eq0 c = search rules
