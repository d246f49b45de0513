use Rattle.std.proofs.Common.{arith}
use Rattle.std.proofs.lemmas.Grind.{common_steps}
use Rattle.std.proofs.lemmas.Int.{ints}
use Rattle.cam_shapes.proofs.Obrounds.{high_is_rounded, wide_is_rounded}
use Rattle.cam_shapes.proofs.Vectors.{same_vector}
use Rattle.cam_shapes.proofs.obround.is_rounded.Goals as goal

pub returns-then-width-height : goal.returns-then-width-height
returns-then-width-height c =
    wide_is_rounded c.is_along.result c.args.seen c.args.width.0 c.args.height.0 c.excess.result.0
    (omega (arith, ints)) c.excess.ensures.value c.is_along.ensures

pub returns-else-width-height : goal.returns-else-width-height
returns-else-width-height c =
    high_is_rounded c.is_along-else-width-height.result c.args.seen _ c.args.width.0 c.args.height.0
    c.excess-else-width-height.result.0 (omega (arith, ints)) c.excess-else-width-height.ensures.value
    (same_vector _ _ (omega (arith, ints)) (omega (arith, ints))) c.is_along-else-width-height.ensures

pub is_along-requires-else-width-height-clause-seen : goal.is_along-requires-else-width-height-clause-seen
is_along-requires-else-width-height-clause-seen c = grind (arith, common_steps)

pub excess-requires-else-width-height-clause-order : goal.excess-requires-else-width-height-clause-order
excess-requires-else-width-height-clause-order c = grind (arith, common_steps)

pub excess-requires-clause-order : goal.excess-requires-clause-order
excess-requires-clause-order c = grind (arith)
