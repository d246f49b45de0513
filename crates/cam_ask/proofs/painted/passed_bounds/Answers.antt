use Rattle.std.proofs.Common.{arith, rules}
use Rattle.std.proofs.lemmas.Grind.{common_steps}
use Rattle.cam_ask.proofs.painted.passed_bounds.Goals as goal

pub pen_bounds-requires-clause-some : goal.pen_bounds-requires-clause-some
pen_bounds-requires-clause-some c = grind (arith, common_steps)

pub pen_bounds-requires-clause-reach : goal.pen_bounds-requires-clause-reach
pen_bounds-requires-clause-reach c = search rules

pub pen_bounds-requires-clause-few : goal.pen_bounds-requires-clause-few
pen_bounds-requires-clause-few c = grind (arith)
