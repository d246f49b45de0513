use Rattle.std.proofs.Common.{arith}
use Rattle.std.proofs.lemmas.Grind.{common_steps}
use Rattle.std.proofs.lemmas.Bool.{eqb-true}
use Rattle.cam_xnc.proofs.Cuttings.{nothing_left, some_left, given_next}
use Rattle.cam_xnc.proofs.lines.Lines.next.Goals as goal

pub returns-then-is_empty-clause-none : goal.returns-then-is_empty-clause-none
returns-then-is_empty-clause-none c = grind (arith, eqb-true, nothing_left)

pub returns-clause-some : goal.returns-clause-some
returns-clause-some c = grind (arith, given_next, some_left)

pub slice_bounds-text-end : goal.slice_bounds-text-end
slice_bounds-text-end c = grind (arith, common_steps)

pub returns-clause-within : goal.returns-clause-within
returns-clause-within c = grind (arith, common_steps)
