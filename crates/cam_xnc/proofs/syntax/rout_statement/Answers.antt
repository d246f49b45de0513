use Rattle.std.proofs.Common.{arith}
use Rattle.std.proofs.lemmas.Grind.{common_steps}
use Rattle.cam_xnc.specs.Syntax.{rout_statement}
use Rattle.cam_xnc.proofs.syntax.rout_statement.Goals as goal

pub returns-in-Some : goal.returns-in-Some
unfolding rout_statement
returns-in-Some c = grind (arith, common_steps)

pub returns-in-None : goal.returns-in-None
unfolding rout_statement
returns-in-None c = grind (arith, common_steps)

pub returns-in-Some-coordinates : goal.returns-in-Some-coordinates
unfolding rout_statement
returns-in-Some-coordinates c = grind (arith, common_steps)

pub returns-in-None-coordinates : goal.returns-in-None-coordinates
unfolding rout_statement
returns-in-None-coordinates c = grind (arith, common_steps)

pub slice_bounds-coordinates-count : goal.slice_bounds-coordinates-count
unfolding rout_statement
slice_bounds-coordinates-count c = grind (arith)

pub slice_bounds-coordinates-count-then-starts_with-2 : goal.slice_bounds-coordinates-count-then-starts_with-2
unfolding rout_statement
slice_bounds-coordinates-count-then-starts_with-2 c = grind (arith)

pub slice_bounds-coordinates-start-then-starts_with-2 : goal.slice_bounds-coordinates-start-then-starts_with-2
unfolding rout_statement
slice_bounds-coordinates-start-then-starts_with-2 c = grind (arith)
