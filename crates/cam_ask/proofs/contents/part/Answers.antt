use Rattle.std.proofs.Common.{arith}
use Rattle.std.proofs.lemmas.Grind.{common_steps}
use Rattle.cam_ask.proofs.contents.part.Goals as goal

pub slice_bounds-result-end : goal.slice_bounds-result-end
slice_bounds-result-end c = grind (arith, common_steps)

pub returns-then-rest-count : goal.returns-then-rest-count
returns-then-rest-count c = grind (arith, common_steps)

pub returns : goal.returns
returns c = grind (arith, common_steps)
