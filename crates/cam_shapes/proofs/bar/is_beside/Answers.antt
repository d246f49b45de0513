use Rattle.std.proofs.Common.{rules, arith}
use Rattle.std.proofs.lemmas.Grind.{common_steps}
use Rattle.cam_shapes.proofs.Widths.{passed_square}
use Rattle.cam_shapes.proofs.bar.is_beside.Goals as goal

pub returns-then-is_between_ends : goal.returns-then-is_between_ends
returns-then-is_between_ends c = search (rules, passed_square)

pub returns-else-is_between_ends : goal.returns-else-is_between_ends
returns-else-is_between_ends c = grind (arith)

pub has_square_within-requires : goal.has_square_within-requires
has_square_within-requires c = grind (arith, common_steps)
