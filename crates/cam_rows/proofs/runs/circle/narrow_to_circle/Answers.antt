use Rattle.std.proofs.Common.{length, rules, arith}
use Rattle.cam_rows.proofs.NearRows.{far_rows}
use Rattle.cam_rows.proofs.runs.circle.narrow_to_circle.Goals as goal

pub narrow_sides-requires-else-is_nearby-clause-within : goal.narrow_sides-requires-else-is_nearby-clause-within
narrow_sides-requires-else-is_nearby-clause-within c =
    far_rows c.args.point.now c.args.top.now (length c.args.firsts.now) c.args.bound c.requires.point c.requires.rows
    (search rules) c.requires.bound

pub narrow_sides-requires-else-is_nearby-clause-ends : goal.narrow_sides-requires-else-is_nearby-clause-ends
narrow_sides-requires-else-is_nearby-clause-ends c = grind (arith)

pub narrow_sides-requires-else-is_nearby-clause-some : goal.narrow_sides-requires-else-is_nearby-clause-some
narrow_sides-requires-else-is_nearby-clause-some c = grind (arith)

pub narrow_sides-requires-clause-ends : goal.narrow_sides-requires-clause-ends
narrow_sides-requires-clause-ends c = grind (arith)

pub narrow_sides-requires-clause-some : goal.narrow_sides-requires-clause-some
narrow_sides-requires-clause-some c = grind (arith)

pub returns-then-is_empty : goal.returns-then-is_empty
returns-then-is_empty c = grind (arith)

pub is_nearby-requires-clause-some : goal.is_nearby-requires-clause-some
is_nearby-requires-clause-some c = grind (arith)
