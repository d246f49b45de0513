use Rattle.std.proofs.Common.{◌+◌, length, arith}
use Rattle.cam_rows.proofs.NearRows.{far_rows}
use Rattle.cam_rows.proofs.runs.cap.circle_runs.Goals as goal

pub rows_of-requires-else-is_nearby-clause-within : goal.rows_of-requires-else-is_nearby-clause-within
rows_of-requires-else-is_nearby-clause-within c =
    far_rows c.args.cap.now.centre c.args.top.now (length c.args.firsts.now) (c.squared_distance-radius.result + 1)
    c.requires.cap.centre c.requires.rows (omega arith) (omega (arith, c.squared_distance-radius.ensures.bound))

pub rows_of-requires-clause-ends : goal.rows_of-requires-clause-ends
rows_of-requires-clause-ends c = grind (arith)

pub rows_of-requires-clause-some : goal.rows_of-requires-clause-some
rows_of-requires-clause-some c = assumption arith

pub rows_of-requires-else-is_nearby-clause-ends : goal.rows_of-requires-else-is_nearby-clause-ends
rows_of-requires-else-is_nearby-clause-ends c = grind (arith)

pub rows_of-requires-else-is_nearby-clause-some : goal.rows_of-requires-else-is_nearby-clause-some
rows_of-requires-else-is_nearby-clause-some c = assumption arith
