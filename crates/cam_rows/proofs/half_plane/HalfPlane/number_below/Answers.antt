use Rattle.std.proofs.Common.{arith}
use Rattle.cam_rows.proofs.RowNumbers.{change_fits, number_fits, same_number}
use Rattle.cam_rows.proofs.half_plane.HalfPlane.number_below.Goals as goal

pub overflow_mul-result : goal.overflow_mul-result
overflow_mul-result c =
    change_fits c.args.steps c.args.self.now.first c.args.self.now.down c.ranges.steps
    c.requires.short.plane.first c.requires.short.plane.down (c.requires.short.rows c.args.steps (omega arith))

pub overflow_add-result : goal.overflow_add-result
overflow_add-result c =
    number_fits c.args.steps c.args.self.now.first c.args.self.now.down c.ranges.steps
    c.requires.short.plane.first c.requires.short.plane.down (c.requires.short.rows c.args.steps (omega arith))

pub returns : goal.returns
returns c =
    same_number c.args.steps c.args.self.now.first c.args.self.now.down c.ranges.steps
    c.requires.short.plane.first c.requires.short.plane.down (c.requires.short.rows c.args.steps (omega arith))
