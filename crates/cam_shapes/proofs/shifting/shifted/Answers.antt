use Rattle.cam_shapes.proofs.Places.{kept_shift, long_sum_fits}
use Rattle.cam_shapes.proofs.shifting.shifted.Goals as goal

pub overflow_add-result : goal.overflow_add-result
overflow_add-result c = long_sum_fits c.args.point.x c.args.by.x c.requires.point.x c.requires.by.x

pub overflow_add-result-2 : goal.overflow_add-result-2
overflow_add-result-2 c = long_sum_fits c.args.point.y c.args.by.y c.requires.point.y c.requires.by.y

pub returns : goal.returns
returns c = kept_shift c.args.point c.args.by c.requires.point c.requires.by
