use Rattle.std.proofs.Common.{rules}
use Rattle.cam_objects.proofs.boxes.shapes.distance.Goals as goal

pub returns-clause-short : goal.returns-clause-short
returns-clause-short c = search rules

pub overflow_mul-to : goal.overflow_mul-to
overflow_mul-to c = search rules
