use Rattle.std.proofs.Common.{rules}
use Rattle.cam_units.proofs.length.coord_nm.Goals as goal

pub returns-then-unsigned_abs-lt1000000000000000000 : goal.returns-then-unsigned_abs-lt1000000000000000000
returns-then-unsigned_abs-lt1000000000000000000 c = search rules

pub returns-else-unsigned_abs-lt1000000000000000000 : goal.returns-else-unsigned_abs-lt1000000000000000000
returns-else-unsigned_abs-lt1000000000000000000 c = search rules
