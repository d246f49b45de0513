use Rattle.std.proofs.Common.{rules}
use Rattle.cam_units.proofs.length.millimetres.Goals as goal

pub returns : goal.returns
returns c = search rules

pub returns-in_err-length : goal.returns-in_err-length
returns-in_err-length c = search rules

pub returns-then-unsigned_abs-ge1000000000000000000 : goal.returns-then-unsigned_abs-ge1000000000000000000
returns-then-unsigned_abs-ge1000000000000000000 c = search rules
