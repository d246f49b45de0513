use Rattle.std.proofs.Common.{rules}
use Rattle.cam_rows.proofs.RowBytes.{exchanged_bit}
use Rattle.cam_rows.proofs.lanes.exchanged.Goals as goal

pub returns : goal.returns
returns c = search (rules, exchanged_bit)
