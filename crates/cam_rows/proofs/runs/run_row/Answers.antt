use Rattle.std.proofs.Common.{arith}
use Rattle.cam_rows.proofs.SetBits.{between_shifts}
use Rattle.cam_rows.proofs.runs.run_row.Goals as goal

pub returns : goal.returns
returns c = grind (arith, between_shifts)
