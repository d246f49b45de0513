use Rattle.std.proofs.Common.{arith}
use Rattle.cam_rows.proofs.FoundRuns.{found_anew}
use Rattle.cam_rows.proofs.rect.RectangleRunShape.find.Goals as goal

pub returns : goal.returns
returns c = grind (arith, found_anew)
