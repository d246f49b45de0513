use Rattle.std.proofs.Common.{arith}
use Rattle.cam_gerber.proofs.modal.Modal.stroke.Goals as goal

pub returns-in-Curve : goal.returns-in-Curve
returns-in-Curve c = grind (arith)

pub returns-in-Line : goal.returns-in-Line
returns-in-Line c = grind (arith)
