use Rattle.std.proofs.Common.{arith}
use Rattle.cam_gerber.proofs.running.Running.keep_text.Goals as goal

pub returns-in-FileAttribute : goal.returns-in-FileAttribute
returns-in-FileAttribute c = grind (arith)

pub returns-in-ApertureAttribute : goal.returns-in-ApertureAttribute
returns-in-ApertureAttribute c = grind (arith)
