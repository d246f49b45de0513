use Rattle.std.proofs.Common.{arith}
use Rattle.cam_writers.proofs.gerber_state.GerberText.write_segment.Goals as goal

pub returns-in_ok-set_mode-in-Curve : goal.returns-in_ok-set_mode-in-Curve
returns-in_ok-set_mode-in-Curve c = grind (arith)

pub returns-in_ok-set_mode-in-Line : goal.returns-in_ok-set_mode-in-Line
returns-in_ok-set_mode-in-Line c = grind (arith)

pub plot_arc-requires-clause-centre : goal.plot_arc-requires-clause-centre
plot_arc-requires-clause-centre c = grind (arith)
