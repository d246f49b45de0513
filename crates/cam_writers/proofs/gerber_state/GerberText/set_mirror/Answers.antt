use Rattle.std.proofs.Common.{arith}
use Rattle.cam_writers.proofs.gerber_state.GerberText.set_mirror.Goals as goal

pub returns-in_ok-push_mirror : goal.returns-in_ok-push_mirror
returns-in_ok-push_mirror c = grind (arith)

pub returns-else-not-is_same_turn : goal.returns-else-not-is_same_turn
returns-else-not-is_same_turn c = grind (arith)
