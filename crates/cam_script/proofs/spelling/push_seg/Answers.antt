use Rattle.std.proofs.Common.{arith}
use Rattle.std.proofs.lemmas.Grind.{common_steps}
use Rattle.cam_script.proofs.spelling.push_seg.Goals as goal

pub returns-in_ok-push_point-in-Curve : goal.returns-in_ok-push_point-in-Curve
returns-in_ok-push_point-in-Curve c = grind (arith, common_steps)

pub returns-in_ok-push_word-in-Line : goal.returns-in_ok-push_word-in-Line
returns-in_ok-push_word-in-Line c = grind (arith, common_steps)
