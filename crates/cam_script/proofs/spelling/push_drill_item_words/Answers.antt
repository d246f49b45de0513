use Rattle.std.proofs.Common.{arith}
use Rattle.std.proofs.lemmas.Grind.{common_steps}
use Rattle.cam_script.proofs.spelling.push_drill_item_words.Goals as goal

pub returns-in_ok-push_form-in-Hit : goal.returns-in_ok-push_form-in-Hit
returns-in_ok-push_form-in-Hit c = grind (arith, common_steps)

pub returns-in_ok-push_form-in-Rout : goal.returns-in_ok-push_form-in-Rout
returns-in_ok-push_form-in-Rout c = grind (arith, common_steps)
