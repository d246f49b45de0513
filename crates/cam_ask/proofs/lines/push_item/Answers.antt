use Rattle.std.proofs.Common.{arith}
use Rattle.std.proofs.lemmas.Grind.{common_steps}
use Rattle.cam_ask.proofs.lines.push_item.Goals as goal

pub returns-in_ok-push_object_words-in-One : goal.returns-in_ok-push_object_words-in-One
returns-in_ok-push_object_words-in-One c = grind (arith, common_steps)

pub returns-in_ok-push_steps-in-Repeat : goal.returns-in_ok-push_steps-in-Repeat
returns-in_ok-push_steps-in-Repeat c = grind (arith, common_steps)
