use Rattle.std.proofs.Common.{arith}
use Rattle.std.proofs.lemmas.Grind.{common_steps}
use Rattle.cam_script.proofs.spelling.push_object_words.Goals as goal

pub returns-in_ok-push_point-in-Flash : goal.returns-in_ok-push_point-in-Flash
returns-in_ok-push_point-in-Flash c = grind (arith, common_steps)

pub returns-in_ok-push_point-in-Arc : goal.returns-in_ok-push_point-in-Arc
returns-in_ok-push_point-in-Arc c = grind (arith, common_steps)

pub returns-in_ok-push_ends-in-Draw : goal.returns-in_ok-push_ends-in-Draw
returns-in_ok-push_ends-in-Draw c = grind (arith, common_steps)

pub returns-in_ok-push_word-in-Region : goal.returns-in_ok-push_word-in-Region
returns-in_ok-push_word-in-Region c = grind (arith, common_steps)
