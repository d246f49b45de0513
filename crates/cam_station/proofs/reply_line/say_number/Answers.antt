use Rattle.std.proofs.Common.{arith}
use Rattle.std.proofs.lemmas.Grind.{common_steps}
use Rattle.cam_station.proofs.reply_line.say_number.Goals as goal

pub returns-clause-said : goal.returns-clause-said
returns-clause-said c = grind (arith, common_steps)
