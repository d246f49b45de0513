use Rattle.std.proofs.Common.{arith}
use Rattle.std.proofs.lemmas.Grind.{common_steps}
use Rattle.cam_ask.proofs.lines.push_entry.Goals as goal

pub returns-in_ok-end_line-in-Aperture : goal.returns-in_ok-end_line-in-Aperture
returns-in_ok-end_line-in-Aperture c = grind (arith, common_steps)

pub returns-in_ok-end_line-in-Block : goal.returns-in_ok-end_line-in-Block
returns-in_ok-end_line-in-Block c = grind (arith, common_steps)
