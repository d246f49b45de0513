use Rattle.std.proofs.Common.{arith}
use Rattle.std.proofs.lemmas.Grind.{common_steps}
use Rattle.cam_c.proofs.session.Session.copy_tile.Goals as goal

pub returns-in-Some-clause-tile : goal.returns-in-Some-clause-tile
returns-in-Some-clause-tile c = grind (arith, common_steps)

pub returns-in-None-clause-tile : goal.returns-in-None-clause-tile
returns-in-None-clause-tile c = grind (arith)
