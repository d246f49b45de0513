use Rattle.std.proofs.Common.{arith, rules}
use Rattle.cam_units.proofs.NearestLaws.{ten_power}
use Rattle.cam_units.proofs.length.inches.Goals as goal

pub returns-clause-some : goal.returns-clause-some
returns-clause-some c = grind (arith, ten_power)

pub returns-clause-short : goal.returns-clause-short
returns-clause-short c = search rules
