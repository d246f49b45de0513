use Rattle.std.proofs.Common.{arith, rules}
use Rattle.std.proofs.lemmas.Grind.{common_steps}
use Rattle.cam_units.proofs.length.billionths.Goals as goal

pub returns-in-Inch-clause-short : goal.returns-in-Inch-clause-short
returns-in-Inch-clause-short c = search rules

pub returns-in-Mm-clause-short : goal.returns-in-Mm-clause-short
returns-in-Mm-clause-short c = grind (arith, common_steps)

pub returns-in-Inch-clause-length : goal.returns-in-Inch-clause-length
returns-in-Inch-clause-length c = search rules
