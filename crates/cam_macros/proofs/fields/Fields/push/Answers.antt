use Rattle.std.proofs.Common.{arith}
use Rattle.cam_macros.proofs.FlatFields.{pushed}
use Rattle.cam_macros.proofs.fields.Fields.push.Goals as goal

pub invariant_of-self : goal.invariant_of-self
invariant_of-self c = grind (arith, pushed)

pub returns : goal.returns
returns c = grind (arith, pushed)
