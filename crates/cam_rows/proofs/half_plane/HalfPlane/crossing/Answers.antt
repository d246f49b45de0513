use Rattle.std.proofs.Common.{arith}
use Rattle.std.proofs.lemmas.Grind.{common_steps}
use Rattle.cam_rows.proofs.HalfPlanes.{fell}
use Rattle.cam_rows.proofs.Quotients.{kept_number}
use Rattle.cam_rows.proofs.half_plane.HalfPlane.crossing.Goals as goal

pub returns : goal.returns
returns c = grind (arith, kept_number, fell)

pub of-requires : goal.of-requires
of-requires c = grind (arith, common_steps)

pub overflow_sub-falling : goal.overflow_sub-falling
overflow_sub-falling c = grind (arith, common_steps)

pub returns-in_err-top : goal.returns-in_err-top
returns-in_err-top c = grind (arith)

pub returns-in_err-steps : goal.returns-in_err-steps
returns-in_err-steps c = grind (arith)

pub crossing-requires-clause-number : goal.crossing-requires-clause-number
crossing-requires-clause-number c = grind (arith, common_steps)
