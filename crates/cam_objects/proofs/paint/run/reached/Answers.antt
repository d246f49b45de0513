use Rattle.std.proofs.Common.{arith}
use Rattle.std.proofs.lemmas.Grind.{common_steps}
use Rattle.std.proofs.lemmas.Int.{ints, to_z-of_z}
use Rattle.cam_objects.proofs.Runs.{up_to_quotient}
use Rattle.cam_objects.proofs.paint.run.reached.Goals as goal

pub returns-then-last-from-clause-each : goal.returns-then-last-from-clause-each
returns-then-last-from-clause-each c = λ k here. grind (arith, to_z-of_z, up_to_quotient, ints)

pub returns-then-stride-eq0-clause-each : goal.returns-then-stride-eq0-clause-each
returns-then-stride-eq0-clause-each c = grind (arith)

pub returns-else-last-from-clause-each : goal.returns-else-last-from-clause-each
returns-else-last-from-clause-each c = grind (arith, common_steps)
