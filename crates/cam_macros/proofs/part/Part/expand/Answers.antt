use Rattle.std.proofs.Common.{arith}
use Rattle.std.proofs.lemmas.Grind.{common_steps}
use Rattle.cam_macros.proofs.part.Part.expand.Goals as goal

pub returns-in_err-primitive-in-Primitive-clause-fault : goal.returns-in_err-primitive-in-Primitive-clause-fault
returns-in_err-primitive-in-Primitive-clause-fault c = grind (arith)

pub returns-in_ok-set-in-Assignment-clause-made : goal.returns-in_ok-set-in-Assignment-clause-made
returns-in_ok-set-in-Assignment-clause-made c = grind (arith, common_steps)

pub returns-in_ok-set-in-Assignment-clause-fault : goal.returns-in_ok-set-in-Assignment-clause-fault
returns-in_ok-set-in-Assignment-clause-fault c = grind (arith)

pub returns-in_ok-push-in-Primitive-clause-values : goal.returns-in_ok-push-in-Primitive-clause-values
returns-in_ok-push-in-Primitive-clause-values c = grind (arith)

pub returns-in_ok-set-in-Assignment-clause-values : goal.returns-in_ok-set-in-Assignment-clause-values
returns-in_ok-set-in-Assignment-clause-values c = grind (arith)

pub returns-in_ok-push-in-Primitive-clause-fault : goal.returns-in_ok-push-in-Primitive-clause-fault
returns-in_ok-push-in-Primitive-clause-fault c = grind (arith)
