use Rattle.std.proofs.Common.{arith}
use Rattle.cam_c.proofs.Unopened.{unopened}
use Rattle.cam_c.proofs.session.begin.Goals as goal

pub returns-in-Ok-clause-err : goal.returns-in-Ok-clause-err
returns-in-Ok-clause-err c =
    rw (c.from.ensures, c.number.ensures) (unopened c.args.depth c.in-Ok.station (rw c.in-Ok.is at c.new.ensures))

pub returns-clause-err : goal.returns-clause-err
returns-clause-err c = grind (arith)

pub returns-in-Ok-new-clause-ok : goal.returns-in-Ok-new-clause-ok
returns-in-Ok-new-clause-ok c = grind (arith)
