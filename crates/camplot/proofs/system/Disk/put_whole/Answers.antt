use Rattle.std.proofs.Common.{arith}
use Rattle.camplot.proofs.system.Disk.put_whole.Goals as goal
use Rattle.camplot.proofs.Straight.{still_plain}

pub returns-clause-straight : goal.returns-clause-straight
returns-clause-straight g c = λ not plain straight.
    c.put_anyway.ensures.straight not
    (λ there. still_plain _ _ c.in-Err.ensures.found (plain (grind (arith, there, c.is_some.ensures))))
    c.in-Err.ensures.unmade straight
