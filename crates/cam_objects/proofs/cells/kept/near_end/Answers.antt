use Rattle.std.proofs.Common.{IfSome, subst}
use Rattle.cam_objects.specs.Cells.{AreCellsOf}
use Rattle.cam_objects.proofs.cells.kept.near_end.Goals as goal

pub returns-in-Some-clause-apart : goal.returns-in-Some-clause-apart
returns-in-Some-clause-apart c = λ boxes kept.
    c.near_end.ensures.apart boxes
    (subst (λ cells. IfSome cells (λ these. AreCellsOf boxes these.now)) c.in-Some.is kept)
