use Rattle.cam_units.specs.Boxes.{IsInBox}
use Rattle.cam_shapes.specs.Swept.{high_corner, low_corner}
use Rattle.cam_rows.proofs.WideRows.{AreRunsAbove}
use Rattle.cam_rows.proofs.runs.boxes.box_runs.Given as goal

abbrev pub invariant-loop-k : goal.invariant-loop-k
invariant-loop-k l = AreRunsAbove l.firsts l.ends l.top (λ s. IsInBox (low_corner l.swept) (high_corner l.swept) s) l.k
