use Rattle.cam_shapes.specs.Box.{IsInObround}
use Rattle.cam_rows.proofs.WideRows.{AreRunsAbove}
use Rattle.cam_rows.proofs.runs.obround.obround_runs.Given as goal

abbrev pub invariant-loop-k : goal.invariant-loop-k
invariant-loop-k l = AreRunsAbove l.firsts l.ends l.top (λ s. IsInObround s l.obround) l.k
