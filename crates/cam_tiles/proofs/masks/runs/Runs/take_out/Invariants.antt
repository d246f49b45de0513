use Rattle.cam_tiles.proofs.RestOfRuns.{AreTakenOut}
use Rattle.cam_tiles.proofs.masks.runs.Runs.take_out.Given as goal

abbrev pub invariant-loop-row : goal.invariant-loop-row
invariant-loop-row l = AreTakenOut l.fn.self l.fn.other l.self l.row
