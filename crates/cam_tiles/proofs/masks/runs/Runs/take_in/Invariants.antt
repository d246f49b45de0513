use Rattle.cam_tiles.proofs.TakenRuns.{AreTaken}
use Rattle.cam_tiles.proofs.masks.runs.Runs.take_in.Given as goal

abbrev pub invariant-loop-row : goal.invariant-loop-row
invariant-loop-row l = AreTaken l.fn.self l.fn.other l.self l.row
