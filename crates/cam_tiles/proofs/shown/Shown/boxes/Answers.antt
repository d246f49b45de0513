use Rattle.std.proofs.Common.{arith}
use Rattle.cam_tiles.proofs.shown.Shown.boxes.Goals as goal

pub boxes_by-requires-clause-sound : goal.boxes_by-requires-clause-sound
boxes_by-requires-clause-sound c = grind (arith)

pub boxes_by-requires-clause-copies : goal.boxes_by-requires-clause-copies
boxes_by-requires-clause-copies c = grind (arith)

pub boxes-requires : goal.boxes-requires
boxes-requires c = grind (arith)

pub returns-in-Drill : goal.returns-in-Drill
returns-in-Drill c = grind (arith)

pub returns-in-Gerber : goal.returns-in-Gerber
returns-in-Gerber c = grind (arith)
